-- `put_step`: the four pieces have at most 54 + 22 + 51 + 1 bytes.
use Rattle.std.proofs.Common.{subst, arith}
use Rattle.activepauli.specs.Active.{active_of}
use Rattle.framelaws.specs.Reporting.{Report}
use Rattle.lines.specs.Stored.{Stored, stored_next}
use Rattle.reporter.specs.Meaning.{told_of}
use Rattle.steps.specs.Meaning.{step_of}
use Rattle.reports.specs.Lengths.{narrow_most, flag_most, text_most}
use Rattle.reports.specs.Text.{flag_text, frame_text, step_line}
use Rattle.reports.proofs.line.put_step.Goals as goal

pub put_named-second-requires : goal.put_named-second-requires
put_named-second-requires c =
    (c.requires.0.frame, omega (arith, c.requires.1, c.put_label-first.ensures.ends, text_most c.args.number (step_of c.args.framed.step) c.ranges.number.fits c.requires.0.step))

pub put_flag-last-requires : goal.put_flag-last-requires
put_flag-last-requires c =
    let P = active_of c.args.framed.frame in (
      c.requires.0.frame.narrow,
      omega (
        arith,
        c.requires.1,
        c.put_named-second.ensures.ends,
        c.put_label-first.ensures.ends,
        narrow_most P c.requires.0.frame.narrow,
        text_most c.args.number (step_of c.args.framed.step) c.ranges.number.fits c.requires.0.step,
      ),
    )

pub put-requires : goal.put-requires
put-requires c =
    let P = active_of c.args.framed.frame in
    omega (
      arith,
      c.requires.1,
      c.put_flag-last.ensures.ends,
      c.put_named-second.ensures.ends,
      c.put_label-first.ensures.ends,
      flag_most P.n c.requires.0.frame.narrow (told_of c.report_of-flag.result),
      narrow_most P c.requires.0.frame.narrow,
      text_most c.args.number (step_of c.args.framed.step) c.ranges.number.fits c.requires.0.step,
    )

pub returns : goal.returns
unfolding step_line frame_text
returns c =
    let named = c.put_named-second in
    let flag = c.put_flag-last in
    let told = subst (λ (r : Report). Stored (flag_text c.args.framed.frame.nqubits r) named.result named.new.out flag.result flag.new.out)
    c.report_of-flag.ensures flag.ensures in
    stored_next c.put_label-first.ensures (stored_next named.ensures (stored_next told c.put.ensures))
