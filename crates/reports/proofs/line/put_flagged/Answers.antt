-- `put_flagged`: the qubits behind either word.
use mathlib.Core.Path.{sym, subst}
use mathlib.Core.Bool.{Bool}
use Rattle.framelaws.specs.Reporting.Report.{flagged}
use Rattle.lines.specs.Stored.{Stored, stored_next}
use Rattle.reports.specs.Text.{flag_text}
use Rattle.reports.proofs.line.put_flagged.Goals as goal

pub returns-then-flag : goal.returns-then-flag
unfolding flag_text
returns-then-flag c =
    let done = c.put_mask in
    subst (λ (t : Bool). Stored (flag_text c.args.width (flagged t c.args.flag.mask)) c.args.at c.args.out.now done.result done.new.out) (sym c.if-flag.true)
    (stored_next c.put-end.ensures done.ensures)

pub returns : goal.returns
unfolding flag_text
returns c =
    let done = c.put_mask-2 in
    subst (λ (t : Bool). Stored (flag_text c.args.width (flagged t c.args.flag.mask)) c.args.at c.args.out.now done.result done.new.out) (sym c.if-flag.false)
    (stored_next c.put-end-2.ensures done.ensures)
