-- `put_label`: the kind behind the number.
use native.Mathlib.Omega.{arith}
use Rattle.reports.specs.Lengths.{word_digits}
use Rattle.lines.specs.Stored.{stored_next}
use Rattle.reports.specs.Text.{step_text}
use Rattle.reports.proofs.line.put_label.Goals as goal

pub put_numbered-first-requires : goal.put_numbered-first-requires
put_numbered-first-requires c = omega (arith, c.requires.1, word_digits c.args.number c.ranges.number.fits)

pub put-second-requires : goal.put-second-requires
put-second-requires c =
    omega (arith, c.requires.1, c.put_numbered-first.ensures.ends, word_digits c.args.number c.ranges.number.fits)

pub put_kind-requires : goal.put_kind-requires
put_kind-requires c =
    (c.requires.0, omega (arith, c.requires.1, c.put-second.ensures.ends, c.put_numbered-first.ensures.ends, word_digits c.args.number c.ranges.number.fits))

pub returns : goal.returns
unfolding step_text
returns c = stored_next c.put_numbered-first.ensures (stored_next c.put-second.ensures c.put_kind.ensures)
