-- `put_end`: the newline behind the frame.
use native.Mathlib.Omega.{arith}
use Rattle.activepauli.specs.Active.{active_of}
use Rattle.reports.specs.Lengths.{narrow_most}
use Rattle.lines.specs.Stored.{stored_next}
use Rattle.reports.specs.Text.{frame_text, end_line}
use Rattle.reports.proofs.line.put_end.Goals as goal

pub put-requires : goal.put-requires
put-requires c =
    omega (arith, c.requires.1, c.put_named-end.ensures.ends, narrow_most (active_of c.args.pauli) c.requires.0.narrow)

pub returns : goal.returns
unfolding end_line frame_text
returns c = stored_next c.put_named-end.ensures c.put.ensures
