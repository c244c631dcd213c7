-- `list_frames`: a text that is measured, and then refused or put.
use Rattle.std.proofs.Common.{arith}
use Rattle.lines.specs.Pieces.{lined_short, lined_all}
use Rattle.reports.proofs.list_frames.Goals as goal

pub returns-then-out-len : goal.returns-then-out-len
returns-then-out-len c = lined_short _ _ (omega (arith, c.put_frames-len.ensures.ends))

pub returns : goal.returns
returns c =
    let size = c.put_frames-len.ensures.ends in
    lined_all _ _ _ _ (omega (arith, size)) (omega (arith, size)) (c.put_frames.ensures.holds (omega (arith, size)))
