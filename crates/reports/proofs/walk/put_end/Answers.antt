-- `put_end`: the line is made in a buffer that has room for every such line, and put or measured from there.
use Rattle.std.proofs.Common.{◌≤◌, List, ℕ, length, ap, subst, arith}
use Rattle.activepauli.specs.Active.{active_of}
use Rattle.reports.specs.Lengths.{end_most}
use Rattle.reports.specs.Put.{PutFitting}
use Rattle.reports.specs.Text.{end_line}
use Rattle.reports.proofs.Made.{inside, cut, whole}
use Rattle.reports.proofs.walk.put_end.Goals as goal
use Rattle.reports.proofs.walk.put_end.Goals.{After-put_end-len}

short : (c : After-put_end-len) → length (end_line (active_of c.args.frame)) ≤ 26
short c = end_most (active_of c.args.frame) c.requires.0.narrow

pub slice_bounds-text-end : goal.slice_bounds-text-end
slice_bounds-text-end c = inside 26 c.put_end-len.ensures (short (goal.at.slice_bounds-text-end c).After-put_end-len)

pub slice_bounds-put_fitting-end : goal.slice_bounds-put_fitting-end
slice_bounds-put_fitting-end c = cut 26 c.put_end-len.ensures (short (goal.at.slice_bounds-put_fitting-end c).After-put_end-len)

pub put_fitting-requires : goal.put_fitting-requires
put_fitting-requires c =
    let at = (goal.at.put_fitting-requires c).After-put_end-len in
    omega (arith, ap length (whole 26 c.put_end-len.ensures (short at)), short at, c.requires.1)

pub returns : goal.returns
returns c =
    let text = whole 26 c.put_end-len.ensures (short (goal.at.returns c).After-put_end-len) in
    subst (λ (line : List ℕ). PutFitting line c.args.at c.args.out.now c.put_fitting.result c.put_fitting.new.out) text c.put_fitting.ensures
