-- `put_step`: the line is made in a buffer that has room for every such line, and put or measured from there.
use Rattle.std.proofs.Common.{◌≤◌, List, ℕ, length, ap, subst, rules, arith}
use Rattle.reporter.specs.Meaning.{framed_of}
use Rattle.reports.specs.Lengths.{step_most}
use Rattle.reports.specs.Text.{step_line}
use Rattle.reports.specs.Put.{PutFitting}
use Rattle.reports.proofs.Made.{inside, cut, whole}
use Rattle.reports.proofs.walk.put_step.Goals as goal
use Rattle.reports.proofs.walk.put_step.Goals.{After-put_step-len}

short : (c : After-put_step-len) → length (step_line c.args.number (framed_of c.args.framed)) ≤ 128
short c = step_most c.args.number _ (search rules) c.requires.0.frame c.requires.0.step

pub slice_bounds-text-end : goal.slice_bounds-text-end
slice_bounds-text-end c = inside 128 c.put_step-len.ensures (short (goal.at.slice_bounds-text-end c).After-put_step-len)

pub slice_bounds-put_fitting-end : goal.slice_bounds-put_fitting-end
slice_bounds-put_fitting-end c = cut 128 c.put_step-len.ensures (short (goal.at.slice_bounds-put_fitting-end c).After-put_step-len)

pub put_fitting-requires : goal.put_fitting-requires
put_fitting-requires c =
    let at = (goal.at.put_fitting-requires c).After-put_step-len in
    omega (arith, ap length (whole 128 c.put_step-len.ensures (short at)), short at, c.requires.1)

pub returns : goal.returns
returns c =
    let text = whole 128 c.put_step-len.ensures (short (goal.at.returns c).After-put_step-len) in
    subst (λ (line : List ℕ). PutFitting line c.args.at c.args.out.now c.put_fitting.result c.put_fitting.new.out) text c.put_fitting.ensures
