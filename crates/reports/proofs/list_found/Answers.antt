-- `list_found`: the line is made in a buffer that has room for every such line.
use Rattle.std.proofs.Common.{◌≤◌, List, ℕ, length, subst, rules}
use Rattle.reporter.specs.Meaning.{framed_of}
use Rattle.reports.specs.Lengths.{step_most}
use Rattle.reports.specs.Text.{step_line}
use Rattle.lines.specs.Calls.{Lined}
use Rattle.reports.proofs.Made.{inside, cut, whole as made}
use Rattle.reports.proofs.list_found.Goals as goal
use Rattle.reports.proofs.list_found.Goals.{After-put_step-len}

short : (c : After-put_step-len) → length (step_line c.args.number (framed_of c.args.found)) ≤ 128
short c = step_most c.args.number _ (search rules) c.requires.frame c.requires.step

pub slice_bounds-text-end : goal.slice_bounds-text-end
slice_bounds-text-end c = inside 128 c.put_step-len.ensures (short (goal.at.slice_bounds-text-end c).After-put_step-len)

pub slice_bounds-whole-end : goal.slice_bounds-whole-end
slice_bounds-whole-end c = cut 128 c.put_step-len.ensures (short (goal.at.slice_bounds-whole-end c).After-put_step-len)

pub returns : goal.returns
returns c =
    let text = made 128 c.put_step-len.ensures (short (goal.at.returns c).After-put_step-len) in
    subst (λ (line : List ℕ). Lined line c.args.out.now c.whole.result c.whole.new.out) text c.whole.ensures
