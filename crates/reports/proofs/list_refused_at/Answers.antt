-- `list_refused_at`: the line is made in a buffer that has room for every such line.
use Rattle.std.proofs.Common.{◌≤◌, List, ℕ, length, subst, rules}
use Rattle.lines.specs.Calls.{Lined}
use Rattle.refusals.specs.Refusal.{number_of}
use Rattle.reports.specs.Lengths.{refusal_at_most}
use Rattle.reports.specs.Text.{refusal_at_line}
use Rattle.reports.proofs.Made.{inside, cut, whole as made}
use Rattle.reports.proofs.Numbers.{number_byte}
use Rattle.reports.proofs.list_refused_at.Goals as goal
use Rattle.reports.proofs.list_refused_at.Goals.{After-put_refused_at-len}

short : (c : After-put_refused_at-len) → length (refusal_at_line (number_of c.args.row_at.row) c.args.row_at.at) ≤ 36
short c = refusal_at_most (number_of c.args.row_at.row) c.args.row_at.at (number_byte c.args.row_at.row) (search rules)

pub slice_bounds-text-end : goal.slice_bounds-text-end
slice_bounds-text-end c = inside 36 c.put_refused_at-len.ensures (short (goal.at.slice_bounds-text-end c).After-put_refused_at-len)

pub slice_bounds-whole-end : goal.slice_bounds-whole-end
slice_bounds-whole-end c = cut 36 c.put_refused_at-len.ensures (short (goal.at.slice_bounds-whole-end c).After-put_refused_at-len)

pub returns : goal.returns
returns c =
    let text = made 36 c.put_refused_at-len.ensures (short (goal.at.returns c).After-put_refused_at-len) in
    subst (λ (line : List ℕ). Lined line c.args.out.now c.whole.result c.whole.new.out) text c.whole.ensures
