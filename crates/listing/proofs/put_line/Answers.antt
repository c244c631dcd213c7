-- `put_line`: the line is written to the start of what stands from `at` on, where it fits and is not refused.
use Rattle.std.proofs.Common.{ℕ, ◌+◌, ap, refl, arith}
use Rattle.lines.specs.Pieces.{lined_at, length_same}
use Rattle.listing.proofs.put_line.Goals as goal

pub unwrap-requires : goal.unwrap-requires
unwrap-requires c =
    let done = lined_at _ c.args.out.now c.args.at _ _ c.requires c.amplitude.ensures in
    rw done.0 refl

pub overflow_add-result : goal.overflow_add-result
overflow_add-result c =
    let done = lined_at _ c.args.out.now c.args.at _ _ c.requires c.amplitude.ensures in
    omega (arith, c.requires, length_same done.0 c.unwrap.ensures)

pub returns : goal.returns
returns c =
    let done = lined_at _ c.args.out.now c.args.at _ _ c.requires c.amplitude.ensures in
    record { value = ap (λ (n : ℕ). c.args.at + n) (length_same done.0 c.unwrap.ensures); out_after = done.1 }
