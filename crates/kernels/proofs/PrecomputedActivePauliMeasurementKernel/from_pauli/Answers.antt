use mathlib.Core.Path.{ap, ◌∙◌}
use Prim.Native.Nat.{◌^◌}
use Rattle.activepauli.specs.Active.{active_of}
use Rattle.kernels.specs.Kernel.{highest_or_zero}
use Rattle.kernels.specs.Pivot.{mask_below}
use Rattle.kernels.proofs.DefaultPivot.{default_answered}
use borrow.Author.Rules.{rules}
use Rattle.kernels.proofs.PrecomputedActivePauliMeasurementKernel.from_pauli.Goals as goal

pub returns : goal.returns
returns c =
    let M = active_of c.args.pauli in
    let pivot = c.highest_or_zero-pivot.ensures ∙ ap (highest_or_zero 64) c.pivot_mask.ensures in
    c.with_pivot.ensures ∙ default_answered M 64 (mask_below M (2 ^ 64) (search rules) (search rules)) _ pivot
