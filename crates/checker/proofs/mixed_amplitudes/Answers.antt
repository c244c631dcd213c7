-- the width of a projection
use mathlib.Core.Path.{◌∙◌}
use mathlib.Core.Logic.{⊎_elim}
use Prim.Native.Nat.{◌-◌, ◌<◌, ◌≤◌}
use native.Mathlib.Omega.{arith}
use borrow.Author.Tests.{ne_eqb}
use Rattle.bitlaws.specs.Digit.{one_shifted}
use Rattle.amplitudelaws.specs.Rows.{widest_kernel}
use Rattle.framelaws.specs.Survey.{mixed_amplitudes}
use Rattle.checker.proofs.mixed_amplitudes.Goals as goal
use Rattle.checker.proofs.mixed_amplitudes.Goals.{Else-pauli-eq0}

pub returns-then-pauli-eq0 : goal.returns-then-pauli-eq0
unfolding mixed_amplitudes
returns-then-pauli-eq0 c = rw (c.in-Projection.is, c.if-pauli-eq0.true)

measured : (c : Else-pauli-eq0) → (0 < c.args.width) × (c.args.width ≤ widest_kernel)
measured c = rw c.in-Projection.is at c.requires

pub overflow_sub-result : goal.overflow_sub-result
overflow_sub-result c = let m = measured c in omega arith

pub overflow_shl-result : goal.overflow_shl-result
overflow_shl-result c = let m = measured c in omega arith

pub returns-else-pauli-eq0 : goal.returns-else-pauli-eq0
unfolding mixed_amplitudes
returns-else-pauli-eq0 c =
    let m = measured c in
    one_shifted 64 (c.args.width - 1) (omega arith) ∙ rw (c.in-Projection.is, ne_eqb c.in-Projection.pauli.x 0 c.if-pauli-eq0.false)

pub returns-in-Rotation : goal.returns-in-Rotation
unfolding mixed_amplitudes
returns-in-Rotation c =
    ⊎_elim (λ h. rw h.4) (⊎_elim (λ h. rw h.2) (⊎_elim (λ h. rw h.1) (λ h. rw h.1))) c.in-Rotation.is
