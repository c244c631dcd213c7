-- A kernel that was made of a Pauli: the loops can take it, and it rotates as the Pauli does.
use mathlib.Core.Path.{◌≡◌, refl, sym, ap, ◌∙◌, subst}
use mathlib.Core.Bool.{Bool, true, false, not, ◌&&◌}
use Prim.Native.Nat.{ℕ, ◌<◌}
use native.Mathlib.Omega.{arith}
use lib.Dec.{eqb}
use lib.Ieee.{Float}
use borrow.Author.Tests.{eqb-false}
use Rattle.answers.specs.Answer.Answer.{accepted, refused}
use Rattle.std.specs.Prelude.{Result}
use Rattle.std.specs.Result.{IsErrAnd}
use Rattle.answers.specs.Outcome.{finished}
use Rattle.answers.specs.Row.{answered, left, left_some, first_some, first_none, refused_row, accepted_row}
use Rattle.refusals.specs.declared.Row.{Row}
use Rattle.refusals.specs.Refusal.{number_of}
use Rattle.refusals.proofs.Asked.{number_some, asked}
use Rattle.rows.specs.Step.{step_answer_of}
use Rattle.paulilaws.specs.Pauli.{Pauli}
use Rattle.amplitudelaws.specs.Binary.{binary}
use Rattle.amplitudelaws.specs.Rotation.{rotated, rotated_by, rotation_coefficient}
use Rattle.amplitudelaws.specs.Rows.{rotation_kernel_row, rotation_row, room_row}
use Rattle.amplitudelaws.specs.Passed.{rotation_passed}
use Rattle.amplitudelaws.specs.State.{State, room, point, written}
use Rattle.amplitudelaws.specs.Steps.{rotation}
use Rattle.kernels.specs.Kernel.{RotationKernel, rotation_kernel, pauli_action}
use Rattle.kernels.specs.Pivot.{highest_pivot}
use Rattle.rotation.specs.Kernel.{Rotatable, by_kernel}

module _ (P : Pauli) (c s : Float) where
  made_rotatable : rotation_kernel_row P c s ≡ 0 → Rotatable (rotation_kernel P c s)
  unfolding rotation_kernel pauli_action
  made_rotatable e =
      let passed = rotation_passed P c s e in
      record {
        narrow = passed.1;
        pivot = λ d. highest_pivot P.n P.x passed.0.xs (eqb-false P.x 0 d);
      }

  -- without an X part it does not matter whether there is a Z part
  by_made : (sign : ℕ) (S : State) → by_kernel (rotation_kernel P c s) sign S ≡ rotation P sign c s S
  unfolding by_kernel rotation rotated rotated_by rotation_kernel pauli_action
  by_made sign S = go (eqb P.x 0)
    where
      go : (d : Bool) → written P.n (rotated_by binary d (not d && eqb P.z 0) P.x P.z sign c (rotation_coefficient binary P.k s) (point S)) S
          ≡ written P.n (rotated_by binary d (eqb P.z 0) P.x P.z sign c (rotation_coefficient binary P.k s) (point S)) S
      go true = refl
      go false = refl

  module _ (S : State) where
    -- it was refused, by this row
    pub kernel_refused : (n : ℕ) → refused n ≡ answered (rotation_kernel_row P c s) (rotation_kernel P c s) → (n ≡ rotation_row P c s S) × (0 < n)
    unfolding rotation_row
    kernel_refused n e =
        let told = refused_row (rotation_kernel_row P c s) (rotation_kernel P c s) n e in
        let some_row : 0 < rotation_kernel_row P c s = omega (arith, told.0, told.1) in
        (sym (first_some (rotation_kernel_row P c s) (room_row (room P.n S)) some_row ∙ told.0), told.1)

    module _ (K : RotationKernel) (e : accepted K ≡ answered (rotation_kernel_row P c s) (rotation_kernel P c s)) where
      passed : rotation_kernel_row P c s ≡ 0
      passed = (accepted_row (rotation_kernel_row P c s) (rotation_kernel P c s) K e).0

      is : rotation_kernel P c s ≡ K
      is = sym (accepted_row (rotation_kernel_row P c s) (rotation_kernel P c s) K e).1

      pub kernel_rotatable : Rotatable K
      kernel_rotatable = subst Rotatable is (made_rotatable passed)

      pub kernel_width : P.n ≡ K.action.n
      unfolding rotation_kernel pauli_action
      kernel_width = ap (λ (L : RotationKernel). L.action.n) is

      -- only the room is left to be looked at
      pub kernel_row : room_row (room P.n S) ≡ rotation_row P c s S
      unfolding rotation_row
      kernel_row = sym (first_none (rotation_kernel_row P c s) (room_row (room P.n S)) passed)

      pub kernel_rotates : (sign : ℕ) → by_kernel K sign S ≡ rotation P sign c s S
      kernel_rotates sign = sym (ap (λ (L : RotationKernel). by_kernel L sign S) is) ∙ by_made sign S

-- where a `?` hands on the row that refuses, what was lent is as it was
pub refused_left : {A : Type 0} (R : ℕ) (new S : State) (x : Result A Row) (e : Row) → IsErrAnd x (λ r. r ≡ e) → number_of e ≡ R
    → (step_answer_of x ≡ answered R finished) × (S ≡ left R new S)
refused_left R new S x e h is =
    (asked x e R (λ done. finished) finished h is, sym (left_some R new S (omega (arith, is, number_some e))))
