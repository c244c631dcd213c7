-- The basis states that stand for coordinates are those which the formulas read.
use Rattle.std.specs.Prelude.{◌≡◌, refl, Bool, eqb}
use Rattle.std.proofs.Math.Path.{ap}
use Rattle.std.proofs.Common.{◌∙◌, add-mul, eqb-true}
use Rattle.std.proofs.Math.Bool.{true, false}
use Prim.Native.Nat.{ℕ, zero, suc, ◌+◌, ◌*◌, ◌/◌, ◌%◌, ◌^◌, ◌<◌}
use native.Mathlib.Omega.{arith}
use Rattle.bitlaws.specs.Opening.{open_bit}
use Rattle.bitlaws.specs.Parity.{overlap}
use Rattle.bitlaws.proofs.Parity.{overlap_zero_l}
use Rattle.bitlaws.specs.Source.{source}
use Rattle.paulilaws.specs.Pauli.{Pauli, hermitian}
use Rattle.paulilaws.proofs.Algebra.{hermitian_parity}
use Rattle.paulilaws.specs.Fitting.{Fitting}
use Rattle.amplitudelaws.specs.Projection.{minus}
use Rattle.amplitudelaws.specs.Book.Operators.{with_qubit, standing}

-- by the first argument, where M is diagonal the basis with the branch's parity, else the one whose pivot is 0
unfoldable pub basis_read : Bool → Pauli → ℕ → ℕ → ℕ → ℕ
basis_read true M p v j = source p M.z (minus M.k + v) j
basis_read false M p v j = open_bit p j

opened : (p d j : ℕ) → with_qubit p d j ≡ open_bit p j + d * 2 ^ p
unfolding with_qubit open_bit
opened p d j = omega (arith, add-mul (j / 2 ^ p * 2) d (2 ^ p))

cleared : (p j : ℕ) → with_qubit p 0 j ≡ open_bit p j
cleared p j = opened p 0 j ∙ omega arith

-- i^k is 1 or -1
halved : (k : ℕ) → k < 4 → k % 2 ≡ 0 → k / 2 ≡ minus k
unfolding minus
halved zero l e = refl
halved (suc zero) l e = absurd (omega arith)
halved (suc (suc zero)) l e = refl
halved (suc (suc (suc k))) l e = absurd (omega arith)

module _ (M : Pauli) (p v : ℕ) (fitting : Fitting M) (even : hermitian M ≡ true) (j : ℕ) where
  by : (d : Bool) → eqb M.x 0 ≡ d → standing d M p v j ≡ basis_read d M p v j
  unfolding standing basis_read source
  by true e =
      let o : ℕ = overlap (open_bit p j) M.z in
      let real : M.k % 2 ≡ 0 = hermitian_parity M even ∙ ap (λ (x : ℕ). overlap x M.z) (eqb-true M.x 0 e) ∙ overlap_zero_l M.z in
      let half : M.k / 2 ≡ minus M.k = halved M.k (omega (arith, fitting.phase)) real in
      let bit : (M.k / 2 + overlap (with_qubit p 0 j) M.z + v) % 2 ≡ (minus M.k + v + o) % 2
      = rw (cleared p j, half) (turned (minus M.k) o v) in
      opened p ((M.k / 2 + overlap (with_qubit p 0 j) M.z + v) % 2) j ∙ ap (λ (b : ℕ). open_bit p j + b * 2 ^ p) bit
    where
      turned : (m o v : ℕ) → (m + o + v) % 2 ≡ (m + v + o) % 2
      turned m o v = omega arith
  by false e = cleared p j

  pub standing_read : standing (eqb M.x 0) M p v j ≡ basis_read (eqb M.x 0) M p v j
  standing_read = by (eqb M.x 0) refl
