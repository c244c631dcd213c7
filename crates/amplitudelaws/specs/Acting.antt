-- What a step makes of the amplitudes, and what a list of steps does, over any arithmetic.
use Rattle.std.specs.Prelude.{◌≡◌, true, List, [], ◌∷◌, ℕ, ◌<◌}
use Rattle.bitlaws.specs.Digit.{digit}
use Rattle.paulilaws.specs.Pauli.{Pauli, hermitian}
use Rattle.paulilaws.specs.Fitting.{Fitting}
use Rattle.amplitudelaws.specs.Arithmetic.{Amplitude, Arithmetic}
use Rattle.amplitudelaws.specs.Rotation.{rotated}
use Rattle.amplitudelaws.specs.Promotion.{promoted}
use Rattle.amplitudelaws.specs.Projection.{projected}
use Rattle.amplitudelaws.specs.Correction.{corrected}
use Rattle.amplitudelaws.specs.Rows.{pivot_mask}
use Rattle.amplitudelaws.specs.Step.{Step, width_after}
use Rattle.amplitudelaws.specs.Step.Step.{rotation, promotion, projection, correction, quarter_turn}

module _ {R : Type 0} (A : Arithmetic R) where
  -- a step at n qubits
  unfoldable pub acts : ℕ → Step R → (ℕ → Amplitude R) → ℕ → Amplitude R
  acts n (rotation P sign c s) F = rotated A P sign c s F
  acts n (promotion c q) F = promoted A n c q F
  acts n (projection M p v invnorm) F = projected A M p v invnorm F
  acts n (correction P) F = corrected A P F
  acts n (quarter_turn P) F = rotated A P 0 A.h A.h F

  -- one step after the other
  unfoldable pub acted : ℕ → List (Step R) → (ℕ → Amplitude R) → ℕ → Amplitude R
  acted n [] F = F
  acted n (t ∷ ts) F = acted (width_after n t) ts (acts n t F)

-- a Hermitian Pauli that has the pivot p
pub record Measurable (M : Pauli) (p : ℕ) : Type 0 where
  pub fitting : Fitting M
  pub real : hermitian M ≡ true
  pub inside : p < M.n
  pub has : digit p (pivot_mask M) ≡ 1

module _ {R : Type 0} where
  -- What is asked of a step at n qubits, the numbers in it aside: a Pauli on the n qubits, Hermitian where it is rotated or measured, and a pivot that it has.
  abbrev pub Proper : ℕ → Step R → Type 0
  Proper n (rotation P sign c s) = (P.n ≡ n) × Fitting P × (hermitian P ≡ true)
  Proper n (promotion c q) = Unit
  Proper n (projection M p v invnorm) = (M.n ≡ n) × Measurable M p
  Proper n (correction P) = (P.n ≡ n) × Fitting P
  Proper n (quarter_turn P) = (P.n ≡ n) × Fitting P × (hermitian P ≡ true)

  abbrev pub Propers : ℕ → List (Step R) → Type 0
  Propers n [] = Unit
  Propers n (t ∷ ts) = Proper n t × Propers (width_after n t) ts
