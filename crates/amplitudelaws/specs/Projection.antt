-- The projection of a state on a branch of a measured Pauli, read in the qubits that are left when the pivot is dropped.
use Rattle.std.specs.Prelude.{Bool, true, false, ℕ, ◌+◌, eqb}
use Rattle.std.specs.Int.Bits.{bit_xor}
use Rattle.bitlaws.specs.Digit.{bit_of}
use Rattle.bitlaws.specs.Opening.{open_bit}
use Rattle.bitlaws.specs.Parity.{overlap}
use Rattle.bitlaws.specs.Source.{source}
use Rattle.paulilaws.specs.Pauli.{Pauli}
use Rattle.amplitudelaws.specs.Arithmetic.{Amplitude, Arithmetic, power, conjugate, direction, scale, scaled, mixed}

-- 1 where i^k is -1
unfoldable pub minus : ℕ → ℕ
minus k = bit_of (eqb k 2)

module _ {R : Type 0} (A : Arithmetic R) where
  open A use {h}

  -- conj (i^k) h
  unfoldable pub projection_coefficient : ℕ → Amplitude R
  projection_coefficient k = scaled A (conjugate A (power A k)) h

  -- What branch v leaves at j, before invnorm. x = 0: the basis with the branch's parity is read, 1 more of it where i^k is -1 (minus).
  abbrev pub remaining_diagonal : ℕ → ℕ → ℕ → ℕ → (ℕ → Amplitude R) → ℕ → Amplitude R
  remaining_diagonal z minus p v F j = F (source p z (minus + v) j)

  -- x not 0: two are mixed, the second by the coefficient, or by its negative where the branch differs from the parity at the first
  abbrev pub remaining_mixed : ℕ → ℕ → Amplitude R → ℕ → ℕ → (ℕ → Amplitude R) → ℕ → Amplitude R
  remaining_mixed x z coefficient p v F j =
      let b = open_bit p j in
      mixed A h (scale A (direction A (v + overlap b z)) coefficient) (F b) (F (bit_xor b x))

  -- which of them: whether x is 0
  unfoldable pub remaining_by : Bool → ℕ → ℕ → ℕ → Amplitude R → ℕ → ℕ → (ℕ → Amplitude R) → ℕ → Amplitude R
  remaining_by true x z minus coefficient p v F j = remaining_diagonal z minus p v F j
  remaining_by false x z minus coefficient p v F j = remaining_mixed x z coefficient p v F j

  unfoldable pub remaining : Pauli → ℕ → ℕ → (ℕ → Amplitude R) → ℕ → Amplitude R
  remaining M = remaining_by (eqb M.x 0) M.x M.z (minus M.k) (projection_coefficient M.k)

  -- the amplitude at j after the projection of M, pivot p, on branch v
  unfoldable pub projected : Pauli → ℕ → ℕ → R → (ℕ → Amplitude R) → ℕ → Amplitude R
  projected M p v invnorm F j = scaled A (remaining M p v F j) invnorm
