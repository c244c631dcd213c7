-- The probability of a branch, before it is clamped: the squares of what the branch leaves, added from 0 by rising index.
use Rattle.std.specs.Prelude.{ℕ, zero, suc}
use Rattle.paulilaws.specs.Pauli.{Pauli}
use Rattle.amplitudelaws.specs.Arithmetic.{Amplitude, Arithmetic}
use Rattle.amplitudelaws.specs.Projection.{remaining}

module _ {R : Type 0} (A : Arithmetic R) where
  open A use {nought, add, mul}

  unfoldable pub squared : Amplitude R → R
  squared a = add (mul a.re a.re) (mul a.im a.im)

  -- f 0 + f 1 + .. + f (n - 1), from the left
  unfoldable pub total : ℕ → (ℕ → R) → R
  total zero f = nought
  total (suc n) f = add (total n f) (f n)

  -- over the first `count` indices of what branch v of M leaves
  unfoldable pub mass : Pauli → ℕ → ℕ → ℕ → (ℕ → Amplitude R) → R
  mass M p v count F = total count (λ j. squared (remaining A M p v F j))
