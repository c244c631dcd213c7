-- The promotion of a qubit: the state times c|0> + i q|1>, the new qubit being the highest.
use Rattle.std.specs.Prelude.{◌≡◌, cond, ℕ, ◌-◌, ◌^◌, ◌<◌, ltb}
use Rattle.std.proofs.Common.{lt-ltb}
use Rattle.amplitudelaws.specs.Arithmetic.{Amplitude, Arithmetic, scale}

module _ {R : Type 0} (A : Arithmetic R) where
  open A use {neg, mul}

  -- i q p, for a real q
  unfoldable pub raised : R → Amplitude R → Amplitude R
  raised q p = record { re = mul (neg q) p.im; im = mul q p.re }

  -- the amplitude at b of the n + 1 qubits
  unfoldable pub promoted : ℕ → R → R → (ℕ → Amplitude R) → ℕ → Amplitude R
  promoted n c q F b = cond (ltb b (2 ^ n)) (scale A c (F b)) (raised q (F (b - 2 ^ n)))

  module _ (n : ℕ) (c q : R) (F : ℕ → Amplitude R) (b : ℕ) where
    pub promoted_low : b < 2 ^ n → promoted n c q F b ≡ scale A c (F b)
    unfolding promoted
    promoted_low h = rw (lt-ltb b (2 ^ n) h)
