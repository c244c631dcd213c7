-- The promotion of a qubit: the state times c|0> + i q|1>, the new qubit being the highest.
use Rattle.std.specs.Prelude.{◌≡◌, ℕ, ◌+◌, ◌-◌, ◌^◌}
use native.Mathlib.Omega.{arith}
use Rattle.std.proofs.Common.{le-ltb}
use Rattle.amplitudelaws.specs.Arithmetic.{Amplitude, Arithmetic}
use Rattle.amplitudelaws.specs.Promotion.{raised, promoted}

module _ {R : Type 0} (A : Arithmetic R) where
  module _ (n : ℕ) (c q : R) (F : ℕ → Amplitude R) (b : ℕ) where
    pub promoted_high : promoted A n c q F (2 ^ n + b) ≡ raised A q (F b)
    unfolding promoted
    promoted_high = let less : 2 ^ n + b - 2 ^ n ≡ b = omega arith in rw (le-ltb (2 ^ n + b) (2 ^ n) (omega arith), less)
