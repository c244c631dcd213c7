-- A bit of a mask opened, and dropped, at any place.
use Rattle.std.specs.Prelude.{◌≡◌}
use Rattle.std.proofs.Math.Path.{ap}
use Prim.Native.Nat.{ℕ, ◌+◌, ◌*◌, ◌/◌, ◌%◌, ◌^◌, ◌<◌}
use Rattle.std.proofs.Math.Nat.{mod-eq_of_lt, div-eq_of_lt}
use native.Mathlib.Omega.{arith}

-- j with a zero bit opened at p: the bits below p stay, the others move up one
unfoldable pub open_bit : ℕ → ℕ → ℕ
open_bit p j = j / 2 ^ p * 2 * 2 ^ p + j % 2 ^ p

-- b without its bit p: the bits below p stay, those above move down one
unfoldable pub drop_bit : ℕ → ℕ → ℕ
drop_bit p b = b / 2 ^ p / 2 * 2 ^ p + b % 2 ^ p

module _ (p : ℕ) where
  -- above all bits of j there is nothing to move
  pub open_small : (j : ℕ) → j < 2 ^ p → open_bit p j ≡ j
  unfolding open_bit
  open_small j h = omega (arith, ap (λ (m : ℕ). m * 2 * 2 ^ p) (div-eq_of_lt h), mod-eq_of_lt h)
