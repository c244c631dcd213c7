-- The highest set bit of a mask.
use Rattle.std.specs.Prelude.{◌≡◌, cond, ℕ, zero, suc, ◌/◌, ◌%◌, ◌^◌, ◌≤◌, ◌<◌, eqb}
use Rattle.std.proofs.Common.{ap, pow-suc, arith}
use Rattle.std.proofs.Math.Option.{Option, none, some}
use Rattle.std.proofs.Math.Nat.{div-eq_of_lt-le}
use Rattle.bitlaws.specs.Digit.{digit, digit_above}

-- the highest of the n lowest digits of a that is set, none where none is
unfoldable pub highest : ℕ → ℕ → Option ℕ
highest zero a = none
highest (suc n) a = cond (eqb (digit n a) 1) (some n) (highest n a)

-- q is set, and nothing from there up to n
pub record Top (n a q : ℕ) : Type 0 where
  pub inside : q < n
  pub set : digit q a ≡ 1
  pub above : (r : ℕ) → q < r → r < n → digit r a ≡ 0

-- between two powers of two
pub power_top : (n a q : ℕ) → q < n → 2 ^ q ≤ a → a < 2 ^ suc q → Top n a q
unfolding digit
power_top n a q h low high =
    let one : a / 2 ^ q ≡ 1 = div-eq_of_lt-le {k = 1} (2 ^ q) (omega arith) (omega (arith, pow-suc 2 q)) in
    record { inside = h; set = ap (λ (m : ℕ). m % 2) one; above = λ r l m. digit_above (suc q) r a high l }
