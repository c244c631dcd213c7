-- Parity, and the parity of what two masks share, over masks of any width: linear in each.
use Rattle.std.specs.Prelude.{◌≡◌, refl, Bool, true, false, ℕ, ◌+◌, ◌/◌, ◌%◌, ◌<◌, min, eqb}
use Rattle.std.proofs.Common.{sym, ap, ap₂, ◌∙◌, zero-lt-suc, arith}
use Rattle.std.specs.Int.Bits.{bit_and}
use Rattle.std.proofs.lemmas.Nat.{and_shr, and_comm, ones-le}
use Rattle.std.specs.Int.Count.{ones, ones_step}
use Rattle.std.specs.Float.Ieee.{unlike}
use Rattle.bitlaws.specs.Digit.{bit_of, by_digit}
use Rattle.bitlaws.specs.Bitwise.{and_odd}

-- the count of ones, modulo 2
unfoldable pub parity : ℕ → ℕ
parity a = ones a % 2

-- the parity of the ones that a and b share
unfoldable pub overlap : ℕ → ℕ → ℕ
unfolding parity
overlap a b = parity (bit_and a b)

pub ones_zero : ones 0 ≡ 0
ones_zero = omega (arith, ones-le 0 0 (zero-lt-suc 0))

pub overlap_comm : (a b : ℕ) → overlap a b ≡ overlap b a
unfolding overlap
overlap_comm a b = ap parity (and_comm a b)

-- the lowest digit that a and b share, and the rest
pub ones_and : (a b : ℕ) → ones (bit_and a b) ≡ min (a % 2) (b % 2) + ones (bit_and (a / 2) (b / 2))
ones_and a b = ones_step (bit_and a b) ∙ ap₂ (λ (p q : ℕ). p + ones q) (and_odd a b) (and_shr a b 1)

-- a bit that differs from a parity, and the parity of their sum
pub bit_differs : (t : Bool) (p : ℕ) → p < 2 → unlike t (eqb p 1) ≡ eqb ((bit_of t + p) % 2) 1
bit_differs true = by_digit (λ p. unlike true (eqb p 1) ≡ eqb ((bit_of true + p) % 2) 1) refl refl
bit_differs false = by_digit (λ p. unlike false (eqb p 1) ≡ eqb ((bit_of false + p) % 2) 1) refl refl

-- two digits differ where their sum is odd
pub digits_differ : (a b : ℕ) → a < 2 → b < 2 → eqb ((a + b) % 2) 1 ≡ unlike (eqb a 1) (eqb b 1)
digits_differ a b ha hb =
    by_digit (λ a. eqb ((a + b) % 2) 1 ≡ unlike (eqb a 1) (eqb b 1)) (sym (bit_differs false b hb)) (sym (bit_differs true b hb)) a ha
