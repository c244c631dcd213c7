-- `and`, `or` and `xor` of masks of any width, digit by digit.
use Rattle.std.specs.Prelude.{◌≡◌, refl, ℕ, ◌+◌, ◌*◌, ◌/◌, ◌%◌, ◌^◌, ◌<◌, min, max}
use Rattle.std.proofs.Math.Path.{ap}
use Rattle.std.proofs.Common.{◌∙◌, arith}
use Rattle.std.specs.Int.Bits.{bit_and, bit_or, bit_xor, differ, and_step, or_step, xor_step}
use Rattle.std.proofs.lemmas.Nat.{and_shr, or_shr, xor_shr}
use Rattle.bitlaws.specs.Digit.{digit, by_digit, mod_two}

-- an operation whose lowest digit is `bit` of the lowest digits, and which a shift goes through: every digit is `bit` of the digits there
module _ (op bit : ℕ → ℕ → ℕ) (small : (c d : ℕ) → c < 2 → d < 2 → bit c d < 2)
    (step : (a b : ℕ) → op a b ≡ op (a / 2) (b / 2) * 2 + bit (a % 2) (b % 2)) (shr : (a b q : ℕ) → op a b / 2 ^ q ≡ op (a / 2 ^ q) (b / 2 ^ q)) where
  lowest : (a b : ℕ) → op a b % 2 ≡ bit (a % 2) (b % 2)
  lowest a b = omega (arith, step a b, small (a % 2) (b % 2) (mod_two a) (mod_two b))

  each : (q a b : ℕ) → digit q (op a b) ≡ bit (digit q a) (digit q b)
  unfolding digit
  each q a b = ap (λ (m : ℕ). m % 2) (shr a b q) ∙ lowest (a / 2 ^ q) (b / 2 ^ q)

min_lt : (c d : ℕ) → c < 2 → d < 2 → min c d < 2
min_lt c d p q = omega arith

max_lt : (c d : ℕ) → c < 2 → d < 2 → max c d < 2
max_lt c d p q = omega arith

-- two digits differ where their sum is odd
pub differ_sum : (a b : ℕ) → a < 2 → b < 2 → differ a b ≡ (a + b) % 2
differ_sum a b p q = by_digit (λ a. differ a b ≡ (a + b) % 2) (omega arith) (by_digit (λ b. differ 1 b ≡ (1 + b) % 2) refl refl b q) a p

differ_lt : (a b : ℕ) → a < 2 → b < 2 → differ a b < 2
differ_lt a b p q = rw (differ_sum a b p q) (mod_two (a + b))

pub and_odd : (a b : ℕ) → bit_and a b % 2 ≡ min (a % 2) (b % 2)
and_odd = lowest bit_and min min_lt and_step and_shr

pub digit_and : (q a b : ℕ) → digit q (bit_and a b) ≡ min (digit q a) (digit q b)
digit_and = each bit_and min min_lt and_step and_shr

pub digit_or : (q a b : ℕ) → digit q (bit_or a b) ≡ max (digit q a) (digit q b)
digit_or = each bit_or max max_lt or_step or_shr

pub xor_odd : (a b : ℕ) → bit_xor a b % 2 ≡ differ (a % 2) (b % 2)
xor_odd = lowest bit_xor differ differ_lt xor_step xor_shr

pub digit_xor : (q a b : ℕ) → digit q (bit_xor a b) ≡ (digit q a + digit q b) % 2
unfolding digit
digit_xor q a b =
    each bit_xor differ differ_lt xor_step xor_shr q a b ∙ differ_sum (a / 2 ^ q % 2) (b / 2 ^ q % 2) (mod_two (a / 2 ^ q)) (mod_two (b / 2 ^ q))
