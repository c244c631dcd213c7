-- Parity, and the parity of what two masks share, over masks of any width: linear in each.
use Rattle.std.specs.Prelude.{◌≡◌, ℕ, ◌+◌, ◌/◌, ◌%◌, ◌<◌, min}
use Rattle.std.proofs.Common.{sym, ap, ap₂, ◌∙◌, arith}
use Rattle.std.proofs.Math.Nat.{add-mod}
use Rattle.std.proofs.Math.Arith.{bin_ind}
use Rattle.std.specs.Int.Bits.{bit_and, bit_xor, differ, and_zero_l}
use Rattle.std.proofs.lemmas.Nat.{xor_shr}
use Rattle.std.specs.Int.Count.{ones}
use Rattle.bitlaws.specs.Digit.{by_digit, mod_two}
use Rattle.bitlaws.specs.Bitwise.{xor_odd}
use Rattle.bitlaws.specs.Parity.{parity, overlap, ones_zero, overlap_comm, ones_and}

pub parity_lt : (a : ℕ) → parity a < 2
unfolding parity
parity_lt a = mod_two (ones a)

pub overlap_lt : (a b : ℕ) → overlap a b < 2
unfolding overlap
overlap_lt a b = parity_lt (bit_and a b)

pub overlap_zero_l : (b : ℕ) → overlap 0 b ≡ 0
unfolding overlap
overlap_zero_l b = ap (λ (m : ℕ). ones m % 2) (and_zero_l b) ∙ ap (λ (m : ℕ). m % 2) ones_zero

pub overlap_zero_r : (a : ℕ) → overlap a 0 ≡ 0
overlap_zero_r a = overlap_comm a 0 ∙ overlap_zero_l a

sum_mod : (a b : ℕ) → (a + b) % 2 ≡ (a + b % 2) % 2
sum_mod a b = omega arith

overlap_step : (a b : ℕ) → overlap a b ≡ (min (a % 2) (b % 2) + overlap (a / 2) (b / 2)) % 2
unfolding overlap
overlap_step a b = ap (λ (m : ℕ). m % 2) (ones_and a b) ∙ sum_mod (min (a % 2) (b % 2)) (ones (bit_and (a / 2) (b / 2)))

-- one digit
digit_linear : (a b c : ℕ) → a < 2 → b < 2 → c < 2 → min (differ a b) c ≡ (min a c + min b c) % 2
digit_linear a b c p q r =
    by_digit (λ a. min (differ a b) c ≡ (min a c + min b c) % 2) (omega arith)
    (by_digit (λ b. min (differ 1 b) c ≡ (min 1 c + min b c) % 2) (omega arith) (omega arith) b q) a p

four : (a b u v : ℕ) → ((a + b) % 2 + (u + v) % 2) % 2 ≡ ((a + u) % 2 + (b + v) % 2) % 2
four a b u v =
    let same : a + b + (u + v) ≡ a + u + (b + v) = omega arith in
    sym (add-mod (a + b) (u + v) 2) ∙ ap (λ (m : ℕ). m % 2) same ∙ add-mod (a + u) (b + v) 2

pub overlap_xor_l : (a b z : ℕ) → overlap (bit_xor a b) z ≡ (overlap a z + overlap b z) % 2
overlap_xor_l a b z = go z a b
  where
    base : (a b : ℕ) → overlap (bit_xor a b) 0 ≡ (overlap a 0 + overlap b 0) % 2
    base a b = rw (overlap_zero_r (bit_xor a b), overlap_zero_r a, overlap_zero_r b)

    go : (z a b : ℕ) → overlap (bit_xor a b) z ≡ (overlap a z + overlap b z) % 2
    go =
        bin_ind (λ (n : ℕ). (a b : ℕ) → overlap (bit_xor a b) n ≡ (overlap a n + overlap b n) % 2) base
        (λ n ih a b.
        overlap_step (bit_xor a b) n
        ∙ ap₂ (λ (p q : ℕ). (p + q) % 2)
        (ap (λ (m : ℕ). min m (n % 2)) (xor_odd a b) ∙ digit_linear (a % 2) (b % 2) (n % 2) (mod_two a) (mod_two b) (mod_two n))
        (ap (λ (m : ℕ). overlap m (n / 2)) (xor_shr a b 1) ∙ ih (a / 2) (b / 2))
        ∙ four (min (a % 2) (n % 2)) (min (b % 2) (n % 2)) (overlap (a / 2) (n / 2)) (overlap (b / 2) (n / 2))
        ∙ sym (ap₂ (λ (p q : ℕ). (p + q) % 2) (overlap_step a n) (overlap_step b n)))

pub overlap_xor_r : (z a b : ℕ) → overlap z (bit_xor a b) ≡ (overlap z a + overlap z b) % 2
overlap_xor_r z a b = overlap_comm z (bit_xor a b) ∙ overlap_xor_l a b z ∙ ap₂ (λ (p q : ℕ). (p + q) % 2) (overlap_comm a z) (overlap_comm b z)
