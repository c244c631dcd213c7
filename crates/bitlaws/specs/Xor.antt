-- xor of masks of any width: it commutes, associates, is its own inverse, and stays below a power of two.
use Rattle.std.specs.Prelude.{◌≡◌, ℕ, ◌+◌, ◌*◌, ◌/◌, ◌%◌, ◌<◌}
use Rattle.std.proofs.Common.{sym, ap, ap₂, ◌∙◌, arith}
use Rattle.std.proofs.Math.Arith.{bin_ind}
use Rattle.std.specs.Int.Bits.{bit_xor, differ, xor_step, xor_zero_l, xor_zero_r}
use Rattle.std.proofs.lemmas.Nat.{xor_shr}
pub use Rattle.std.proofs.lemmas.Nat.{xor_comm, xor_lt}
pub use Rattle.std.specs.Int.Bits.{xor_self}
use Rattle.bitlaws.specs.Digit.{mod_two}
use Rattle.bitlaws.specs.Bitwise.{differ_sum, xor_odd}

differ_assoc : (a b c : ℕ) → a < 2 → b < 2 → c < 2 → differ (differ a b) c ≡ differ a (differ b c)
differ_assoc a b c p q r =
    rw (differ_sum a b p q, differ_sum b c q r, differ_sum ((a + b) % 2) c (mod_two (a + b)) r, differ_sum a ((b + c) % 2) p (mod_two (b + c))) (sums a b c)
  where
    sums : (a b c : ℕ) → ((a + b) % 2 + c) % 2 ≡ (a + (b + c) % 2) % 2
    sums a b c = omega arith

pub xor_assoc : (a b c : ℕ) → bit_xor (bit_xor a b) c ≡ bit_xor a (bit_xor b c)
xor_assoc a =
    bin_ind (λ (n : ℕ). (b c : ℕ) → bit_xor (bit_xor n b) c ≡ bit_xor n (bit_xor b c))
    (λ b c. ap (λ (m : ℕ). bit_xor m c) (xor_zero_l b) ∙ sym (xor_zero_l (bit_xor b c)))
    (λ n ih b c. xor_step (bit_xor n b) c
    ∙ ap₂ (λ (p q : ℕ). p * 2 + q)
    (ap (λ (m : ℕ). bit_xor m (c / 2)) (xor_shr n b 1) ∙ ih (b / 2) (c / 2) ∙ ap (λ (m : ℕ). bit_xor (n / 2) m) (sym (xor_shr b c 1)))
    (ap (λ (m : ℕ). differ m (c % 2)) (xor_odd n b)
    ∙ differ_assoc (n % 2) (b % 2) (c % 2) (mod_two n) (mod_two b) (mod_two c)
    ∙ ap (differ (n % 2)) (sym (xor_odd b c)))
    ∙ sym (xor_step n (bit_xor b c))) a

-- xor is its own inverse
pub xor_twice : (a b : ℕ) → bit_xor (bit_xor a b) b ≡ a
xor_twice a b = xor_assoc a b b ∙ ap (bit_xor a) (xor_self b) ∙ xor_zero_r a

pub xor_swap : (a b c : ℕ) → bit_xor (bit_xor a b) c ≡ bit_xor (bit_xor a c) b
xor_swap a b c = xor_assoc a b c ∙ ap (bit_xor a) (xor_comm b c) ∙ sym (xor_assoc a c b)
