-- The masks and shifts of open_bit, in a word of any size.
use mathlib.Core.Path.{◌≡◌, sym, ap, ap₂, ◌∙◌, subst}
use Prim.Native.Nat.{ℕ, ◌+◌, ◌-◌, ◌*◌, ◌/◌, ◌%◌, ◌^◌, ◌≤◌, ◌<◌}
use native.Mathlib.Nat.{mod-lt, mul_right_comm, add-zero}
use native.Mathlib.Omega.{arith}
use lib.Arith.{digits_div, digits_mod}
use lib.Bits.{bit_and, bit_or, and_mask, and_high, or_shifted_r}
use lib.Pow.{pow_pos, pow_mono, mod-pow-add, shr_mod}
use Rattle.bitlaws.specs.Opening.{open_bit}

module _ (size b p : ℕ) (inside : b ≤ size) (word : p < 2 ^ size) where
  parts : size ≡ size - b + b
  parts = omega arith

  -- the complement of the low mask keeps the bits from b on
  kept : bit_and p (2 ^ size - 1 - (2 ^ b - 1)) ≡ p / 2 ^ b * 2 ^ b
  kept =
      let mask : 2 ^ size - 1 - (2 ^ b - 1) ≡ 2 ^ (size - b + b) - 2 ^ b
      = omega (arith, pow_pos b, pow_mono {i = b} {j = size} inside, ap (λ (m : ℕ). 2 ^ m) parts) in
      ap (bit_and p) mask ∙ and_high p (size - b) b
      ∙ ap (λ (m : ℕ). m * 2 ^ b) (shr_mod (size - b) b (subst (λ (m : ℕ). p < 2 ^ m) parts word))

  -- a multiple of 2 ^ b keeps its low bits clear when the word's top is cut
  cut : (a r : ℕ) → r < 2 ^ b → (a * 2 ^ b + r) % 2 ^ size ≡ a % 2 ^ (size - b) * 2 ^ b + r
  cut a r h =
      ap (λ (m : ℕ). (a * 2 ^ b + r) % 2 ^ m) parts
      ∙ mod-pow-add (a * 2 ^ b + r) (size - b) b
      ∙ ap₂ (λ (u v : ℕ). u % 2 ^ (size - b) * 2 ^ b + v) (digits_div a h) (digits_mod a h)

  pub opened : bit_or (bit_and p (2 ^ b - 1)) (bit_and p (2 ^ size - 1 - (2 ^ b - 1)) * 2 ^ 1 % 2 ^ size) ≡ open_bit b p % 2 ^ size
  unfolding open_bit
  opened =
      let a : ℕ = p / 2 ^ b * 2 in
      let moved : bit_and p (2 ^ size - 1 - (2 ^ b - 1)) * 2 ^ 1 % 2 ^ size ≡ a % 2 ^ (size - b) * 2 ^ b
      = ap (λ (m : ℕ). m * 2 % 2 ^ size) kept
      ∙ ap (λ (m : ℕ). m % 2 ^ size) (mul_right_comm (p / 2 ^ b) (2 ^ b) 2 ∙ sym (add-zero (a * 2 ^ b)))
      ∙ cut a 0 (pow_pos b)
      ∙ add-zero (a % 2 ^ (size - b) * 2 ^ b) in
      ap₂ bit_or (and_mask p b) moved
      ∙ or_shifted_r (a % 2 ^ (size - b)) b (p % 2 ^ b) (mod-lt p (pow_pos b))
      ∙ sym (cut a (p % 2 ^ b) (mod-lt p (pow_pos b)))
