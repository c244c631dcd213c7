-- A pivot: one bit of a mask, opened, dropped, or written, against xor and the parity of an overlap.
use Rattle.std.specs.Prelude.{◌≡◌, ℕ, ◌+◌, ◌*◌, ◌/◌, ◌%◌, ◌^◌, ◌≤◌, ◌<◌}
use Rattle.std.proofs.Math.Path.{sym, ap, ap₂}
use Rattle.std.proofs.Common.{◌∙◌, div-add-mod', zero-mul, one-mul, pow_pos}
use native.Mathlib.Omega.{arith}
use Rattle.std.specs.Int.Bits.{bit_and, bit_xor, xor_disjoint, and_block, and_shifted, and_mask, and_zero_l, and_zero_r}
use Rattle.std.proofs.lemmas.Nat.{xor_shr, xor_mod, xor_block, and_shr, and_mod, and_comm}
use Rattle.std.specs.Int.Count.{ones, ones_cat}
use Rattle.std.proofs.Math.Pow.{high, split}
use Rattle.bitlaws.specs.Digit.{mod_power, by_digit, digit, put, mod_two, digit_lt}
use Rattle.bitlaws.specs.Parity.{parity, overlap, ones_zero}
use Rattle.bitlaws.proofs.Parity.{overlap_zero_l, overlap_xor_l}
use Rattle.bitlaws.specs.Opening.{open_bit, drop_bit}
use Rattle.bitlaws.proofs.Opening.{drop_div, drop_mod, open_clear, open_drop}
use Rattle.bitlaws.specs.Writing.{put_div, put_mod, put_sum, ones_digit}

-- a doubled number, as a block of one clear bit
double : (a : ℕ) → a * 2 ≡ a * 2 ^ 1 + 0
double a = omega arith

double_xor : (a b : ℕ) → bit_xor (a * 2) (b * 2) ≡ bit_xor a b * 2
double_xor a b = ap₂ bit_xor (double a) (double b) ∙ xor_block 1 a b 0 0 (pow_pos 1) (pow_pos 1) ∙ sym (double (bit_xor a b))

double_and : (a b : ℕ) → bit_and (a * 2) b ≡ bit_and a (b / 2) * 2
double_and a b =
    ap₂ bit_and (double a) (sym (div-add-mod' b 2))
    ∙ and_block 1 a (b / 2) 0 (b % 2) (pow_pos 1) (mod_two b)
    ∙ omega (arith, and_zero_l (b % 2))

double_ones : (a : ℕ) → ones (a * 2) ≡ ones a
double_ones a = omega (arith, ap ones (double a), ones_cat 1 a 0 (pow_pos 1), ones_zero)

module _ (p : ℕ) where
  -- opening and dropping, against xor
  pub open_xor : (a b : ℕ) → open_bit p (bit_xor a b) ≡ bit_xor (open_bit p a) (open_bit p b)
  unfolding open_bit
  open_xor a b =
      ap₂ (λ (q r : ℕ). q * 2 * 2 ^ p + r) (xor_shr a b p) (xor_mod a b p)
      ∙ ap (λ (q : ℕ). q * 2 ^ p + bit_xor (a % 2 ^ p) (b % 2 ^ p)) (sym (double_xor (a / 2 ^ p) (b / 2 ^ p)))
      ∙ sym (xor_block p (a / 2 ^ p * 2) (b / 2 ^ p * 2) (a % 2 ^ p) (b % 2 ^ p) (mod_power p a) (mod_power p b))

  pub drop_xor : (a b : ℕ) → drop_bit p (bit_xor a b) ≡ bit_xor (drop_bit p a) (drop_bit p b)
  unfolding drop_bit
  drop_xor a b =
      ap₂ (λ (q r : ℕ). q / 2 * 2 ^ p + r) (xor_shr a b p) (xor_mod a b p)
      ∙ ap (λ (q : ℕ). q * 2 ^ p + bit_xor (a % 2 ^ p) (b % 2 ^ p)) (xor_shr (a / 2 ^ p) (b / 2 ^ p) 1)
      ∙ sym (xor_block p (a / 2 ^ p / 2) (b / 2 ^ p / 2) (a % 2 ^ p) (b % 2 ^ p) (mod_power p a) (mod_power p b))

  pub open_ge : (j : ℕ) → j ≤ open_bit p j
  unfolding open_bit
  open_ge j = omega (arith, split j p)

  -- the pivot by itself
  power : 2 ^ p ≡ 1 * 2 ^ p + 0
  power = omega arith

  pub digit_power : digit p (2 ^ p) ≡ 1
  unfolding digit
  digit_power = ap (λ (m : ℕ). m % 2) (ap (λ (m : ℕ). m / 2 ^ p) power ∙ high 1 p (pow_pos p))

  and_power : (z : ℕ) → bit_and (2 ^ p) z ≡ digit p z * 2 ^ p + 0
  unfolding digit
  and_power z =
      ap₂ bit_and power (sym (split z p))
      ∙ and_block p 1 (z / 2 ^ p) 0 (z % 2 ^ p) (pow_pos p) (mod_power p z)
      ∙ ap₂ (λ (q r : ℕ). q * 2 ^ p + r) (and_comm 1 (z / 2 ^ p) ∙ and_mask (z / 2 ^ p) 1) (and_zero_l (z % 2 ^ p))

  overlap_power : (z : ℕ) → overlap (2 ^ p) z ≡ digit p z
  unfolding overlap parity
  overlap_power z =
      let count : ones (bit_and (2 ^ p) z) ≡ ones (digit p z) + ones 0 = ap ones (and_power z) ∙ ones_cat p (digit p z) 0 (pow_pos p) in
      omega (arith, ones_digit (digit p z) (digit_lt p z), ones_zero, digit_lt p z)

  overlap_digit : (d z : ℕ) → d < 2 → overlap (d * 2 ^ p) z ≡ d * digit p z
  overlap_digit d z =
      by_digit (λ d. overlap (d * 2 ^ p) z ≡ d * digit p z)
      (rw (zero-mul (2 ^ p)) (overlap_zero_l z ∙ sym (zero-mul (digit p z))))
      (rw (one-mul (2 ^ p)) (overlap_power z ∙ sym (one-mul (digit p z)))) d

  -- writing the pivot where it is clear: a sum, and so an xor
  pub put_clear : (d b : ℕ) → digit p b ≡ 0 → put p d b ≡ b + d * 2 ^ p
  put_clear d b e = omega (arith, put_sum p d b, ap (λ (m : ℕ). m * 2 ^ p) e)

  apart : (d b : ℕ) → d < 2 → digit p b ≡ 0 → bit_and b (d * 2 ^ p) ≡ 0
  unfolding digit
  apart d b h e =
      let even : b / 2 ^ p ≡ b / 2 ^ p / 2 * 2 ^ 1 = omega arith in
      let whole : d * 2 ^ p ≡ d * 2 ^ p + 0 = omega arith in
      ap₂ bit_and (sym (split b p)) whole
      ∙ and_block p (b / 2 ^ p) d (b % 2 ^ p) 0 (mod_power p b) (pow_pos p)
      ∙ ap₂ (λ (q r : ℕ). q * 2 ^ p + r) (ap (λ (m : ℕ). bit_and m d) even ∙ and_shifted (b / 2 ^ p / 2) 1 d h) (and_zero_r (b % 2 ^ p))
      ∙ omega arith

  pub xor_pivot : (d b : ℕ) → d < 2 → digit p b ≡ 0 → bit_xor b (d * 2 ^ p) ≡ b + d * 2 ^ p
  xor_pivot d b h e = xor_disjoint b (d * 2 ^ p) (apart d b h e)

  -- what is written at the pivot is dropped with it
  pub drop_put : (d b : ℕ) → d < 2 → drop_bit p (put p d b) ≡ drop_bit p b
  unfolding drop_bit
  drop_put d b h =
      let half : (b / 2 ^ p / 2 * 2 + d) / 2 ≡ b / 2 ^ p / 2 = omega arith in
      rw (put_div p d b, put_mod p d b, half)

  -- opened where it was dropped, with its digit added
  pub open_drop_sum : (q : ℕ) → open_bit p (drop_bit p q) + digit p q * 2 ^ p ≡ q
  open_drop_sum q = omega (arith, open_drop p q, put_sum p 0 q)

  -- the parity of an overlap, with the pivot apart
  open_and : (j z : ℕ) → bit_and (open_bit p j) z ≡ open_bit p (bit_and j (drop_bit p z))
  unfolding open_bit
  open_and j z =
      let top : bit_and (j / 2 ^ p) (z / 2 ^ p / 2) ≡ bit_and j (drop_bit p z) / 2 ^ p
      = ap (bit_and (j / 2 ^ p)) (sym (drop_div p z)) ∙ sym (and_shr j (drop_bit p z) p) in
      let rest : bit_and (j % 2 ^ p) (z % 2 ^ p) ≡ bit_and j (drop_bit p z) % 2 ^ p
      = ap (bit_and (j % 2 ^ p)) (sym (drop_mod p z)) ∙ sym (and_mod j (drop_bit p z) p) in
      ap (bit_and (open_bit p j)) (sym (split z p))
      ∙ and_block p (j / 2 ^ p * 2) (z / 2 ^ p) (j % 2 ^ p) (z % 2 ^ p) (mod_power p j) (mod_power p z)
      ∙ ap (λ (m : ℕ). m * 2 ^ p + bit_and (j % 2 ^ p) (z % 2 ^ p)) (double_and (j / 2 ^ p) (z / 2 ^ p))
      ∙ ap₂ (λ (q r : ℕ). q * 2 * 2 ^ p + r) top rest

  ones_open : (j : ℕ) → ones (open_bit p j) ≡ ones j
  unfolding open_bit
  ones_open j =
      ones_cat p (j / 2 ^ p * 2) (j % 2 ^ p) (mod_power p j)
      ∙ ap (λ (m : ℕ). m + ones (j % 2 ^ p)) (double_ones (j / 2 ^ p))
      ∙ sym (ones_cat p (j / 2 ^ p) (j % 2 ^ p) (mod_power p j))
      ∙ ap ones (split j p)

  pub overlap_open : (j z : ℕ) → overlap (open_bit p j) z ≡ overlap j (drop_bit p z)
  unfolding overlap parity
  overlap_open j z = ap (λ (m : ℕ). m % 2) (ap ones (open_and j z) ∙ ones_open (bit_and j (drop_bit p z)))

  pub overlap_pivot : (d b z : ℕ) → d < 2 → digit p b ≡ 0 → overlap (b + d * 2 ^ p) z ≡ (overlap b z + d * digit p z) % 2
  overlap_pivot d b z h e =
      ap (λ (m : ℕ). overlap m z) (sym (xor_pivot d b h e)) ∙ overlap_xor_l b (d * 2 ^ p) z ∙ ap (λ (m : ℕ). (overlap b z + m) % 2) (overlap_digit d z h)

  pub overlap_drop : (a z : ℕ) → overlap a z ≡ (overlap (drop_bit p a) (drop_bit p z) + digit p a * digit p z) % 2
  overlap_drop a z =
      ap (λ (m : ℕ). overlap m z) (sym (open_drop_sum a))
      ∙ overlap_pivot (digit p a) (open_bit p (drop_bit p a)) z (digit_lt p a) (open_clear p (drop_bit p a))
      ∙ ap (λ (m : ℕ). (m + digit p a * digit p z) % 2) (overlap_open (drop_bit p a) z)

-- a pivot above both masks
module _ (n r s : ℕ) (hr : r < 2 ^ n) (hs : s < 2 ^ n) where
  first : 2 ^ n + r ≡ 1 * 2 ^ n + r
  first = omega arith

  second : s ≡ 0 * 2 ^ n + s
  second = omega arith

  pub xor_upper : bit_xor (2 ^ n + r) s ≡ 2 ^ n + bit_xor r s
  xor_upper = ap₂ bit_xor first second ∙ xor_block n 1 0 r s hr hs ∙ omega arith

  pub overlap_upper : overlap (2 ^ n + r) s ≡ overlap r s
  unfolding overlap
  overlap_upper = ap parity (ap₂ bit_and first second ∙ and_block n 1 0 r s hr hs ∙ omega arith)
