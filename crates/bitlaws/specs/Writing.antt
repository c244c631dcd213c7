-- Writing a digit of a mask, at any place.
use Rattle.std.specs.Prelude.{◌≡◌}
use Rattle.std.proofs.Math.Path.{refl, sym, ap, ap₂}
use Rattle.std.proofs.Common.{◌∙◌, subst, ⊎_elim, mul_comm, lit<, pow_pos}
use Prim.Native.Nat.{ℕ, suc, ◌+◌, ◌-◌, ◌*◌, ◌/◌, ◌%◌, ◌^◌, ◌<◌, min}
use Rattle.std.proofs.Math.Nat.{div-add-mod', pow-suc}
use native.Mathlib.Omega.{arith}
use Rattle.std.proofs.Math.Arith.{digits_div, digits_mod, digits_lt}
use Rattle.std.specs.Int.Bits.{bit_and, bit_or, and_block, or_block, or_zero_r}
use Rattle.std.proofs.lemmas.Nat.{and_shr, and_mod}
use Rattle.std.specs.Int.Count.{ones, ones_cat}
use Rattle.std.proofs.Math.Pow.{pow-add, shr_lt, high, low}
use Rattle.bitlaws.specs.Order.{lt_or_gt}
use Rattle.bitlaws.specs.Digit.{mod_power, by_digit, digit, put, mod_two, digit_high, digit_low}

pub ones_digit : (d : ℕ) → d < 2 → ones d ≡ d
unfolding ones
ones_digit = by_digit (λ d. ones d ≡ d) refl refl

module _ (q : ℕ) where
  pub put_div : (d a : ℕ) → put q d a / 2 ^ q ≡ a / 2 ^ q / 2 * 2 + d
  unfolding put
  put_div d a = digits_div (a / 2 ^ q / 2 * 2 + d) (mod_power q a)

  pub put_mod : (d a : ℕ) → put q d a % 2 ^ q ≡ a % 2 ^ q
  unfolding put
  put_mod d a = digits_mod (a / 2 ^ q / 2 * 2 + d) (mod_power q a)

  -- the old digit's weight goes, the new digit's comes
  pub put_sum : (d a : ℕ) → put q d a + digit q a * 2 ^ q ≡ a + d * 2 ^ q
  unfolding put digit
  put_sum d a =
      let half : a / 2 ^ q ≡ a / 2 ^ q / 2 * 2 + a / 2 ^ q % 2 = sym (div-add-mod' (a / 2 ^ q) 2) in
      omega (arith, div-add-mod' a (2 ^ q), ap (λ (m : ℕ). m * 2 ^ q) half)

  -- a one written is a zero written and 2 ^ q more
  pub put_one : (a : ℕ) → put q 1 a ≡ put q 0 a + 2 ^ q
  put_one a = omega (arith, put_sum 1 a, put_sum 0 a)

  -- what was there, written again
  pub put_same : (a : ℕ) → put q (digit q a) a ≡ a
  put_same a = omega (arith, put_sum (digit q a) a)

  pub digit_put : (d a : ℕ) → d < 2 → digit q (put q d a) ≡ d
  unfolding digit
  digit_put d a h = omega (arith, put_div d a)

  pub put_lt : (n d a : ℕ) → q < n → d < 2 → a < 2 ^ n → put q d a < 2 ^ n
  unfolding put
  put_lt n d a h hd ha =
      let parts : n ≡ suc (n - suc q) + q = omega arith in
      let top : a / 2 ^ q < 2 ^ suc (n - suc q) = shr_lt (suc (n - suc q)) q (subst (λ (m : ℕ). a < 2 ^ m) parts ha) in
      let room : a / 2 ^ q / 2 * 2 + d < 2 ^ suc (n - suc q) = omega (arith, pow-suc 2 (n - suc q)) in
      let whole : 2 ^ n ≡ 2 ^ suc (n - suc q) * 2 ^ q = ap (λ (m : ℕ). 2 ^ m) parts ∙ pow-add 2 (suc (n - suc q)) q in
      rw whole (digits_lt room (mod_power q a))

  -- or with 2 ^ q writes a one
  pub or_put : (a : ℕ) → bit_or a (2 ^ q) ≡ put q 1 a
  unfolding put
  or_put a =
      let r : ℕ = a / 2 ^ q in
      let one : 2 ^ q ≡ 1 * 2 ^ q + 0 = omega arith in
      let top : bit_or r 1 ≡ r / 2 * 2 + 1
      = ap (λ (m : ℕ). bit_or m 1) (sym (div-add-mod' r 2)) ∙ or_block 1 (r / 2) 0 (r % 2) 1 (mod_two r) (lit< tt) ∙ ap₂ (λ (u v : ℕ). u * 2 + v) (or_zero_r (r / 2)) (low_one (r % 2) (mod_two r)) in
      ap₂ bit_or (sym (div-add-mod' a (2 ^ q))) one
      ∙ or_block q r 1 (a % 2 ^ q) 0 (mod_power q a) (pow_pos q)
      ∙ ap₂ (λ (u v : ℕ). u * 2 ^ q + v) top (or_zero_r (a % 2 ^ q))
    where
      low_one : (d : ℕ) → d < 2 → bit_or d 1 ≡ 1
      low_one = by_digit (λ d. bit_or d 1 ≡ 1) refl refl

  -- and, digit by digit
  pub and_put : (c d a b : ℕ) → c < 2 → d < 2 → bit_and (put q c a) (put q d b) ≡ put q (min c d) (bit_and a b)
  unfolding put
  and_put c d a b hc hd =
      let r : ℕ = a / 2 ^ q in
      let s : ℕ = b / 2 ^ q in
      let halves : bit_and (r / 2) (s / 2) ≡ bit_and a b / 2 ^ q / 2 = sym (and_shr r s 1) ∙ ap (λ (m : ℕ). m / 2) (sym (and_shr a b q)) in
      and_block q (r / 2 * 2 + c) (s / 2 * 2 + d) (a % 2 ^ q) (b % 2 ^ q) (mod_power q a) (mod_power q b)
      ∙ ap₂ (λ (u v : ℕ). u * 2 ^ q + v)
      (and_block 1 (r / 2) (s / 2) c d hc hd ∙ ap₂ (λ (u v : ℕ). u * 2 + v) halves (one_digit c d hc hd))
      (sym (and_mod a b q))
    where
      one_digit : (c d : ℕ) → c < 2 → d < 2 → bit_and c d ≡ min c d
      one_digit c d p r = by_digit (λ c. bit_and c d ≡ min c d) (omega arith) (by_digit (λ d. bit_and 1 d ≡ min 1 d) refl refl d r) c p

  -- the count of ones gains the digit
  pub ones_put : (d a : ℕ) → d < 2 → ones (put q d a) ≡ ones (a / 2 ^ q / 2) + d + ones (a % 2 ^ q)
  unfolding put
  ones_put d a h =
      ones_cat q (a / 2 ^ q / 2 * 2 + d) (a % 2 ^ q) (mod_power q a)
      ∙ ap (λ (m : ℕ). m + ones (a % 2 ^ q)) (ones_cat 1 (a / 2 ^ q / 2) d h ∙ ap (λ (m : ℕ). ones (a / 2 ^ q / 2) + m) (ones_digit d h))

-- another digit stays
pub digit_put_other : (q r d a : ℕ) → d < 2 → (r ≡ q → ⊥) → digit r (put q d a) ≡ digit r a
digit_put_other q r d a hd ne =
    ⊎_elim (λ (h : r < q). sym (digit_low q r (put q d a) h) ∙ ap (digit r) (put_mod q d a) ∙ digit_low q r a h) (λ (h : q < r). above h) (lt_or_gt r q ne)
  where
    above : q < r → digit r (put q d a) ≡ digit r a
    above h =
        let place : r ≡ q + (1 + (r - suc q)) = omega arith in
        let half : (a / 2 ^ q / 2 * 2 + d) / 2 ≡ a / 2 ^ q / 2 = omega arith in
        let down : (b : ℕ) → digit r b ≡ digit (r - suc q) (b / 2 ^ q / 2)
        = λ b. ap (λ (m : ℕ). digit m b) place ∙ digit_high q (1 + (r - suc q)) b ∙ digit_high 1 (r - suc q) (b / 2 ^ q) in
        down (put q d a) ∙ ap (digit (r - suc q)) (ap (λ (m : ℕ). m / 2) (put_div q d a) ∙ half) ∙ sym (down a)

module _ (s a f : ℕ) (small : f < 2 ^ s) where
  -- a digit of the lower s
  pub put_low : (q d : ℕ) → q < s → put q d (a * 2 ^ s + f) ≡ a * 2 ^ s + put q d f
  put_low q d h =
      let same : digit q (a * 2 ^ s + f) ≡ digit q f = sym (digit_low s q (a * 2 ^ s + f) h) ∙ ap (digit q) (low a s small) in
      omega (arith, put_sum q d (a * 2 ^ s + f), put_sum q d f, ap (λ (m : ℕ). m * 2 ^ q) same)

  -- a digit above them
  pub put_high : (q d : ℕ) → put (s + q) d (a * 2 ^ s + f) ≡ put q d a * 2 ^ s + f
  put_high q d =
      let same : digit (s + q) (a * 2 ^ s + f) ≡ digit q a = digit_high s q (a * 2 ^ s + f) ∙ ap (digit q) (high a s small) in
      let power : 2 ^ (s + q) ≡ 2 ^ q * 2 ^ s = pow-add 2 s q ∙ mul_comm (2 ^ s) (2 ^ q) in
      omega (arith, put_sum (s + q) d (a * 2 ^ s + f), ap (λ (m : ℕ). m * 2 ^ s) (put_sum q d a), ap₂ (λ (m n : ℕ). m * n) same power, ap (λ (m : ℕ). d * m) power)
