-- A mask kept in words of any one size, lowest first: word i is f i.
use Rattle.std.specs.Prelude.{◌≡◌, Bool, true, false, ◌&&◌, ltb}
use Rattle.std.proofs.Math.Path.{refl, sym, ap, ap₂}
use Rattle.std.proofs.Common.{◌∙◌, subst, ⊎_elim, mul-le-mul_right, lt-ltb, le-ltb, pow_mono, shr-shr}
use Prim.Native.Nat.{ℕ, zero, suc, ◌+◌, ◌-◌, ◌*◌, ◌/◌, ◌%◌, ◌^◌, ◌≤◌, ◌<◌}
use Rattle.std.proofs.Math.Nat.{add_comm, suc-mul, div-one}
use native.Mathlib.Omega.{arith}
use Rattle.std.proofs.Math.Arith.{digits_lt}
use Rattle.std.specs.Int.Bits.{bit_and, bit_or, bit_xor, and_lt}
use Rattle.std.proofs.lemmas.Nat.{and_block, or_block, xor_block}
use Rattle.std.specs.Int.Count.{ones, ones_cat}
use Rattle.std.proofs.Math.Pow.{pow_pos, pow-add, high, low}
use Rattle.bitlaws.specs.Order.{le_or_lt}
use Rattle.bitlaws.specs.Digit.{digit, put, digit_high, digit_low}
use Rattle.bitlaws.specs.Parity.{ones_zero}
use Rattle.bitlaws.specs.Writing.{put_low, put_high}

-- the number that n words of `size` bits make
unfoldable pub words : ℕ → (ℕ → ℕ) → ℕ → ℕ
words size f zero = 0
words size f (suc n) = words size (λ i. f (suc i)) n * 2 ^ size + f 0

-- f 0 + f 1 + .. + f (n - 1)
unfoldable pub total : (ℕ → ℕ) → ℕ → ℕ
total f zero = 0
total f (suc n) = total (λ i. f (suc i)) n + f 0

module _ (size : ℕ) where
  -- every word fits its size
  abbrev pub Small : (ℕ → ℕ) → Type 0
  Small f = (i : ℕ) → f i < 2 ^ size

  -- an operation that goes block by block, as `and`, `or` and `xor` do, goes word by word
  module _ (op : ℕ → ℕ → ℕ) (none : op 0 0 ≡ 0)
      (block : (a b u v : ℕ) → u < 2 ^ size → v < 2 ^ size → op (a * 2 ^ size + u) (b * 2 ^ size + v) ≡ op a b * 2 ^ size + op u v) where
    words_each : (n : ℕ) (f g : ℕ → ℕ) → Small f → Small g → op (words size f n) (words size g n) ≡ words size (λ i. op (f i) (g i)) n
    unfolding words
    words_each zero f g hf hg = none
    words_each (suc n) f g hf hg =
        block (words size (λ i. f (suc i)) n) (words size (λ i. g (suc i)) n) (f 0) (g 0) (hf 0) (hg 0)
        ∙ ap (λ (m : ℕ). m * 2 ^ size + op (f 0) (g 0)) (words_each n (λ i. f (suc i)) (λ i. g (suc i)) (λ i. hf (suc i)) (λ i. hg (suc i)))

  -- the ones of a mask, counted word by word
  ones_words : (n : ℕ) (f : ℕ → ℕ) → Small f → ones (words size f n) ≡ total (λ i. ones (f i)) n
  unfolding words total
  ones_words zero f hf = ones_zero
  ones_words (suc n) f hf =
      ones_cat size (words size (λ i. f (suc i)) n) (f 0) (hf 0) ∙ ap (λ (m : ℕ). m + ones (f 0)) (ones_words n (λ i. f (suc i)) (λ i. hf (suc i)))

  module _ (n : ℕ) (f g : ℕ → ℕ) (hf : Small f) (hg : Small g) where
    pub words_xor : bit_xor (words size f n) (words size g n) ≡ words size (λ i. bit_xor (f i) (g i)) n
    words_xor = words_each bit_xor refl (xor_block size) n f g hf hg

    pub words_or : bit_or (words size f n) (words size g n) ≡ words size (λ i. bit_or (f i) (g i)) n
    words_or = words_each bit_or refl (or_block size) n f g hf hg

    -- the ones that two masks share
    pub words_ones : ones (bit_and (words size f n) (words size g n)) ≡ total (λ i. ones (bit_and (f i) (g i))) n
    words_ones =
        ap ones (words_each bit_and refl (and_block size) n f g hf hg) ∙ ones_words n (λ i. bit_and (f i) (g i)) (λ i. and_lt size (f i) (g i) (hf i) (hg i))

  -- word w is the w-th group of digits
  pub words_at : (w n : ℕ) (f : ℕ → ℕ) → Small f → w < n → words size f n / 2 ^ (w * size) % 2 ^ size ≡ f w
  unfolding words
  words_at w zero f hf h = absurd (omega arith)
  words_at zero (suc n) f hf h =
      let none : zero * size ≡ 0 = omega arith in
      let whole : words size f (suc n) / 2 ^ (zero * size) ≡ words size f (suc n) = ap (λ (m : ℕ). words size f (suc n) / 2 ^ m) none ∙ div-one (words size f (suc n)) in
      ap (λ (m : ℕ). m % 2 ^ size) whole ∙ low (words size (λ i. f (suc i)) n) size (hf 0)
  words_at (suc w) (suc n) f hf h =
      let rest : ℕ = words size (λ i. f (suc i)) n in
      let place : suc w * size ≡ size + w * size = suc-mul w size ∙ add_comm (w * size) size in
      let down : words size f (suc n) / 2 ^ (suc w * size) ≡ rest / 2 ^ (w * size)
      = ap (λ (m : ℕ). words size f (suc n) / 2 ^ m) place ∙ sym (shr-shr (words size f (suc n)) size (w * size)) ∙ ap (λ (m : ℕ). m / 2 ^ (w * size)) (high rest size (hf 0)) in
      ap (λ (m : ℕ). m % 2 ^ size) down ∙ words_at w n (λ i. f (suc i)) (λ i. hf (suc i)) (omega arith)

  pub words_digit : (w r n : ℕ) (f : ℕ → ℕ) → Small f → w < n → r < size → digit (w * size + r) (words size f n) ≡ digit r (f w)
  words_digit w r n f hf h hr =
      digit_high (w * size) r (words size f n) ∙ sym (digit_low size r (words size f n / 2 ^ (w * size)) hr) ∙ ap (digit r) (words_at w n f hf h)

  words_ext : (n : ℕ) (f g : ℕ → ℕ) → ((i : ℕ) → f i ≡ g i) → words size f n ≡ words size g n
  unfolding words
  words_ext zero f g e = refl
  words_ext (suc n) f g e = ap₂ (λ (m v : ℕ). m * 2 ^ size + v) (words_ext n (λ i. f (suc i)) (λ i. g (suc i)) (λ i. e (suc i))) (e 0)

  -- writing a digit alters the word that holds it
  pub words_put : (w r d n : ℕ) (f g : ℕ → ℕ) → Small f → w < n → r < size → g w ≡ put r d (f w) → ((i : ℕ) → (i ≡ w → ⊥) → g i ≡ f i)
      → put (w * size + r) d (words size f n) ≡ words size g n
  unfolding words
  words_put w r d zero f g hf h hr new old = absurd (omega arith)
  words_put zero r d (suc n) f g hf h hr new old =
      let none : zero * size + r ≡ r = omega arith in
      ap (λ (m : ℕ). put m d (words size f (suc n))) none
      ∙ put_low size (words size (λ i. f (suc i)) n) (f 0) (hf 0) r d hr
      ∙ ap₂ (λ (m v : ℕ). m * 2 ^ size + v) (words_ext n (λ i. f (suc i)) (λ i. g (suc i)) (λ i. sym (old (suc i) (λ e. omega arith)))) (sym new)
  words_put (suc w) r d (suc n) f g hf h hr new old =
      let rest : ℕ = words size (λ i. f (suc i)) n in
      let place : suc w * size + r ≡ size + (w * size + r) = omega (arith, suc-mul w size) in
      ap (λ (m : ℕ). put m d (words size f (suc n))) place
      ∙ put_high size rest (f 0) (hf 0) (w * size + r) d
      ∙ ap₂ (λ (m v : ℕ). m * 2 ^ size + v)
      (words_put w r d n (λ i. f (suc i)) (λ i. g (suc i)) (λ i. hf (suc i)) (omega arith) hr new (λ i ne. old (suc i) (λ e. ne (omega arith))))
      (sym (old 0 (λ e. omega arith)))

  pub words_lt : (n : ℕ) (f : ℕ → ℕ) → Small f → words size f n < 2 ^ (n * size)
  unfolding words
  words_lt zero f hf = pow_pos (zero * size)
  words_lt (suc n) f hf =
      let whole : 2 ^ (suc n * size) ≡ 2 ^ (n * size) * 2 ^ size = ap (λ (m : ℕ). 2 ^ m) (suc-mul n size) ∙ pow-add 2 (n * size) size in
      rw whole (digits_lt (words_lt n (λ i. f (suc i)) (λ i. hf (suc i))) (hf 0))

  -- masks that are equal have equal words
  pub words_same : (n : ℕ) (f g : ℕ → ℕ) → Small f → Small g → words size f n ≡ words size g n → (i : ℕ) → i < n → f i ≡ g i
  words_same n f g hf hg e i h = sym (words_at i n f hf h) ∙ ap (λ (m : ℕ). m / 2 ^ (i * size) % 2 ^ size) e ∙ words_at i n g hg h

  -- below 2 ^ m: the lowest word is, and the rest below 2 ^ (m - size)
  pub words_below : (a f m : ℕ) → f < 2 ^ size → ltb (a * 2 ^ size + f) (2 ^ m) ≡ (ltb f (2 ^ m) && ltb a (2 ^ (m - size)))
  words_below a f m hf = ⊎_elim wide narrow (le_or_lt size m)
    where
      wide : size ≤ m → ltb (a * 2 ^ size + f) (2 ^ m) ≡ (ltb f (2 ^ m) && ltb a (2 ^ (m - size)))
      wide h =
          let parts : m ≡ m - size + size = omega arith in
          let whole : 2 ^ m ≡ 2 ^ (m - size) * 2 ^ size = ap (λ (n : ℕ). 2 ^ n) parts ∙ pow-add 2 (m - size) size in
          let fits : ltb f (2 ^ m) ≡ true = lt-ltb f (2 ^ m) (omega (arith, pow_mono {i = size} {j = m} h)) in
          ⊎_elim
          (λ (b : 2 ^ (m - size) ≤ a). rw (fits, le-ltb a (2 ^ (m - size)) b) (le-ltb (a * 2 ^ size + f) (2 ^ m) (omega (arith, mul-le-mul_right (2 ^ size) b))))
          (λ (b : a < 2 ^ (m - size)). rw (fits, lt-ltb a (2 ^ (m - size)) b)
          (lt-ltb (a * 2 ^ size + f) (2 ^ m) (subst (λ (n : ℕ). a * 2 ^ size + f < n) (sym whole) (digits_lt b hf))))
          (le_or_lt (2 ^ (m - size)) a)

      narrow : m < size → ltb (a * 2 ^ size + f) (2 ^ m) ≡ (ltb f (2 ^ m) && ltb a (2 ^ (m - size)))
      narrow h =
          let gone : m - size ≡ 0 = omega arith in
          rw gone (small a)
        where
          small : (a : ℕ) → ltb (a * 2 ^ size + f) (2 ^ m) ≡ (ltb f (2 ^ m) && ltb a (2 ^ 0))
          small zero = let e : zero * 2 ^ size + f ≡ f = omega arith in rw e (and_true (ltb f (2 ^ m)))
            where
              and_true : (b : Bool) → b ≡ (b && ltb zero (2 ^ 0))
              and_true true = refl
              and_true false = refl
          small (suc a) =
              let over : 2 ^ m ≤ suc a * 2 ^ size + f = omega (arith, suc-mul a (2 ^ size), pow_mono {i = m} {j = size} (omega arith)) in
              rw (le-ltb (suc a * 2 ^ size + f) (2 ^ m) over, le-ltb (suc a) (2 ^ 0) (zero_lt_suc_le a)) (and_false (ltb f (2 ^ m)))
            where
              zero_lt_suc_le : (a : ℕ) → 1 ≤ suc a
              zero_lt_suc_le a = omega arith

              and_false : (b : Bool) → false ≡ (b && false)
              and_false true = refl
              and_false false = refl
