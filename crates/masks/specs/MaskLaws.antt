-- Four words of 64 bits as a mask: what the code does to the words, it does to the mask.
use Rattle.std.specs.Prelude.{◌≡◌, Bool, ◌&&◌, List, [], ◌∷◌, length, set}
use Rattle.std.proofs.Math.Path.{refl, sym, ap}
use Rattle.std.proofs.Common.{◌∙◌, subst, ⊎_elim, mod-lt, mod-eq_of_lt, div-add-mod', zero-lt-suc, eq-zero-or-pos, div-lt_iff_lt-mul, le-div_iff_mul-le, pow_pos, pow-add, shr_lt, get_or-set_same, lt-ltb, le-ltb}
use Rattle.std.proofs.Math.Bool.{true, false}
use Rattle.std.proofs.Math.Option.{none, some}
use Prim.Native.Nat.{ℕ, zero, suc, ◌+◌, ◌-◌, ◌*◌, ◌/◌, ◌%◌, ◌^◌, ◌≤◌, ◌<◌}
use native.Mathlib.Omega.{arith}
use Rattle.std.specs.Int.Bits.{bit_and, bit_or, bit_xor}
use Rattle.std.proofs.lemmas.Nat.{or_lt, leading_top}
use Rattle.std.specs.Int.Count.{ones, count_leading_zeros}
use lib.Dec.{ltb, eqb}
use Rattle.std.proofs.Math.ListN.{get_or}
use Rattle.std.proofs.Math.Seq.{get_or-set_other}
use Rattle.bitlaws.specs.Digit.{bit_of, digit, put, digit_above, digit_high}
use Rattle.bitlaws.specs.Highest.{highest, power_top, Top}
use Rattle.bitlaws.proofs.Highest.{highest_none, highest_some, highest_top, highest_wider, none_zero}
use Rattle.bitlaws.specs.Words.{words, total, words_xor, words_or, words_ones, words_at, words_digit, words_put, words_same, words_lt, words_below}
use Rattle.masks.specs.Mask.{mask, bit_written}

-- every word of a list is below 2 ^ 64
abbrev pub Small : List ℕ → Type 0
Small a = (i : ℕ) → get_or a i 0 < 2 ^ 64

module _ (a b : List ℕ) (small-a : Small a) (small_b : Small b) where
  pub mask_xor : mask (bit_xor (get_or a 0 0) (get_or b 0 0) ∷ bit_xor (get_or a 1 0) (get_or b 1 0) ∷ bit_xor (get_or a 2 0) (get_or b 2 0) ∷ bit_xor (get_or a 3 0) (get_or b 3 0) ∷ [])
      ≡ bit_xor (mask a) (mask b)
  unfolding mask words
  mask_xor = sym (words_xor 64 4 (λ i. get_or a i 0) (λ i. get_or b i 0) small-a small_b)

  pub mask_ones : ones (bit_and (get_or a 0 0) (get_or b 0 0)) + ones (bit_and (get_or a 1 0) (get_or b 1 0)) + ones (bit_and (get_or a 2 0) (get_or b 2 0)) + ones (bit_and (get_or a 3 0) (get_or b 3 0))
      ≡ ones (bit_and (mask a) (mask b))
  unfolding mask total
  mask_ones = omega (arith, words_ones 64 4 (λ i. get_or a i 0) (λ i. get_or b i 0) small-a small_b)

  mask_or : bit_or (mask a) (mask b) ≡ words 64 (λ i. bit_or (get_or a i 0) (get_or b i 0)) 4
  unfolding mask
  mask_or = words_or 64 4 (λ i. get_or a i 0) (λ i. get_or b i 0) small-a small_b

  small_or : (i : ℕ) → bit_or (get_or a i 0) (get_or b i 0) < 2 ^ 64
  small_or i = or_lt 64 (get_or a i 0) (get_or b i 0) (small-a i) (small_b i)

  -- word w of both, where nothing stands above it
  top_word : (w : ℕ) → w < 4 → bit_or (mask a) (mask b) < 2 ^ (suc w * 64) → bit_or (mask a) (mask b) / 2 ^ (w * 64) ≡ bit_or (get_or a w 0) (get_or b w 0)
  top_word w h below =
      let place : suc w * 64 ≡ 64 + w * 64 = omega arith in
      let small : bit_or (mask a) (mask b) / 2 ^ (w * 64) < 2 ^ 64 = shr_lt 64 (w * 64) (subst (λ (m : ℕ). bit_or (mask a) (mask b) < 2 ^ m) place below) in
      sym (mod-eq_of_lt small)
      ∙ ap (λ (m : ℕ). m / 2 ^ (w * 64) % 2 ^ 64) mask_or
      ∙ words_at 64 w 4 (λ i. bit_or (get_or a i 0) (get_or b i 0)) small_or h

  -- all of it
  pub or_below : bit_or (mask a) (mask b) < 2 ^ (4 * 64)
  or_below = rw mask_or (words_lt 64 4 (λ i. bit_or (get_or a i 0) (get_or b i 0)) small_or)

  pub word_empty : (w : ℕ) → w < 4 → bit_or (mask a) (mask b) < 2 ^ (suc w * 64) → bit_or (get_or a w 0) (get_or b w 0) ≡ 0 → bit_or (mask a) (mask b) < 2 ^ (w * 64)
  word_empty w h below e =
      let none : bit_or (mask a) (mask b) / 2 ^ (w * 64) < 1 = omega (arith, top_word w h below) in
      let under : bit_or (mask a) (mask b) < 1 * 2 ^ (w * 64) = (div-lt_iff_lt-mul (pow_pos (w * 64))).0 none in
      omega arith

  -- the highest bit of a word that has one, by its leading zeros
  module _ (w v : ℕ) (is : v ≡ bit_or (get_or a w 0) (get_or b w 0)) (some-bit : v ≡ 0 → ⊥) where
    small_v : v < 2 ^ 64
    small_v = subst (λ (n : ℕ). n < 2 ^ 64) (sym is) (small_or w)

    positive : 0 < v
    positive = ⊎_elim (λ (e : v ≡ 0). absurd (some-bit e)) (λ (p : 0 < v). p) (eq-zero-or-pos v)

    pub word_leading : count_leading_zeros 64 v < 64
    word_leading = omega (arith, (leading_top 64 v positive small_v).1)

    pub word_top : w < 4 → bit_or (mask a) (mask b) < 2 ^ (suc w * 64) → highest 256 (bit_or (mask a) (mask b)) ≡ some (w * 64 + 64 - count_leading_zeros 64 v - 1)
    word_top h below =
        let m : ℕ = bit_or (mask a) (mask b) in
        let t = leading_top 64 v positive small_v in
        let j : ℕ = t.0 in
        let e : m / 2 ^ (w * 64) ≡ v = top_word w h below ∙ sym is in
        let lead : count_leading_zeros 64 v + suc j ≡ 64 = t.1 in
        let place : w * 64 + 64 - count_leading_zeros 64 v - 1 ≡ j + w * 64 = omega arith in
        let low : 2 ^ (j + w * 64) ≤ m = subst (λ (n : ℕ). n ≤ m) (sym (pow-add 2 j (w * 64))) ((le-div_iff_mul-le (pow_pos (w * 64))).0 (omega (arith, t.2))) in
        let high : m < 2 ^ (suc j + w * 64) = subst (λ (n : ℕ). m < n) (sym (pow-add 2 (suc j) (w * 64))) ((div-lt_iff_lt-mul (pow_pos (w * 64))).0 (omega (arith, t.3))) in
        let next : suc j + w * 64 ≡ suc (j + w * 64) = omega arith in
        rw place (highest_some 256 m (j + w * 64) (power_top 256 m (j + w * 64) (omega arith) low (subst (λ (n : ℕ). m < 2 ^ n) next high)))

  -- no bit in word w, and the highest bit of word w
  module _ (w : ℕ) (h : w < 4) (below : bit_or (mask a) (mask b) < 2 ^ (suc w * 64)) where
    pub word_none : highest 64 (bit_or (get_or a w 0) (get_or b w 0)) ≡ none → bit_or (mask a) (mask b) < 2 ^ (w * 64)
    word_none e = word_empty w h below (none_zero 64 (bit_or (get_or a w 0) (get_or b w 0)) (small_or w) e)

    pub word_highest : (j : ℕ) → highest 64 (bit_or (get_or a w 0) (get_or b w 0)) ≡ some j → highest 256 (bit_or (mask a) (mask b)) ≡ some (64 * w + j)
    word_highest j e =
        let m : ℕ = bit_or (mask a) (mask b) in
        let v : ℕ = bit_or (get_or a w 0) (get_or b w 0) in
        let t : Top 256 v j = highest_top 256 v j (highest_wider 64 256 v (small_or w) (omega arith) ∙ e) in
        let t64 : Top 64 v j = highest_top 64 v j e in
        let here : (r : ℕ) → 64 * w ≤ r → digit r m ≡ digit (r - 64 * w) v
        = λ r l. (let place : r ≡ w * 64 + (r - 64 * w) = omega arith in
        ap (λ (q : ℕ). digit q m) place ∙ digit_high (w * 64) (r - 64 * w) m ∙ ap (digit (r - 64 * w)) (top_word w h below)) in
        let back : 64 * w + j - 64 * w ≡ j = omega arith in
        highest_some 256 m (64 * w + j) (record {
          inside = omega (arith, t64.inside);
          set = here (64 * w + j) (omega arith) ∙ ap (λ (q : ℕ). digit q v) back ∙ t.set;
          above = λ r l u. here r (omega arith) ∙ t.above (r - 64 * w) (omega arith) (omega arith);
        })

  pub none_top : bit_or (mask a) (mask b) < 2 ^ (0 * 64) → highest 256 (bit_or (mask a) (mask b)) ≡ none
  none_top below = highest_none 256 (bit_or (mask a) (mask b)) (λ r h. digit_above 0 r (bit_or (mask a) (mask b)) below (omega arith))

module _ (a : List ℕ) (small : Small a) where
  pub mask_lt : mask a < 2 ^ 256
  unfolding mask
  mask_lt = words_lt 64 4 (λ i. get_or a i 0) small

  -- masks that are equal have equal words
  pub mask_same : (b : List ℕ) → Small b → mask a ≡ mask b → (i : ℕ) → i < 4 → get_or a i 0 ≡ get_or b i 0
  unfolding mask
  mask_same b small_b e i h = words_same 64 4 (λ j. get_or a j 0) (λ j. get_or b j 0) small small_b e i h

  pub mask_digit : (q : ℕ) → q < 256 → get_or a (q / 64) 0 / 2 ^ (q % 64) % 2 ≡ digit q (mask a)
  unfolding mask digit
  mask_digit q h =
      sym (ap (λ (m : ℕ). words 64 (λ i. get_or a i 0) 4 / 2 ^ m % 2) (sym (div-add-mod' q 64))
      ∙ words_digit 64 (q / 64) (q % 64) 4 (λ i. get_or a i 0) small (omega arith) (mod-lt q (zero-lt-suc 63)))

  pub mask_put : (q d v : ℕ) → q < 256 → length a ≡ 4 → v ≡ put (q % 64) d (get_or a (q / 64) 0) → mask (set a (q / 64) v) ≡ put q d (mask a)
  unfolding mask
  mask_put q d v h len e =
      sym (ap (λ (m : ℕ). put m d (words 64 (λ i. get_or a i 0) 4)) (sym (div-add-mod' q 64))
      ∙ words_put 64 (q / 64) (q % 64) d 4 (λ i. get_or a i 0) (λ i. get_or (set a (q / 64) v) i 0) small (omega arith) (mod-lt q (zero-lt-suc 63))
      (get_or-set_same a (q / 64) v 0 (omega arith) ∙ e)
      (λ i ne. get_or-set_other a (q / 64) i v 0 ne))

  -- below 2 ^ width, word by word
  pub mask_below : (width : ℕ)
      → (ltb (get_or a 0 0) (2 ^ width) && ltb (get_or a 1 0) (2 ^ (width - 64)) && ltb (get_or a 2 0) (2 ^ (width - 128)) && ltb (get_or a 3 0) (2 ^ (width - 192)))
      ≡ ltb (mask a) (2 ^ width)
  unfolding mask words
  mask_below width =
      let second : width - 64 - 64 ≡ width - 128 = omega arith in
      let third : width - 128 - 64 ≡ width - 192 = omega arith in
      let last : 0 * 2 ^ 64 + get_or a 3 0 ≡ get_or a 3 0 = omega arith in
      let w2 : ℕ = (0 * 2 ^ 64 + get_or a 3 0) * 2 ^ 64 + get_or a 2 0 in
      let e1 = words_below 64 (w2 * 2 ^ 64 + get_or a 1 0) (get_or a 0 0) width (small 0) in
      let e2 = words_below 64 w2 (get_or a 1 0) (width - 64) (small 1) in
      let e3 = words_below 64 (0 * 2 ^ 64 + get_or a 3 0) (get_or a 2 0) (width - 64 - 64) (small 2) in
      sym (e1 ∙ ap (λ (t : Bool). ltb (get_or a 0 0) (2 ^ width) && t) (e2 ∙ ap (λ (t : Bool). ltb (get_or a 1 0) (2 ^ (width - 64)) && t) e3)
      ∙ rw (second, third, last) (grouped (ltb (get_or a 0 0) (2 ^ width)) (ltb (get_or a 1 0) (2 ^ (width - 64))) (ltb (get_or a 2 0) (2 ^ (width - 128))) (ltb (get_or a 3 0) (2 ^ (width - 192)))))
    where
      grouped : (p q r s : Bool) → (p && (q && (r && s))) ≡ (p && q && r && s)
      grouped true q r s = go q
        where
          go : (q : Bool) → (q && (r && s)) ≡ (q && r && s)
          go true = refl
          go false = refl
      grouped false q r s = refl

-- past the end nothing is written
pub bit_written_past : (q : ℕ) (v : Bool) (m : ℕ) → 256 ≤ q → bit_written q v m ≡ m
unfolding bit_written
bit_written_past q v m h = rw (le-ltb q 256 h)

pub bit_written_inside : (q : ℕ) (v : Bool) (m : ℕ) → q < 256 → bit_written q v m ≡ put q (bit_of v) m
unfolding bit_written
bit_written_inside q v m h = rw (lt-ltb q 256 h)

-- a digit, tested and turned back
pub bit_of_lem : (d : ℕ) → d < 2 → bit_of (eqb d 1) ≡ d
bit_of_lem zero h = refl
bit_of_lem (suc zero) h = refl
bit_of_lem (suc (suc d)) h = absurd (omega arith)

-- a word against 2 ^ width, by a shift
pub shifted_below : (word width : ℕ) → eqb (word / 2 ^ width) 0 ≡ ltb word (2 ^ width)
shifted_below word width = go (word / 2 ^ width) refl
  where
    go : (q : ℕ) → word / 2 ^ width ≡ q → eqb q 0 ≡ ltb word (2 ^ width)
    go zero e =
        let under : word < 1 * 2 ^ width = (div-lt_iff_lt-mul (pow_pos width)).0 (omega arith) in
        sym (lt-ltb word (2 ^ width) (omega arith))
    go (suc q) e =
        let over : 1 * 2 ^ width ≤ word = (le-div_iff_mul-le (pow_pos width)).0 (omega arith) in
        lib.Dec.eqb-suc-zero q ∙ sym (le-ltb word (2 ^ width) (omega arith))
