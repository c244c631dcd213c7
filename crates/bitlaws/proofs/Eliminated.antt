-- What elimination leaves. Complete: a word that is a sum of the words, up to digits that are not cleared, has none of the cleared digits left. Sound: what is
-- left differs from the word by a sum of the words.
use Rattle.std.specs.Prelude.{◌≡◌, refl, Bool, true, false, cond, List, [], ◌∷◌, map, ◌⊎◌, eqb}
use Rattle.std.proofs.Common.{sym, ap, ap₂, ◌∙◌, subst, inl, inr, arith, pow_pos, eq-eqb, ne_eqb}
use Rattle.std.proofs.Math.Logic.{⊎_elim}
use Prim.Native.Nat.{ℕ, zero, suc, ◌<◌}
use Rattle.std.specs.Int.Bits.{bit_xor, xor_zero_l}
use Rattle.bitlaws.specs.Digit.{digit, digit_lt, set_or_clear, digit_above}
use Rattle.bitlaws.specs.Bitwise.{digit_xor}
use Rattle.bitlaws.specs.Elimination.{first_with, cleared, words_after, word_after}
use Rattle.bitlaws.specs.Order.{last_or_before}
use Rattle.bitlaws.specs.Xor.{xor_comm, xor_assoc, xor_self, xor_swap}
use Rattle.bitlaws.specs.Eliminated.{Reach, All, Clear}

all_map : (P Q : ℕ → Type 0) (f : ℕ → ℕ) → ((k : ℕ) → P k → Q (f k)) → (ks : List ℕ) → All P ks → All Q (map f ks)
all_map P Q f h [] a = tt
all_map P Q f h (k ∷ ks) (p, a) = (h k p, all_map P Q f h ks a)

all_weaken : (P Q : ℕ → Type 0) → ((k : ℕ) → P k → Q k) → (ks : List ℕ) → All P ks → All Q ks
all_weaken P Q h [] a = tt
all_weaken P Q h (k ∷ ks) (p, a) = (h k p, all_weaken P Q h ks a)

all_both : (P Q : ℕ → Type 0) (ks : List ℕ) → All P ks → All Q ks → All (λ k. P k × Q k) ks
all_both P Q [] a b = tt
all_both P Q (k ∷ ks) (p, a) (q, b) = ((p, q), all_both P Q ks a b)

-- ---- clearing is linear

cleared_set : (j w a : ℕ) → digit j a ≡ 1 → cleared j w a ≡ bit_xor a w
unfolding cleared
cleared_set j w a h = rw (eq-eqb (digit j a) 1 h)

cleared_clear : (j w a : ℕ) → digit j a ≡ 0 → cleared j w a ≡ a
unfolding cleared
cleared_clear j w a h = rw (ne_eqb (digit j a) 1 (λ e. omega arith))

cleared_xor : (j w a b : ℕ) → cleared j w (bit_xor a b) ≡ bit_xor (cleared j w a) (cleared j w b)
cleared_xor j w a b =
    ⊎_elim
    (λ (p : digit j a ≡ 1). ⊎_elim
    (λ (q : digit j b ≡ 1).
    cleared_clear j w (bit_xor a b) (omega (arith, digit_xor j a b)) ∙ sym (ap₂ bit_xor (cleared_set j w a p) (cleared_set j w b q) ∙ twice))
    (λ (q : digit j b ≡ 0).
    cleared_set j w (bit_xor a b) (omega (arith, digit_xor j a b)) ∙ xor_swap a b w ∙ sym (ap₂ bit_xor (cleared_set j w a p) (cleared_clear j w b q)))
    (set_or_clear j b))
    (λ (p : digit j a ≡ 0). ⊎_elim
    (λ (q : digit j b ≡ 1).
    cleared_set j w (bit_xor a b) (omega (arith, digit_xor j a b)) ∙ xor_assoc a b w ∙ sym (ap₂ bit_xor (cleared_clear j w a p) (cleared_set j w b q)))
    (λ (q : digit j b ≡ 0).
    cleared_clear j w (bit_xor a b) (omega (arith, digit_xor j a b)) ∙ sym (ap₂ bit_xor (cleared_clear j w a p) (cleared_clear j w b q)))
    (set_or_clear j b))
    (set_or_clear j a)
  where
    twice : bit_xor (bit_xor a w) (bit_xor b w) ≡ bit_xor a b
    twice = xor_assoc a w (bit_xor b w) ∙ ap (bit_xor a) (ap (bit_xor w) (xor_comm b w) ∙ sym (xor_assoc w w b) ∙ ap (λ (m : ℕ). bit_xor m b) (xor_self w) ∙ xor_zero_l b)

-- a linear map takes what is reached with it
reach_map : (f : ℕ → ℕ) → ((a b : ℕ) → f (bit_xor a b) ≡ bit_xor (f a) (f b)) → (ks : List ℕ) (o e : ℕ) → Reach o ks e → Reach (f o) (map f ks) (f e)
reach_map f lin [] o e r = ap f r
reach_map f lin (k ∷ ks) o e r =
    ⊎_elim (λ (p : Reach o ks e). inl (reach_map f lin ks o e p))
    (λ (p : Reach (bit_xor o k) ks e). inr (subst (λ (n : ℕ). Reach n (map f ks) (f e)) (lin o k) (reach_map f lin ks (bit_xor o k) e p))) r

-- ---- the digits that are cleared are gone from every word

-- the word that is taken has the digit where any has it
first_with_or : (j : ℕ) (ks : List ℕ) → (digit j (first_with j ks) ≡ 1) ⊎ ((first_with j ks ≡ 0) × All (λ k. digit j k ≡ 0) ks)
unfolding first_with
first_with_or j [] = inr (refl, tt)
first_with_or j (k ∷ ks) =
    ⊎_elim (λ (p : digit j k ≡ 1). inl (rw (eq-eqb (digit j k) 1 p) p))
    (λ (p : digit j k ≡ 0).
    rw (ne_eqb (digit j k) 1 (λ e. omega arith))
    (⊎_elim (λ q. inl q) (λ q. inr (q.0, (p, q.1))) (first_with_or j ks)))
    (set_or_clear j k)

first_with_all : (P : ℕ → Type 0) (j : ℕ) (ks : List ℕ) → P 0 → All P ks → P (first_with j ks)
unfolding first_with
first_with_all P j [] none a = none
first_with_all P j (k ∷ ks) none (p, a) = either (eqb (digit j k) 1) p (first_with_all P j ks none a)
  where
    either : (t : Bool) {a b : ℕ} → P a → P b → P (cond t a b)
    either true x y = x
    either false x y = y

digit_zero : (i : ℕ) → digit i 0 ≡ 0
digit_zero i = digit_above 0 i 0 (pow_pos 0) (omega arith)

cleared_digit : (j w a i : ℕ) → digit i w ≡ 0 → digit i a ≡ 0 → digit i (cleared j w a) ≡ 0
cleared_digit j w a i hw ha =
    ⊎_elim (λ (p : digit j a ≡ 1). ap (digit i) (cleared_set j w a p) ∙ omega (arith, digit_xor i a w))
    (λ (p : digit j a ≡ 0). ap (digit i) (cleared_clear j w a p) ∙ ha) (set_or_clear j a)

cleared_own : (j w a : ℕ) → digit j w ≡ 1 → digit j (cleared j w a) ≡ 0
cleared_own j w a hw =
    ⊎_elim (λ (p : digit j a ≡ 1). ap (digit j) (cleared_set j w a p) ∙ omega (arith, digit_xor j a w))
    (λ (p : digit j a ≡ 0). ap (digit j) (cleared_clear j w a p) ∙ p) (set_or_clear j a)

clear_next : (m a : ℕ) → Clear m a → digit m a ≡ 0 → Clear (suc m) a
clear_next m a h e i l = ⊎_elim (λ (p : i ≡ m). ap (λ (n : ℕ). digit n a) p ∙ e) (λ (p : i < m). h i p) (last_or_before l)

cleared_words : (m : ℕ) (ks : List ℕ) → All (Clear m) ks → All (Clear (suc m)) (map (cleared m (first_with m ks)) ks)
cleared_words m ks a =
    let w : ℕ = first_with m ks in
    let low : Clear m w = first_with_all (Clear m) m ks (λ i h. digit_zero i) a in
    ⊎_elim
    (λ (p : digit m w ≡ 1).
    all_map (Clear m) (Clear (suc m)) (cleared m w) (λ k h. clear_next m (cleared m w k) (λ i l. cleared_digit m w k i (low i l) (h i l)) (cleared_own m w k p)) ks a)
    (λ (p : (w ≡ 0) × All (λ k. digit m k ≡ 0) ks).
    all_map (λ k. Clear m k × (digit m k ≡ 0)) (Clear (suc m)) (cleared m w)
    (λ k h. rw (cleared_clear m w k h.1) (clear_next m k h.0 h.1)) ks (all_both (Clear m) (λ k. digit m k ≡ 0) ks a p.1))
    (first_with_or m ks)

all_free : (ks : List ℕ) → All (Clear 0) ks
all_free [] = tt
all_free (k ∷ ks) = (λ i h. absurd (omega arith), all_free ks)

words_clear : (m : ℕ) (ks : List ℕ) → All (Clear m) (words_after m ks)
unfolding words_after
words_clear zero ks = all_free ks
words_clear (suc m) ks = cleared_words m (words_after m ks) (words_clear m ks)

-- ---- complete: a word without the first m digits that was reached is reached still, and so the word that is left has none of them

still_reached : (m : ℕ) (ks : List ℕ) (o e : ℕ) → Clear m e → Reach o ks e → Reach (word_after m ks o) (words_after m ks) e
unfolding words_after word_after
still_reached zero ks o e h r = r
still_reached (suc m) ks o e h r =
    let w : ℕ = first_with m (words_after m ks) in
    subst (Reach (cleared m w (word_after m ks o)) (map (cleared m w) (words_after m ks))) (cleared_clear m w e (h m (omega arith)))
    (reach_map (cleared m w) (cleared_xor m w) (words_after m ks) (word_after m ks o) e (still_reached m ks o e (λ i l. h i (omega arith)) r))

-- words without digit i leave it
reach_digit : (i : ℕ) (ks : List ℕ) (o e : ℕ) → All (λ k. digit i k ≡ 0) ks → Reach o ks e → digit i o ≡ digit i e
reach_digit i [] o e a r = ap (digit i) r
reach_digit i (k ∷ ks) o e (p, a) r =
    ⊎_elim (λ (q : Reach o ks e). reach_digit i ks o e a q)
    (λ (q : Reach (bit_xor o k) ks e). omega (arith, digit_xor i o k, p, reach_digit i ks (bit_xor o k) e a q, digit_lt i o)) r

pub complete : (m : ℕ) (ks : List ℕ) (o e : ℕ) → Clear m e → Reach o ks e → Clear m (word_after m ks o)
complete m ks o e h r i l =
    reach_digit i (words_after m ks) (word_after m ks o) e
    (all_weaken (Clear m) (λ k. digit i k ≡ 0) (λ k c. c i l) (words_after m ks) (words_clear m ks)) (still_reached m ks o e h r)
    ∙ h i l

-- ---- sound: what holds of 0 and of the words, and so of sums, holds of the sum by which the word that is left differs from the first

module _ (Sum : ℕ → Type 0) (none : Sum 0) (sum : (a b : ℕ) → Sum a → Sum b → Sum (bit_xor a b)) where
  cleared_sum : (j w a : ℕ) → Sum w → Sum a → Sum (cleared j w a)
  cleared_sum j w a hw ha =
      ⊎_elim (λ (p : digit j a ≡ 1). rw (cleared_set j w a p) (sum a w ha hw)) (λ (p : digit j a ≡ 0). rw (cleared_clear j w a p) ha) (set_or_clear j a)

  words_sum : (m : ℕ) (ks : List ℕ) → All Sum ks → All Sum (words_after m ks)
  unfolding words_after
  words_sum zero ks a = a
  words_sum (suc m) ks a =
      let L = words_after m ks in
      let rec = words_sum m ks a in
      all_map (Sum) (Sum) (cleared m (first_with m L)) (λ k h. cleared_sum m (first_with m L) k (first_with_all Sum m L none rec) h) L rec

  pub sound : (m : ℕ) (ks : List ℕ) (o : ℕ) → All Sum ks → Sum (bit_xor o (word_after m ks o))
  unfolding word_after
  sound zero ks o a = rw (xor_self o) none
  sound (suc m) ks o a =
      let L = words_after m ks in
      let w : ℕ = first_with m L in
      let r : ℕ = word_after m ks o in
      let before : Sum (bit_xor o r) = sound m ks o a in
      ⊎_elim (λ (p : digit m r ≡ 1). rw (cleared_set m w r p) (rw (sym (xor_assoc o r w)) (sum (bit_xor o r) w before (first_with_all Sum m L none (words_sum m ks a)))))
      (λ (p : digit m r ≡ 0). rw (cleared_clear m w r p) before) (set_or_clear m r)
