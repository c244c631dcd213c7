-- The first entries of a list replaced, the rest and the length kept.
use Rattle.std.specs.Prelude.{◌≡◌, length, get_or}
use Rattle.std.proofs.Math.Path.{refl}
use Rattle.std.proofs.Common.{sym, ◌∙◌, ⊎_elim, le_of_suc-le-suc, not-suc-le-zero, arith, ext_get_or}
use mathlib.Core.List.{List, [], ◌∷◌}
use Prim.Native.Nat.{ℕ, zero, suc, ◌≤◌, ◌<◌}
use Rattle.bitlaws.specs.Order.{le_or_lt}
use Rattle.statelaws.specs.Over.{over, length_over}

module _ {A : Type 0} where
  -- an entry that is replaced
  pub over_at : (n : ℕ) (f : ℕ → A) (l : List A) (k : ℕ) (d : A) → k < n → k < length l → get_or (over n f l) k d ≡ f k
  unfolding over
  over_at zero f l k d h b = absurd (not-suc-le-zero h)
  over_at (suc n) f [] k d h b = absurd (not-suc-le-zero b)
  over_at (suc n) f (x ∷ xs) zero d h b = refl
  over_at (suc n) f (x ∷ xs) (suc k) d h b = over_at n (λ j. f (suc j)) xs k d (le_of_suc-le-suc h) (le_of_suc-le-suc b)

  -- an entry past them
  over_past : (n : ℕ) (f : ℕ → A) (l : List A) (k : ℕ) (d : A) → n ≤ k → get_or (over n f l) k d ≡ get_or l k d
  unfolding over
  over_past zero f l k d h = refl
  over_past (suc n) f [] k d h = refl
  over_past (suc n) f (x ∷ xs) zero d h = absurd (not-suc-le-zero h)
  over_past (suc n) f (x ∷ xs) (suc k) d h = over_past n (λ j. f (suc j)) xs k d (le_of_suc-le-suc h)

  -- a list that is as long, and has the new entries and the old rest, is it
  pub over_is : (d : A) (n : ℕ) (f : ℕ → A) (l₀ l : List A) → length l ≡ length l₀
      → ((k : ℕ) → k < n → k < length l₀ → get_or l k d ≡ f k) → ((k : ℕ) → n ≤ k → get_or l k d ≡ get_or l₀ k d) → l ≡ over n f l₀
  over_is d n f l₀ l len new old =
      ext_get_or d l (over n f l₀) (len ∙ sym (length_over n f l₀))
      (λ k b. ⊎_elim (λ (p : n ≤ k). old k p ∙ sym (over_past n f l₀ k d p))
      (λ (q : k < n). let inside : k < length l₀ = omega arith in new k q inside ∙ sym (over_at n f l₀ k d q inside))
      (le_or_lt n k))

  -- only the first n values count
  pub over_ext : (n : ℕ) (f g : ℕ → A) (l : List A) → ((k : ℕ) → k < n → f k ≡ g k) → over n f l ≡ over n g l
  unfolding over
  over_ext zero f g l e = refl
  over_ext (suc n) f g [] e = refl
  over_ext (suc n) f g (x ∷ xs) e = λ i. e zero (omega arith) i ∷ over_ext n (λ k. f (suc k)) (λ k. g (suc k)) xs (λ k h. e (suc k) (omega arith)) i
