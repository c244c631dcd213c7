-- The first entries of a list replaced, the rest and the length kept.
use Rattle.std.specs.Prelude.{◌≡◌, length}
use Rattle.std.proofs.Math.Path.{refl, ap}
use mathlib.Core.List.{List, [], ◌∷◌}
use Prim.Native.Nat.{ℕ, zero, suc}

module _ {A : Type 0} where
  -- l with its first n entries replaced by f 0, f 1, .., f (n - 1)
  unfoldable pub over : ℕ → (ℕ → A) → List A → List A
  over zero f l = l
  over (suc n) f [] = []
  over (suc n) f (x ∷ xs) = f zero ∷ over n (λ k. f (suc k)) xs

  pub length_over : (n : ℕ) (f : ℕ → A) (l : List A) → length (over n f l) ≡ length l
  unfolding over
  length_over zero f l = refl
  length_over (suc n) f [] = refl
  length_over (suc n) f (x ∷ xs) = ap suc (length_over n (λ k. f (suc k)) xs)
