-- Finite sums in a commutative ring.
use Rattle.std.specs.Prelude.{◌≡◌}
use Rattle.std.proofs.Math.Path.{refl, sym, ap, ap₂}
use Rattle.std.proofs.Common.{◌∙◌}
use Rattle.std.proofs.Math.Logic.{⊎_elim}
use Prim.Native.Nat.{ℕ, zero, suc, ◌+◌, ◌≤◌, ◌<◌}
use native.Mathlib.Omega.{arith}
use Rattle.std.proofs.Math.Numerals.{unary_clauses}
use Rattle.bitlaws.specs.Order.{le_or_lt}
use Rattle.amplitudelaws.specs.Book.Ring.{Ring, ring, add_zero, mul_zero}

module _ {R : Type 0} (𝓡 : Ring R) where
  open 𝓡 use {add, mul, zero as nought}

  -- f 0 + f 1 + .. + f (n - 1)
  unfoldable pub sum : ℕ → (ℕ → R) → R
  sum zero f = nought
  sum (suc n) f = add (sum n f) (f n)

  pub sum_none : (n : ℕ) (f : ℕ → R) → ((b : ℕ) → b < n → f b ≡ nought) → sum n f ≡ nought
  unfolding sum
  sum_none zero f h = refl
  sum_none (suc n) f h = ap₂ add (sum_none n f (λ b l. h b (omega arith))) (h n (omega arith)) ∙ 𝓡.zero_add nought

  -- one term only
  pub sum_one : (n c : ℕ) (f : ℕ → R) → c < n → ((b : ℕ) → b < n → (b ≡ c → ⊥) → f b ≡ nought) → sum n f ≡ f c
  unfolding sum
  sum_one zero c f l h = absurd (omega arith)
  sum_one (suc n) c f l h = ⊎_elim
      (λ (g : n ≤ c).
      let e : n ≡ c = omega arith in
      ap₂ add (sum_none n f (λ b m. h b (omega arith) (λ q. omega arith))) (ap f e) ∙ 𝓡.zero_add (f c))
      (λ (g : c < n).
      ap₂ add (sum_one n c f g (λ b m. h b (omega arith))) (h n (omega arith) (λ q. omega arith)) ∙ add_zero 𝓡 (f c))
      (le_or_lt n c)

  pub sum_same : (n : ℕ) (f g : ℕ → R) → ((b : ℕ) → b < n → f b ≡ g b) → sum n f ≡ sum n g
  unfolding sum
  sum_same zero f g h = refl
  sum_same (suc n) f g h = ap₂ add (sum_same n f g (λ b l. h b (omega arith))) (h n (omega arith))

  pub sum_mul : (c : R) (n : ℕ) (f : ℕ → R) → sum n (λ b. mul c (f b)) ≡ mul c (sum n f)
  unfolding sum
  sum_mul c zero f = sym (mul_zero 𝓡 c)
  sum_mul c (suc n) f = ap (λ (x : R). add x (mul c (f n))) (sum_mul c n f) ∙ sym (𝓡.left_distrib c (sum n f) (f n))

  pub sum_add : (n : ℕ) (f g : ℕ → R) → sum n (λ b. add (f b) (g b)) ≡ add (sum n f) (sum n g)
  unfolding sum
  sum_add zero f g = sym (𝓡.zero_add nought)
  sum_add (suc n) f g = ap (λ (x : R). add x (add (f n) (g n))) (sum_add n f g) ∙ paired (sum n f) (sum n g) (f n) (g n)
    where
      paired : (a b c d : R) → add (add a b) (add c d) ≡ add (add a c) (add b d)
      paired a b c d = simp ring

  -- the order of two sums
  pub sum_swap : (m n : ℕ) (f : ℕ → ℕ → R) → sum m (λ a. sum n (f a)) ≡ sum n (λ b. sum m (λ a. f a b))
  unfolding sum
  sum_swap zero n f = sym (sum_none n (λ b. nought) (λ b l. refl))
  sum_swap (suc m) n f = ap (λ (x : R). add x (sum n (f m))) (sum_swap m n f) ∙ sym (sum_add n (λ b. sum m (λ a. f a b)) (f m))

  -- the first m terms and the n after them
  pub sum_plus : (m n : ℕ) (f : ℕ → R) → sum (m + n) f ≡ add (sum m f) (sum n (λ b. f (m + b)))
  unfolding sum
  sum_plus m zero f = simp unary_clauses (sym (add_zero 𝓡 (sum m f)))
  sum_plus m (suc n) f =
      simp unary_clauses
      (ap (λ (x : R). add x (f (m + n))) (sum_plus m n f) ∙ 𝓡.add_assoc (sum m f) (sum n (λ b. f (m + b))) (f (m + n)))
