-- The words of a linear map: what it makes of any argument is a sum of them.
use Rattle.std.specs.Prelude.{◌≡◌}
use Rattle.std.proofs.Math.Path.{sym, ap}
use Rattle.std.proofs.Common.{◌∙◌, subst, pow-suc}
use Rattle.std.proofs.Math.Logic.{inl, inr, ⊎_elim}
use Prim.Native.Nat.{ℕ, zero, suc, ◌-◌, ◌*◌, ◌^◌, ◌≤◌, ◌<◌}
use native.Mathlib.Omega.{arith}
use Rattle.std.specs.Int.Bits.{bit_xor, xor_zero_r}
use Rattle.bitlaws.specs.Digit.{digit_above}
use Rattle.bitlaws.specs.Elimination.{words_of}
use Rattle.bitlaws.specs.Eliminated.{Reach, All}
use Rattle.bitlaws.specs.Order.{le_or_lt}
use Rattle.bitlaws.proofs.Pivot.{xor_pivot}
use Rattle.bitlaws.specs.Xor.{xor_comm, xor_assoc, xor_self}

-- a property that all values have, the words have
pub words_all : (f : ℕ → ℕ) (P : ℕ → Type 0) → ((c : ℕ) → P (f c)) → (q : ℕ) → All P (words_of f q)
unfolding words_of
words_all f P h zero = tt
words_all f P h (suc q) = (h (2 ^ q), words_all f P h q)

-- a number without its highest digit
without_top : (q c : ℕ) → 2 ^ q ≤ c → c < 2 ^ suc q → (c - 2 ^ q < 2 ^ q) × (bit_xor (2 ^ q) (c - 2 ^ q) ≡ c)
without_top q c big h =
    let low : c - 2 ^ q < 2 ^ q = omega (arith, pow-suc 2 q) in
    let one : 1 * 2 ^ q ≡ 2 ^ q = omega arith in
    let apart = digit_above q q (c - 2 ^ q) low (omega arith) in
    (low, xor_comm (2 ^ q) (c - 2 ^ q) ∙ ap (bit_xor (c - 2 ^ q)) (sym one) ∙ xor_pivot q 1 (c - 2 ^ q) (omega arith) apart ∙ omega arith)

module _ (f : ℕ → ℕ) (linear : (a b : ℕ) → f (bit_xor a b) ≡ bit_xor (f a) (f b)) where
  pub linear_zero : f 0 ≡ 0
  linear_zero = ap f (sym (xor_self 0)) ∙ linear 0 0 ∙ xor_self (f 0)

  -- from o by the words of an argument's digits
  pub reach_linear : (q o c : ℕ) → c < 2 ^ q → Reach o (words_of f q) (bit_xor o (f c))
  unfolding words_of
  reach_linear zero o c h = sym (ap (bit_xor o) (ap f (none c h) ∙ linear_zero) ∙ xor_zero_r o)
    where
      none : (c : ℕ) → c < 2 ^ 0 → c ≡ 0
      none c h = omega arith
  reach_linear (suc q) o c h =
      ⊎_elim
      (λ (big : 2 ^ q ≤ c).
      let rest = without_top q c big h in
      let from : ℕ = bit_xor o (f (2 ^ q)) in
      let all : bit_xor from (f (c - 2 ^ q)) ≡ bit_xor o (f c)
      = xor_assoc o (f (2 ^ q)) (f (c - 2 ^ q)) ∙ ap (bit_xor o) (sym (linear (2 ^ q) (c - 2 ^ q)) ∙ ap f rest.1) in
      inr (subst (λ (n : ℕ). Reach from (words_of f q) n) all (reach_linear q from (c - 2 ^ q) rest.0)))
      (λ (small : c < 2 ^ q). inl (reach_linear q o c small))
      (le_or_lt (2 ^ q) c)
