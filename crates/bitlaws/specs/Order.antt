-- Two cases on the order of two numbers.
use Rattle.std.specs.Prelude.{◌≡◌, ◌⊎◌, ℕ, zero, suc, ◌≤◌, ◌<◌}
use Rattle.std.proofs.Common.{inl, inr, ⊎_elim, zero-lt-suc, eq-or-lt_of_le, arith}

pub le_or_lt : (a b : ℕ) → (a ≤ b) ⊎ (b < a)
le_or_lt zero b = inl (omega arith)
le_or_lt (suc a) zero = inr (zero-lt-suc a)
le_or_lt (suc a) (suc b) = ⊎_elim (λ (h : a ≤ b). inl (omega arith)) (λ (h : b < a). inr (omega arith)) (le_or_lt a b)

pub lt_or_gt : (a b : ℕ) → (a ≡ b → ⊥) → (a < b) ⊎ (b < a)
lt_or_gt a b ne = ⊎_elim (λ (h : a ≤ b). ⊎_elim (λ (e : a ≡ b). absurd (ne e)) (λ (l : a < b). inl l) (eq-or-lt_of_le h)) (λ (h : b < a). inr h) (le_or_lt a b)

-- the last of n + 1 numbers, or one before it
pub last_or_before : {q n : ℕ} → q < suc n → (q ≡ n) ⊎ (q < n)
last_or_before h = eq-or-lt_of_le (omega arith)
