-- A loop that rewrites the first n entries of a list in place, each in one turn: one entry a turn, or two.
use Rattle.std.specs.Prelude.{◌≡◌, List, ℕ, ◌<◌}
use Rattle.std.proofs.Common.{arith}
use Rattle.statelaws.specs.Over.{over}
use Rattle.statelaws.proofs.Over.{over_is}
use Rattle.statelaws.specs.Sweep.{Swept, Rising}

module _ {A : Type 0} {d : A} {turn : ℕ → ℕ} {f : ℕ → A} {n : ℕ} {l₀ : List A} where
  module _ {t : ℕ} {l : List A} (s : Swept d turn f n l₀ t l) where
    -- the loop is over
    pub swept_all : ((k : ℕ) → k < n → turn k < t) → l ≡ over n f l₀
    swept_all all = over_is d n f l₀ l s.len (λ k h b. s.done k h (all k h)) s.past

module _ {A : Type 0} {d : A} {f : ℕ → A} {n : ℕ} {l₀ : List A} {t : ℕ} {l : List A} (s : Rising d f n l₀ t l) where
  pub rising_all : t ≡ n → l ≡ over n f l₀
  rising_all e = swept_all s (λ k h. omega arith)
