-- The rows of one step for two callers: only a promotion looks at who calls, and only where it stands at a greatest width.
use Rattle.std.specs.Prelude.{◌≡◌, Bool, ◌⊎◌, leb, Float}
use Rattle.std.proofs.Math.Path.{refl}
use Rattle.std.proofs.Math.Bool.{true, false}
use Rattle.std.proofs.Math.Logic.{inl, inr}
use Prim.Native.Nat.{ℕ, zero, suc, ◌≤◌}
use Rattle.std.proofs.Common.{arith}
use borrow.Author.Tests.{leb-true, leb-false, lt-leb}
use Rattle.answers.specs.Row.{row, first}
use Rattle.amplitudelaws.specs.Rows.{unit_row, promoted_width_row}
use Rattle.amplitudelaws.specs.Step.{Step, width_after}
use Rattle.amplitudelaws.specs.Step.Step.{rotation, promotion, projection, correction, quarter_turn}
use Rattle.framelaws.specs.Caller.{Caller}
use Rattle.framelaws.specs.Rows.{step_row, promotion_step_row}

-- where both may have the width that the step leaves
module _ (a b : Caller) (n : ℕ) where
  pub row_alike : (t : Step Float) → width_after n t ≤ a.widest → width_after n t ≤ b.widest → step_row b n t ≡ step_row a n t
  unfolding step_row promotion_step_row width_after
  row_alike (rotation P sign c s) h k = refl
  row_alike (promotion c q) h k = rw (lt-leb a.widest n h, lt-leb b.widest n k) (unfold row in refl)
  row_alike (projection M p v invnorm) h k = refl
  row_alike (correction P) h k = refl
  row_alike (quarter_turn P) h k = refl

-- a promotion at the caller's greatest width, or past it
abbrev pub AtLimit : Caller → ℕ → Step Float → Type 0
AtLimit caller n (rotation P sign c s) = ⊥
AtLimit caller n (promotion c q) = caller.widest ≤ n
AtLimit caller n (projection M p v invnorm) = ⊥
AtLimit caller n (correction P) = ⊥
AtLimit caller n (quarter_turn P) = ⊥

-- Of a wide and a narrow caller: the narrow one's row is the wide one's, or it is the narrow one's own, of a promotion at its greatest width.
module _ (wide narrow : Caller) (order : narrow.widest ≤ wide.widest) (n : ℕ) where
  own_row : (w u : ℕ) (t v : Bool) → (t ≡ false → v ≡ false)
      → (first w (first u (row t narrow.promotion_row 0)) ≡ first w (first u (row v wide.promotion_row 0)))
      ⊎ ((t ≡ true) × (first w (first u (row t narrow.promotion_row 0)) ≡ narrow.promotion_row))
  unfolding first row
  own_row (suc w) u t v h = inl refl
  own_row zero (suc u) t v h = inl refl
  own_row zero zero true v h = inr (refl, refl)
  own_row zero zero false v h = inl (rw (h refl))

  pub row_or_own : (t : Step Float) → (step_row narrow n t ≡ step_row wide n t) ⊎ (AtLimit narrow n t × (step_row narrow n t ≡ narrow.promotion_row))
  unfolding step_row promotion_step_row
  row_or_own (rotation P sign c s) = inl refl
  row_or_own (promotion c q) = go (own_row (promoted_width_row n) (unit_row c q) (leb narrow.widest n) (leb wide.widest n)
      (λ e. lt-leb wide.widest n (omega (arith, leb-false narrow.widest n e, order))))
    where
      go : {A B : Type 0} → A ⊎ ((leb narrow.widest n ≡ true) × B) → A ⊎ ((narrow.widest ≤ n) × B)
      go (inl e) = inl e
      go (inr (h, e)) = inr (leb-true narrow.widest n h, e)
  row_or_own (projection M p v invnorm) = inl refl
  row_or_own (correction P) = inl refl
  row_or_own (quarter_turn P) = inl refl
