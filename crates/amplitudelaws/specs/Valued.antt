-- The same steps with their numbers read in another type: Paulis, signs, branches, pivots and widths stay.
use Rattle.std.specs.Prelude.{◌≡◌, ℕ}
use Rattle.std.proofs.Math.Path.{refl, ap}
use Rattle.std.proofs.Common.{◌∙◌}
use mathlib.Core.List.{List, [], ◌∷◌, map}
use Rattle.amplitudelaws.specs.Step.{Step, width_after, last_width}
use Rattle.amplitudelaws.specs.Step.Step.{rotation, promotion, projection, correction, quarter_turn}
use Rattle.amplitudelaws.specs.Acting.{Proper, Propers}

module _ {R S : Type 0} (value : R → S) where
  abbrev pub valued : Step R → Step S
  valued (rotation P sign c s) = rotation P sign (value c) (value s)
  valued (promotion c q) = promotion (value c) (value q)
  valued (projection M p v invnorm) = projection M p v (value invnorm)
  valued (correction P) = correction P
  valued (quarter_turn P) = quarter_turn P

  abbrev pub valued_steps : List (Step R) → List (Step S)
  valued_steps = map valued

  after_valued : (n : ℕ) (t : Step R) → width_after n (valued t) ≡ width_after n t
  unfolding width_after
  after_valued n (rotation P sign c s) = refl
  after_valued n (promotion c q) = refl
  after_valued n (projection M p v invnorm) = refl
  after_valued n (correction P) = refl
  after_valued n (quarter_turn P) = refl

  pub last_valued : (n : ℕ) (ts : List (Step R)) → last_width n (valued_steps ts) ≡ last_width n ts
  unfolding last_width
  last_valued n [] = refl
  last_valued n (t ∷ ts) = ap (λ (k : ℕ). last_width k (valued_steps ts)) (after_valued n t) ∙ last_valued (width_after n t) ts

  -- nothing is asked of the numbers
  proper_valued : (n : ℕ) (t : Step R) → Proper n t → Proper n (valued t)
  proper_valued n (rotation P sign c s) ok = ok
  proper_valued n (promotion c q) ok = ok
  proper_valued n (projection M p v invnorm) ok = ok
  proper_valued n (correction P) ok = ok
  proper_valued n (quarter_turn P) ok = ok

  pub propers_valued : (n : ℕ) (ts : List (Step R)) → Propers n ts → Propers n (valued_steps ts)
  propers_valued n [] ok = ok
  propers_valued n (t ∷ ts) (ok, oks) = (proper_valued n t ok, rw (after_valued n t) (propers_valued (width_after n t) ts oks))
