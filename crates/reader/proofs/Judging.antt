-- What each kind of body is read as, by the rows that the code asks one after the other: the refusal of the first that refuses, or the step.
use mathlib.Core.Path.{◌≡◌, refl, sym, ap, ◌∙◌}
use mathlib.Core.Bool.{Bool, true, false, not, ◌&&◌}
use Prim.Native.Nat.{ℕ, zero, suc}
use lib.Dec.{leb, ltb}
use lib.Ieee.{Float, nan, inf, fin, le, lt, eq}
use lib.Ieee.Scale.{finite}
use Rattle.std.specs.Prelude.{Result}
use Rattle.std.specs.Result.{IsErrAnd}
use Rattle.answers.specs.Answer.Answer.{accepted}
use Rattle.answers.specs.Row.{row, first, first_some, first_none, answered_none}
use Rattle.paulilaws.specs.Pauli.{Pauli}
use Rattle.amplitudelaws.specs.Binary.{in_unit}
use Rattle.amplitudelaws.specs.Rows.{hermitian_row, unit_row, rotation_kernel_row, pivot_row, measurement_row, promoted_width_row, widest_kernel}
use Rattle.amplitudelaws.specs.Step.{Step}
use Rattle.framelaws.specs.Caller.{Caller}
use Rattle.framelaws.specs.Rows.{rotation_step_row, promotion_step_row, projection_step_row, step_row}
use Rattle.refusals.specs.declared.Row.{Row}
use Rattle.refusals.specs.Refusal.{number_of, answer_of}
use Rattle.refusals.proofs.Asked.{number_some, asked}
use Rattle.std.proofs.Math.Option.{some}
use Rattle.steps.specs.declared.Step as declared
use Rattle.steps.specs.Meaning.{step_of}
use Rattle.reader.specs.Meaning.{step_call}

-- ---- a step at width n

module _ (caller : Caller) (n : ℕ) (t : Step Float) where
  pub step_refused : (x : Result declared.Step Row) (e : Row) → IsErrAnd x (λ r. r ≡ e) → number_of e ≡ step_row caller n t → answer_of step_of x ≡ step_call caller n (some t)
  unfolding step_call
  step_refused x e h is = asked x e (step_row caller n t) step_of t h is

  pub step_taken : (u : Step Float) → 0 ≡ step_row caller n t → u ≡ t → accepted u ≡ step_call caller n (some t)
  unfolding step_call
  step_taken u passed is = ap accepted is ∙ sym (answered_none (step_row caller n t) t (sym passed))

-- ---- rows that are asked one after the other

-- the first group refuses
pub refuses : (e : Row) {a : ℕ} (rest : ℕ) → number_of e ≡ a → number_of e ≡ first a rest
refuses e rest h = sym (first_some (number_of e) rest (number_some e)) ∙ ap (λ (n : ℕ). first n rest) h

-- the first group does not
pub passes : {a rest r : ℕ} → 0 ≡ a → r ≡ rest → r ≡ first a rest
passes {a} {rest} h e = e ∙ sym (first_none a rest (sym h))

first_assoc : (a b c : ℕ) → first (first a b) c ≡ first a (first b c)
unfolding first
first_assoc zero b c = refl
first_assoc (suc a) b c = refl

-- ---- a NaN is no coefficient

nan_above : (x : Float) → le x nan ≡ false
unfolding le lt eq
nan_above nan = refl
nan_above (inf s) = refl
nan_above (fin s m e) = refl

nan_outside : in_unit nan ≡ false
unfolding in_unit
nan_outside = rw (nan_above _)

pub nan_first : (c s : Float) → nan ≡ c → 8 ≡ unit_row c s
unfolding unit_row row
nan_first c s e = rw (← e, nan_outside)

pub nan_second : (c s : Float) → nan ≡ s → 8 ≡ unit_row c s
unfolding unit_row row
nan_second c s e = rw (← e, nan_outside) (go (in_unit c))
  where
    go : (t : Bool) → 8 ≡ row (not (t && false)) 8 0
    go true = refl
    go false = refl

-- ---- the rows of a rotation

module _ (P : Pauli) (sign : ℕ) (c s : Float) where
  rotation_parts : first (hermitian_row widest_kernel P) (first (unit_row c s) (row (ltb 1 sign) 14 0)) ≡ rotation_step_row P sign c s
  unfolding rotation_step_row rotation_kernel_row
  rotation_parts = sym (first_assoc (hermitian_row widest_kernel P) (unit_row c s) (row (ltb 1 sign) 14 0))

  pub rotation_pauli : (e : Row) → number_of e ≡ hermitian_row widest_kernel P → number_of e ≡ rotation_step_row P sign c s
  rotation_pauli e h = refuses e _ h ∙ rotation_parts

  module _ (pauli : 0 ≡ hermitian_row widest_kernel P) where
    pub rotation_floats : (e : Row) → number_of e ≡ unit_row c s → number_of e ≡ rotation_step_row P sign c s
    rotation_floats e h = passes pauli (refuses e _ h) ∙ rotation_parts

    pub rotation_sign : (r : ℕ) → 0 ≡ unit_row c s → r ≡ row (ltb 1 sign) 14 0 → r ≡ rotation_step_row P sign c s
    rotation_sign r floats h = passes pauli (passes floats h) ∙ rotation_parts

-- ---- of a promotion

module _ (caller : Caller) (n : ℕ) (c q : Float) where
  pub promotion_width : (e : Row) → number_of e ≡ promoted_width_row n → number_of e ≡ promotion_step_row caller n c q
  unfolding promotion_step_row
  promotion_width e h = refuses e _ h

  module _ (width : 0 ≡ promoted_width_row n) where
    pub promotion_floats : (e : Row) → number_of e ≡ unit_row c q → number_of e ≡ promotion_step_row caller n c q
    unfolding promotion_step_row
    promotion_floats e h = passes width (refuses e _ h)

    pub promotion_limit : (r : ℕ) → 0 ≡ unit_row c q → r ≡ row (leb caller.widest n) caller.promotion_row 0 → r ≡ promotion_step_row caller n c q
    unfolding promotion_step_row
    promotion_limit r floats h = passes width (passes floats h)

-- ---- of a projection

module _ (M : Pauli) (p v : ℕ) (invnorm : Float) where
  projection_parts : first (hermitian_row widest_kernel M) (first (first (row (not (finite invnorm)) 8 0) (pivot_row M p)) (row (ltb 1 v) 14 0)) ≡ projection_step_row M p v invnorm
  unfolding projection_step_row measurement_row
  projection_parts = sym (first_assoc (hermitian_row widest_kernel M) (first (row (not (finite invnorm)) 8 0) (pivot_row M p)) (row (ltb 1 v) 14 0))

  pub projection_pauli : (e : Row) → number_of e ≡ hermitian_row widest_kernel M → number_of e ≡ projection_step_row M p v invnorm
  projection_pauli e h = refuses e _ h ∙ projection_parts

  unfit : nan ≡ invnorm → 8 ≡ first (first (row (not (finite invnorm)) 8 0) (pivot_row M p)) (row (ltb 1 v) 14 0)
  unfolding first row
  unfit e = rw (← e)

  pub projection_nan : 0 ≡ hermitian_row widest_kernel M → nan ≡ invnorm → 8 ≡ projection_step_row M p v invnorm
  projection_nan pauli e = passes pauli (unfit e) ∙ projection_parts

  pub projection_measured : (e : Row) → number_of e ≡ measurement_row M p (not (finite invnorm)) → number_of e ≡ projection_step_row M p v invnorm
  unfolding projection_step_row
  projection_measured e h = refuses e _ h

  pub projection_branch : (r : ℕ) → 0 ≡ measurement_row M p (not (finite invnorm)) → r ≡ row (ltb 1 v) 14 0 → r ≡ projection_step_row M p v invnorm
  unfolding projection_step_row
  projection_branch r passed h = passes passed h
