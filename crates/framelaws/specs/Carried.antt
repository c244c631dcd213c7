-- What carrying a Pauli through steps keeps: the widths, the survey, and that no row refuses a step.
use Rattle.std.specs.Prelude.{◌≡◌, ℕ, ◌+◌, ltb, Float}
use Rattle.std.proofs.Math.Path.{refl, ap}
use Rattle.std.proofs.Common.{◌∙◌, arith, le-ltb}
use mathlib.Core.List.{List, [], ◌∷◌}
use Rattle.answers.specs.Row.{row, first, first_passed, first_none}
use Rattle.bitlaws.specs.Digit.{mod_two}
use Rattle.paulilaws.specs.Pauli.{Pauli, anti}
use Rattle.amplitudelaws.specs.Step.{Step, width_after}
use Rattle.amplitudelaws.specs.Step.Step.{rotation, promotion, projection, correction, quarter_turn}
use Rattle.framelaws.specs.Caller.{Caller}
use Rattle.framelaws.specs.Rows.{rotation_step_row, projection_step_row, step_row}
use Rattle.framelaws.specs.Carrying.{flipped, carried_step, passed, carried_steps}
use Rattle.framelaws.specs.Survey.{Survey, surveyed, survey_from, outset, survey, mixed_amplitudes}

module _ {R : Type 0} where
  -- what looks at no sign and no branch is the same of a carried step
  pub flagless_carried : {A : Type 0} (f : Step R → A) → ((P : Pauli) (sign sign' : ℕ) (c s : R) → f (rotation P sign c s) ≡ f (rotation P sign' c s))
      → ((M : Pauli) (p v v' : ℕ) (invnorm : R) → f (projection M p v invnorm) ≡ f (projection M p v' invnorm))
      → (Q : Pauli) (t : Step R) → f (carried_step Q t) ≡ f t
  unfolding carried_step
  flagless_carried f signs branches Q (rotation P sign c s) = signs P (flipped Q P sign) sign c s
  flagless_carried f signs branches Q (promotion c q) = refl
  flagless_carried f signs branches Q (projection M p v invnorm) = branches M p (flipped Q M v) v invnorm
  flagless_carried f signs branches Q (correction P) = refl
  flagless_carried f signs branches Q (quarter_turn P) = refl

  pub after_carried : (n : ℕ) (Q : Pauli) (t : Step R) → width_after n (carried_step Q t) ≡ width_after n t
  unfolding width_after
  after_carried n = flagless_carried (width_after n) (λ P sign sign' c s. refl) (λ M p v v' invnorm. refl)

  mixed_carried : (n : ℕ) (Q : Pauli) (t : Step R) → mixed_amplitudes n (carried_step Q t) ≡ mixed_amplitudes n t
  unfolding mixed_amplitudes
  mixed_carried n = flagless_carried (mixed_amplitudes n) (λ P sign sign' c s. refl) (λ M p v v' invnorm. refl)

  pub surveyed_carried : (v : Survey) (Q : Pauli) (t : Step R) → surveyed v (carried_step Q t) ≡ surveyed v t
  unfolding surveyed
  surveyed_carried v Q t = rw (after_carried v.width Q t, mixed_carried v.width Q t)

  from_carried : (Q : Pauli) (v : Survey) (ts : List (Step R)) → survey_from v (carried_steps Q ts) ≡ survey_from v ts
  unfolding survey_from carried_steps
  from_carried Q v [] = refl
  from_carried Q v (t ∷ ts) =
      ap (λ (w : Survey). survey_from w (carried_steps (passed Q t) ts)) (surveyed_carried v Q t) ∙ from_carried (passed Q t) (surveyed v t) ts

  pub survey_carried : (Q : Pauli) (n : ℕ) (ts : List (Step R)) → survey n (carried_steps Q ts) ≡ survey n ts
  unfolding survey
  survey_carried Q n ts = from_carried Q (outset n) ts

-- ---- rows

-- a flipped sign or branch is at most 1
flipped_row : (Q P : Pauli) (flag : ℕ) → row (ltb 1 (flipped Q P flag)) 14 0 ≡ 0
unfolding row flipped
flipped_row Q P flag = rw (le-ltb 1 (flipped Q P flag) (omega (arith, mod_two (flag + anti Q P))))

-- rows of which only 14 looks at the flag
reflagged : (rows flag : ℕ) (Q P : Pauli) → first rows (row (ltb 1 flag) 14 0) ≡ 0 → first rows (row (ltb 1 (flipped Q P flag)) 14 0) ≡ 0
reflagged rows flag Q P e = first_none rows _ (first_passed rows (row (ltb 1 flag) 14 0) e).0 ∙ flipped_row Q P flag

pub row_carried : (caller : Caller) (n : ℕ) (Q : Pauli) (t : Step Float) → step_row caller n t ≡ 0 → step_row caller n (carried_step Q t) ≡ 0
unfolding step_row rotation_step_row projection_step_row carried_step
row_carried caller n Q (rotation P sign c s) e = reflagged _ sign Q P e
row_carried caller n Q (promotion c q) e = e
row_carried caller n Q (projection M p v invnorm) e = reflagged _ v Q M e
row_carried caller n Q (correction P) e = e
row_carried caller n Q (quarter_turn P) e = e
