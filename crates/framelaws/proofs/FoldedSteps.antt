-- What folding leaves of steps: no correction, and all the others; the widths and the room that they need; and steps without a correction as they were.
use Rattle.std.specs.Prelude.{◌≡◌, ℕ, ◌+◌, length}
use Rattle.std.proofs.Math.Path.{refl}
use Rattle.std.proofs.Common.{◌∙◌, arith}
use mathlib.Core.List.{List, [], ◌∷◌}
use Rattle.std.proofs.Math.Nat.{le_refl, le-max_right}
use Rattle.paulilaws.specs.Pauli.{Pauli}
use Rattle.amplitudelaws.specs.Step.{Step, width_after}
use Rattle.amplitudelaws.specs.Step.Step.{correction}
use Rattle.framelaws.specs.Carried.{flagless_carried, surveyed_carried}
use Rattle.framelaws.specs.Carrying.{carried_step, passed}
use Rattle.framelaws.specs.Folded.{kept_past, kept_steps, firing_of, Firing}
use Rattle.framelaws.specs.Folding.{one_fired, fires, left_of, folded_past, folded_steps, corrections, Bare}
use Rattle.framelaws.specs.Folded.Firing.{firing, keeping}
use Rattle.framelaws.specs.Survey.{Survey, mixed_amplitudes, surveyed, survey_from, outset, survey}
use Rattle.framelaws.specs.FoldedSteps.{SameRoom}

module _ {R : Type 0} where
  fires_carried : (Q : Pauli) (t : Step R) → fires (carried_step Q t) ≡ fires t
  unfolding fires
  fires_carried = flagless_carried fires (λ P sign sign' c s. refl) (λ M p v v' invnorm. refl)

  -- ---- no correction is left

  one_bare : (t : Step R) → Firing t → (ts : List (Step R)) (Q : Pauli) → ((Q : Pauli) → Bare (folded_steps Q ts)) → Bare (folded_steps Q (t ∷ ts))
  unfolding folded_steps left_of fires
  one_bare _ (firing P) ts Q rest = rest _
  one_bare t (keeping stays) ts Q rest = rw (kept_steps Q t stays ts) (fires_carried Q t ∙ stays, rest (passed Q t))

  pub folded_bare : (ts : List (Step R)) (Q : Pauli) → Bare (folded_steps Q ts)
  unfolding folded_steps
  folded_bare [] Q = tt
  folded_bare (t ∷ ts) Q = one_bare t (firing_of t) ts Q (folded_bare ts)

  -- ---- and all the others are

  one_counted : (t : Step R) → Firing t → (ts : List (Step R)) (Q : Pauli) → length (folded_steps Q (t ∷ ts)) + one_fired (fires t) ≡ length (folded_steps (folded_past Q t) ts) + 1
  unfolding folded_steps left_of fires one_fired
  one_counted _ (firing P) ts Q = refl
  one_counted t (keeping stays) ts Q = rw (stays, kept_past Q t stays) (omega arith)

  pub folded_count : (ts : List (Step R)) (Q : Pauli) → length (folded_steps Q ts) + corrections ts ≡ length ts
  unfolding folded_steps corrections
  folded_count [] Q = refl
  folded_count (t ∷ ts) Q = omega (arith, one_counted t (firing_of t) ts Q, folded_count ts (folded_past Q t))

-- ---- the widths and the room: the survey but for its number of steps

fired_room : (R : Type 0) (v w : Survey) (P : Pauli) → SameRoom v w → SameRoom v (surveyed {R = R} w (correction P))
unfolding surveyed width_after mixed_amplitudes
fired_room R v w P r = record {
  width = r.width;
  greatest = r.greatest ∙ omega (arith, r.under);
  scratch = r.scratch ∙ omega arith;
  under = le-max_right w.greatest w.width;
}

module _ {R : Type 0} where
  kept_room : (v w : Survey) (t : Step R) → SameRoom v w → SameRoom (surveyed v t) (surveyed w t)
  unfolding surveyed
  kept_room v w t r = record {
    width = rw r.width;
    greatest = rw (r.greatest, r.width);
    scratch = rw (r.scratch, r.width);
    under = le-max_right w.greatest (width_after w.width t);
  }

  -- what is known of the steps behind, whatever the Pauli and the surveys are there
  abbrev Behind : List (Step R) → Type 0
  Behind ts = (Q : Pauli) (v w : Survey) → SameRoom v w → SameRoom (survey_from v (folded_steps Q ts)) (survey_from w ts)

  one_room : (t : Step R) → Firing t → (ts : List (Step R)) → Behind ts → Behind (t ∷ ts)
  unfolding survey_from folded_steps left_of fires
  one_room _ (firing P) ts rest Q v w r = rest _ v _ (fired_room R v w P r)
  one_room t (keeping stays) ts rest Q v w r =
      rw (kept_steps Q t stays ts) (rest (passed Q t) (surveyed v (carried_step Q t)) (surveyed w t) (rw (surveyed_carried v Q t) (kept_room v w t r)))

  from_folded : (ts : List (Step R)) → Behind ts
  unfolding survey_from folded_steps
  from_folded [] Q v w r = r
  from_folded (t ∷ ts) Q v w r = one_room t (firing_of t) ts (from_folded ts) Q v w r

  pub survey_folded : (Q : Pauli) (n : ℕ) (ts : List (Step R)) → SameRoom (survey n (folded_steps Q ts)) (survey n ts)
  unfolding survey
  survey_folded Q n ts = from_folded ts Q (outset n) (outset n) (record { width = refl; greatest = refl; scratch = refl; under = le_refl n })
