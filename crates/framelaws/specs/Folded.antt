-- Folding gives the state of all steps: the steps that are left, and then the end Pauli, from any start state.
use Rattle.std.specs.Prelude.{◌≡◌, refl}
use mathlib.Core.List.{List, ◌∷◌}
use Rattle.std.proofs.Math.Option.{none}
use Rattle.paulilaws.specs.Pauli.{Pauli}
use Rattle.amplitudelaws.specs.Step.{Step}
use Rattle.amplitudelaws.specs.Step.Step.{rotation, promotion, projection, correction, quarter_turn}
use Rattle.framelaws.specs.Carrying.{carried_step, passed}
use Rattle.framelaws.specs.Folding.{fires, left_of, folded_by, folded_past, folded_steps}

-- a step is a correction, or fires none
pub data Firing {R : Type 0} : Step R → Type 0 where
  firing : (P : Pauli) → Firing (correction P)
  keeping : {t : Step R} → fires t ≡ none → Firing t

module _ {R : Type 0} (Q : Pauli) (t : Step R) (stays : fires t ≡ none) where
  -- past a step that is no correction it is carrying
  pub kept_past : folded_past Q t ≡ passed Q t
  unfolding folded_past folded_by
  kept_past = rw stays

  pub kept_steps : (ts : List (Step R)) → folded_steps Q (t ∷ ts) ≡ carried_step Q t ∷ folded_steps (passed Q t) ts
  unfolding folded_steps left_of
  kept_steps ts = rw (stays, kept_past)

pub firing_of : {R : Type 0} (t : Step R) → Firing t
unfolding fires
firing_of (rotation P sign c s) = keeping refl
firing_of (promotion c q) = keeping refl
firing_of (projection M p v invnorm) = keeping refl
firing_of (correction P) = firing P
firing_of (quarter_turn P) = keeping refl
