-- A step that is no correction fires no Pauli.
use Rattle.std.proofs.Common.{◌≡◌, refl}
use mathlib.Core.Option.{none}
use Rattle.framelaws.specs.Folding.{fires}
use Rattle.steps.specs.declared.Step as declared
use Rattle.steps.specs.declared.Step.TheVariants as step
use Rattle.steps.specs.Meaning.{step_of}

pub stays : (t : declared.Step) → ((P : _) → t ≡ step.Correction P → ⊥) → fires (step_of t) ≡ none
unfolding fires
stays (step.Rotation P sign c s) k = refl
stays (step.Promotion c q) k = refl
stays (step.Projection M p v invnorm) k = refl
stays (step.Correction P) k = absurd (k P refl)
stays (step.QuarterTurn P) k = refl
