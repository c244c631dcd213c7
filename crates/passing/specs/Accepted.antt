-- What the call answers where no row refuses: the step that is left behind, and the Pauli then.
use Rattle.std.specs.Prelude.{◌≡◌, Float, Result, Ok}
use Rattle.std.specs.Result.{IsOk}
use Rattle.std.proofs.Common.{ap, ◌∙◌}
use Rattle.answers.specs.Answer.Answer.{accepted}
use Rattle.answers.specs.Row.{answered_none}
use Rattle.paulilaws.specs.Pauli.{Pauli}
use Rattle.activepauli.specs.Active.{active_of}
use Rattle.amplitudelaws.specs.Step as amplitudes
use Rattle.framelaws.specs.Carrying.{carried_step, passed}
use Rattle.framelaws.specs.PassRow as frame
use Rattle.framelaws.specs.PassRow.{pass_row, past_call}
use Rattle.refusals.specs.declared.Row.{Row}
use Rattle.refusals.specs.Refusal.{answer_of}
use Rattle.steps.specs.Meaning.{step_of}
use Rattle.passing.specs.Unrefused.{unrefused, value_is}
use Rattle.passing.specs.declared.Passage.{Passage}
use Rattle.passing.specs.Meaning.{passage_of}

module _ (Q : Pauli) (t : amplitudes.Step Float) (none : pass_row Q t ≡ 0) (r : Result Passage Row) (answers : answer_of passage_of r ≡ past_call Q t) where
  accepts : answer_of passage_of r ≡ accepted (record { step = carried_step Q t; pauli = passed Q t })
  unfolding past_call
  accepts = answers ∙ answered_none (pass_row Q t) _ none

  pub past_unrefused : IsOk r
  past_unrefused = unrefused passage_of r accepts

  pub past_is : (p : Passage) → r ≡ Ok p → (step_of p.step ≡ carried_step Q t) × (active_of p.pauli ≡ passed Q t)
  past_is p is =
      let same = value_is passage_of r accepts p is in
      (ap (λ (b : frame.Passage Float). b.step) same, ap (λ (b : frame.Passage Float). b.pauli) same)
