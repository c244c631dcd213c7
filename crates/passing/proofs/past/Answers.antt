use Rattle.std.proofs.Common.{sym}
use Rattle.answers.specs.Row.{answered_none}
use Rattle.activepauli.specs.Active.{active_of}
use Rattle.framelaws.specs.PassRow.{pass_row, past_call}
use Rattle.framelaws.proofs.Suited.{passed_suited}
use Rattle.refusals.proofs.Asked.{asked}
use Rattle.steps.specs.Meaning.{step_of}
use Rattle.passing.specs.Meaning.{passage_of}
use Rattle.passing.proofs.past.Goals as goal

pub returns-in_err-pass_row : goal.returns-in_err-pass_row
unfolding past_call
returns-in_err-pass_row c =
    asked _ _ (pass_row (active_of c.args.pauli) (step_of c.args.step)) passage_of _ c.from_residual.ensures.1 c.in_err-pass_row.ensures

pub carried_step-requires : goal.carried_step-requires
carried_step-requires c = passed_suited _ _ (sym c.in_ok-pass_row.ensures)

pub passed-requires : goal.passed-requires
passed-requires c = passed_suited _ _ (sym c.in_ok-pass_row.ensures)

pub returns : goal.returns
unfolding past_call
returns c =
    rw (c.carried_step.ensures, c.passed.ensures) (sym (answered_none _ _ (sym c.in_ok-pass_row.ensures)))
