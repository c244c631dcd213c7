use Rattle.std.specs.Prelude.{not}
use Rattle.std.proofs.Common.{sym, ap, ◌∙◌}
use Rattle.answers.specs.Row.{answered_none}
use Rattle.activepauli.specs.Active.{active_of}
use Rattle.framelaws.specs.PassRow.{past_call}
use Rattle.passing.specs.Meaning.{passage_of}
use Rattle.refusals.proofs.Asked.{asked, refused_by, number_some}
use Rattle.verdicts.specs.Flag.{behind}
use Rattle.run_exports.specs.Past.{is_step_tag, given_of, given_call}
use Rattle.run_exports.proofs.Bits.{by_tag, given_told}
use Rattle.run_exports.proofs.given.past.Goals as goal

pub returns-in_err-refuse_if : goal.returns-in_err-refuse_if
unfolding given_call
returns-in_err-refuse_if c =
    let step = c.from_residual in
    let e = c.in_err-refuse_if in
    refused_by passage_of step.result _ step.ensures.1
    ∙ by_tag _ (not (is_step_tag c.args.given.tag)) _ (number_some _) (rw c.is_step.ensures at e.ensures)

pub returns-in_err-passage : goal.returns-in_err-passage
unfolding behind
returns-in_err-passage c =
    let step = c.from_residual-in_err-passage in
    refused_by passage_of step.result _ step.ensures.1
    ∙ given_told (active_of c.args.pauli) (given_of c.args.given) _ (rw c.is_step.ensures at c.in_ok-refuse_if.ensures)
    (c.in_err-passage.ensures ∙ ap (past_call (active_of c.args.pauli)) c.from.ensures)

pub returns-in_err-bit_row : goal.returns-in_err-bit_row
unfolding behind
returns-in_err-bit_row c =
    let step = c.from_residual-in_err-bit_row in
    asked step.result _ _ passage_of _ step.ensures.1 c.in_err-bit_row.ensures
    ∙ given_told (active_of c.args.pauli) (given_of c.args.given) _ (rw c.is_step.ensures at c.in_ok-refuse_if.ensures)
    (c.in_ok-passage.ensures ∙ ap (past_call (active_of c.args.pauli)) c.from.ensures)

pub returns : goal.returns
unfolding behind
returns c =
    sym (answered_none _ _ (sym c.in_ok-bit_row.ensures))
    ∙ given_told (active_of c.args.pauli) (given_of c.args.given) _ (rw c.is_step.ensures at c.in_ok-refuse_if.ensures)
    (c.in_ok-passage.ensures ∙ ap (past_call (active_of c.args.pauli)) c.from.ensures)
