use Rattle.std.proofs.Common.{sym, ◌∙◌}
use Rattle.activepauli.specs.Active.{active_of}
use Rattle.answers.specs.Row.{first_none}
use Rattle.framelaws.specs.PassRow.{placed_row}
use Rattle.refusals.proofs.Asked.{asked_first}
use Rattle.runlaws.specs.Calls.{carrying_row}
use Rattle.carrier.proofs.carrying_row.Goals as goal

pub returns-in_err-placed_row : goal.returns-in_err-placed_row
unfolding carrying_row
returns-in_err-placed_row c =
    asked_first _ _ (placed_row (active_of c.args.pauli) c.args.width) _ c.from_residual.ensures.1 c.in_err-placed_row.ensures

pub returns : goal.returns
unfolding carrying_row
returns c = c.refuse_if.ensures ∙ sym (first_none (placed_row (active_of c.args.pauli) c.args.width) _ (sym c.in_ok-placed_row.ensures))
