use Rattle.std.proofs.Common.{sym, ◌∙◌}
use Rattle.answers.specs.Row.{first_none}
use Rattle.refusals.proofs.Asked.{asked_first}
use Rattle.framelog.proofs.log_row.Goals as goal

pub returns-in_err-placed_row : goal.returns-in_err-placed_row
returns-in_err-placed_row c = asked_first _ _ _ _ c.from_residual.ensures.1 c.in_err-placed_row.ensures

pub returns : goal.returns
returns c = c.refuse_if.ensures ∙ sym (first_none _ _ (sym c.in_ok-placed_row.ensures))
