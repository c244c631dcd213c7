use Rattle.std.proofs.Common.{sym, ◌∙◌}
use Rattle.answers.specs.Row.{first_none}
use Rattle.refusals.proofs.Asked.{asked_first}
use Rattle.activepauli.specs.Active.{active_of}
use Rattle.framelaws.specs.PassRow.{pass_row, pair_row}
use Rattle.passing.proofs.row.pass_row.Goals as goal

pub returns-in_err-pair_row-in-Projection : goal.returns-in_err-pair_row-in-Projection
unfolding pass_row
returns-in_err-pair_row-in-Projection c =
    rw c.in-Projection.is
    (asked_first _ _ (pair_row (active_of c.args.pauli) (active_of c.in-Projection.measured)) _ c.from_residual.ensures.1 c.in_err-pair_row-in-Projection.ensures)

pub returns-in_ok-pair_row-in-Projection : goal.returns-in_ok-pair_row-in-Projection
unfolding pass_row
returns-in_ok-pair_row-in-Projection c =
    rw c.in-Projection.is
    (c.refuse_if.ensures ∙ sym (first_none (pair_row (active_of c.args.pauli) (active_of c.in-Projection.measured)) _ (sym c.in_ok-pair_row-in-Projection.ensures)))
