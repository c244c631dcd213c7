use Rattle.amplitudelaws.specs.Rows.{measurement_row}
use Rattle.refusals.proofs.Asked.{asked_first}
use Rattle.rows.proofs.Behind.{behind}
use Rattle.rows.proofs.measurement_row.Goals as goal

pub returns-in_err-hermitian_row : goal.returns-in_err-hermitian_row
unfolding measurement_row
returns-in_err-hermitian_row c = asked_first _ _ _ _ c.from_residual.ensures.1 c.in_err-hermitian_row.ensures

pub returns-in_err-refuse_if : goal.returns-in_err-refuse_if
unfolding measurement_row
returns-in_err-refuse_if c =
    behind c.in_ok-hermitian_row.ensures (asked_first _ _ _ _ c.from_residual-in_err-refuse_if.ensures.1 c.in_err-refuse_if.ensures)

pub returns : goal.returns
unfolding measurement_row
returns c = behind c.in_ok-hermitian_row.ensures (behind c.in_ok-refuse_if.ensures c.pivot_row.ensures)
