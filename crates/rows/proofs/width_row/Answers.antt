use Rattle.amplitudelaws.specs.Rows.{width_row}
use Rattle.activepauli.specs.Rows.{pauli_row}
use Rattle.rows.proofs.Behind.{asked_row, behind_row}
use Rattle.rows.proofs.width_row.Goals as goal

pub returns-in_err-pauli_row : goal.returns-in_err-pauli_row
unfolding width_row pauli_row
returns-in_err-pauli_row c = asked_row _ 2 _ _ _ c.from_residual.ensures.1 c.in_err-pauli_row.ensures

pub returns : goal.returns
unfolding width_row pauli_row
returns c = behind_row _ 2 _ c.in_ok-pauli_row.ensures c.refuse_if.ensures
