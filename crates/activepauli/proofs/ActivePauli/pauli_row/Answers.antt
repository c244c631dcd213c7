use Rattle.activepauli.specs.Rows.{pauli_row}
use Rattle.activepauli.proofs.ActivePauli.pauli_row.Goals as goal

pub returns : goal.returns
unfolding pauli_row
returns c = rw (← c.is_pauli.ensures) c.refuse_if.ensures
