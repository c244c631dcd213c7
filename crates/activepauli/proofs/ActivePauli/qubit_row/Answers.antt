use mathlib.Core.Path.{sym, ◌∙◌}
use Rattle.answers.specs.Row.{first_none}
use Rattle.refusals.proofs.Asked.{asked_first}
use Rattle.activepauli.specs.Active.{active_of}
use Rattle.activepauli.specs.Rows.{pauli_row, qubit_row}
use Rattle.activepauli.proofs.ActivePauli.qubit_row.Goals as goal

pub returns-in_err-pauli_row : goal.returns-in_err-pauli_row
unfolding qubit_row
returns-in_err-pauli_row c = asked_first _ _ (pauli_row (active_of c.args.self)) _ c.from_residual.ensures.1 c.in_err-pauli_row.ensures

pub returns : goal.returns
unfolding qubit_row
returns c = c.refuse_if.ensures ∙ sym (first_none (pauli_row (active_of c.args.self)) _ (sym c.in_ok-pauli_row.ensures))
