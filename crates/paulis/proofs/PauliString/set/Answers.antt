use Rattle.std.proofs.Common.{rules}
use Rattle.answers.specs.Answer.{refuse}
use Rattle.answers.specs.Row.{row}
use Rattle.std.proofs.Common.{sym, arith}
use Rattle.paulis.specs.Rows.{qubit_passed}
use Rattle.paulis.specs.Strings.{pauli_of}
use Rattle.paulis.specs.Calls.{on_pauli, on_qubit, qubit_row, set_call}
use Rattle.paulis.proofs.PauliString.set.Goals as goal

pub returns-in_err-has_qubit : goal.returns-in_err-has_qubit
unfolding set_call on_qubit on_pauli qubit_row refuse row
returns-in_err-has_qubit c = search rules

pub returns : goal.returns
unfolding set_call on_qubit on_pauli qubit_row refuse row
returns c = search rules

pub with-requires : goal.with-requires
with-requires c =
    let passed = qubit_passed (pauli_of c.args.self) c.args.q (sym c.in_ok-has_qubit.ensures) in
    (omega (arith, passed.0.width), passed.0.fitting.phase)
