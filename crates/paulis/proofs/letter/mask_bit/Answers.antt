use Rattle.std.proofs.Common.{rules}
use Rattle.answers.specs.Answer.{refuse}
use Rattle.answers.specs.Row.{row}
use Rattle.paulis.specs.Calls.{on_pauli, on_qubit, qubit_row, bit_call}
use Rattle.paulis.proofs.letter.mask_bit.Goals as goal

pub returns-in_err-has_qubit : goal.returns-in_err-has_qubit
unfolding bit_call on_qubit on_pauli qubit_row refuse row
returns-in_err-has_qubit c = search rules

pub returns : goal.returns
unfolding bit_call on_qubit on_pauli qubit_row refuse row
returns c = search rules
