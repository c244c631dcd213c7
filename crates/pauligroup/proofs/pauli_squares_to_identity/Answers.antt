use Rattle.std.proofs.Common.{rules}
use Rattle.answers.specs.Answer.{refuse}
use Rattle.paulilaws.specs.Pauli.{hermitian}
use Rattle.paulis.specs.Calls.{on_pauli}
use Rattle.pauligroup.specs.Calls.{coefficient_call, squares_call}
use Rattle.pauligroup.proofs.pauli_squares_to_identity.Goals as goal

pub returns-in_err-coefficient_phase : goal.returns-in_err-coefficient_phase
unfolding squares_call coefficient_call on_pauli refuse hermitian
returns-in_err-coefficient_phase c = search rules

pub returns : goal.returns
unfolding squares_call coefficient_call on_pauli refuse hermitian
returns c = search rules
