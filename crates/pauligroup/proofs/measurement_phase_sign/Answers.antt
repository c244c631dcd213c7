use Rattle.std.proofs.Common.{rules}
use Rattle.answers.specs.Answer.{refuse}
use Rattle.paulilaws.specs.Pauli.{hermitian}
use Rattle.paulilaws.proofs.Algebra.{sign_test}
use Rattle.paulis.specs.Calls.{on_pauli}
use Rattle.pauligroup.specs.Calls.{coefficient_call, sign_call}
use Rattle.pauligroup.proofs.measurement_phase_sign.Goals as goal

pub returns-in_err-coefficient : goal.returns-in_err-coefficient
unfolding sign_call coefficient_call on_pauli refuse hermitian
returns-in_err-coefficient c = search (rules, sign_test)

pub returns-then-coefficient-ne0 : goal.returns-then-coefficient-ne0
unfolding sign_call coefficient_call on_pauli refuse hermitian
returns-then-coefficient-ne0 c = search (rules, sign_test)

pub returns : goal.returns
unfolding sign_call coefficient_call on_pauli refuse hermitian
returns c = search (rules, sign_test)
