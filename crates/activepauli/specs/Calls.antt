-- What the calls answer that the first layer does not have.
use Rattle.std.specs.Prelude.{ℕ}
use Rattle.answers.specs.Answer.{Answer}
use Rattle.answers.specs.Answer.Answer.{accepted}
use Rattle.paulilaws.specs.Pauli.{Pauli}
use Rattle.paulilaws.specs.Frame.{raised, dropped}
use Rattle.paulis.specs.Calls.{on_pauli, on_qubit}

unfoldable pub raised_call : Pauli → ℕ → Answer Pauli
unfolding on_pauli
raised_call P e = on_pauli P (accepted (raised e P))

unfoldable pub dropped_call : Pauli → ℕ → Answer Pauli
unfolding on_qubit
dropped_call P q = on_qubit P q (accepted (dropped q P))
