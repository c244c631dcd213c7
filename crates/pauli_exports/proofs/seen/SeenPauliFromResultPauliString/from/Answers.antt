use Rattle.paulis.specs.Strings.{pauli_of}
use Rattle.verdicts.proofs.Seen.{meant}
use Rattle.pauli_exports.proofs.seen.SeenPauliFromResultPauliString.from.Goals as goal

pub returns : goal.returns
returns g c = rw (← c.identity_on_none.ensures) (meant c.verdict_and_value.ensures pauli_of)
