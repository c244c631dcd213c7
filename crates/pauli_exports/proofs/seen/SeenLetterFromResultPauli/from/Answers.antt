use Rattle.paulis.specs.Strings.{pauli_letter_of}
use Rattle.verdicts.proofs.Seen.{meant}
use Rattle.pauli_exports.proofs.seen.SeenLetterFromResultPauli.from.Goals as goal

pub returns : goal.returns
returns g c = rw c.parts-x.ensures (meant c.verdict_and_value-letter.ensures pauli_letter_of)
