use Rattle.verdicts.proofs.Seen.{row_seen}
use Rattle.pauli_exports.proofs.naribhush_pauli_squares_to_identity.Goals as goal

pub returns : goal.returns
returns c = row_seen c.from.ensures c.pauli_squares_to_identity.ensures
