use Rattle.verdicts.proofs.Seen.{refusal_seen}
use Rattle.pauli_exports.proofs.naribhush_pauli_string.Goals as goal

pub returns : goal.returns
returns c = refusal_seen c.from.ensures c.pauli_string.ensures
