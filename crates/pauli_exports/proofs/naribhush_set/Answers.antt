use Rattle.verdicts.proofs.Seen.{row_seen}
use Rattle.pauli_exports.proofs.naribhush_set.Goals as goal

pub returns : goal.returns
returns c = row_seen c.from.ensures c.set.ensures
