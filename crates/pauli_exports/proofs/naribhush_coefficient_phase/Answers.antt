use Rattle.verdicts.proofs.Seen.{row_seen}
use Rattle.pauli_exports.proofs.naribhush_coefficient_phase.Goals as goal

pub returns : goal.returns
returns c = row_seen c.from.ensures c.coefficient_phase.ensures
