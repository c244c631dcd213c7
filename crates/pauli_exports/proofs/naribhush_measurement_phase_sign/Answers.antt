use Rattle.verdicts.proofs.Seen.{row_seen}
use Rattle.pauli_exports.proofs.naribhush_measurement_phase_sign.Goals as goal

pub returns : goal.returns
returns c = row_seen c.from.ensures c.measurement_phase_sign.ensures
