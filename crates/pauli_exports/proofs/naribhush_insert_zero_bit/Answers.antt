use Rattle.verdicts.proofs.Seen.{row_seen}
use Rattle.pauli_exports.proofs.naribhush_insert_zero_bit.Goals as goal

pub returns : goal.returns
returns c = row_seen c.from.ensures c.insert_zero_bit.ensures
