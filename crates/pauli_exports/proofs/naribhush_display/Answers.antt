use Rattle.verdicts.proofs.Seen.{row_seen}
use Rattle.pauli_exports.proofs.naribhush_display.Goals as goal

pub returns : goal.returns
returns c = (row_seen c.from.ensures c.display.ensures.told, c.display.ensures.buffer)
