use Rattle.verdicts.proofs.Seen.{row_seen}
use Rattle.kernel_exports.proofs.naribhush_active_is_hermitian.Goals as goal

pub returns : goal.returns
returns c = row_seen c.from.ensures c.is_hermitian.ensures
