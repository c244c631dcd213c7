use Rattle.verdicts.proofs.Seen.{row_seen}
use Rattle.run_exports.proofs.naribhush_listing.Goals as goal

pub returns : goal.returns
returns c = (row_seen c.from.ensures c.list_run.ensures.told, c.list_run.ensures.buffer)
