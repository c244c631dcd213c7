use Rattle.verdicts.proofs.Seen.{row_seen}
use Rattle.run_exports.proofs.naribhush_list_steps.Goals as goal

pub returns : goal.returns
returns c = (row_seen c.from.ensures c.list_steps.ensures.told, c.list_steps.ensures.buffer)
