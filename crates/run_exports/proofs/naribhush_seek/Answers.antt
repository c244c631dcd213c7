use Rattle.verdicts.proofs.Seen.{refusal_seen}
use Rattle.run_exports.proofs.naribhush_seek.Goals as goal

pub returns : goal.returns
returns c = refusal_seen c.from.ensures c.seek_start.ensures
