use Rattle.verdicts.proofs.Seen.{refusal_seen}
use Rattle.run_exports.proofs.emulated.naribhush_log_emulated.Goals as goal

pub returns : goal.returns
returns c = (refusal_seen c.from.ensures c.log_run.ensures.0, c.log_run.ensures.1)
