use Rattle.verdicts.proofs.Seen.{refusal_seen}
use Rattle.run_exports.proofs.emulated.naribhush_judge_emulated.Goals as goal

pub returns : goal.returns
returns c = refusal_seen c.from.ensures c.judge_log.ensures
