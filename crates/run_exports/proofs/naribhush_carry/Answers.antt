use Rattle.verdicts.proofs.Seen.{refusal_seen}
use Rattle.run_exports.proofs.naribhush_carry.Goals as goal

pub returns : goal.returns
returns c = (refusal_seen c.from.ensures c.carry_run.ensures.0, c.carry_run.ensures.1)
