use Rattle.verdicts.specs.Verdict.{seen_as}
use Rattle.run_exports.proofs.naribhush_check_run.Goals as goal

pub returns : goal.returns
returns c = rw (← c.limits.ensures) (seen_as c.from.ensures c.check_run.ensures)
