use Rattle.verdicts.specs.Verdict.{seen_as}
use Rattle.run_exports.proofs.naribhush_fold.Goals as goal

pub returns : goal.returns
returns c = (seen_as c.from.ensures c.fold_run.ensures.0, c.fold_run.ensures.1)
