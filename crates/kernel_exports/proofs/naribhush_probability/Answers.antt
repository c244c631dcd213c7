use Rattle.verdicts.specs.Verdict.{seen_as}
use Rattle.kernel_exports.proofs.naribhush_probability.Goals as goal

pub returns : goal.returns
returns c = seen_as c.from.ensures c.probability.ensures
