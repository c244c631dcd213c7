use Rattle.verdicts.specs.Verdict.{seen_as}
use Rattle.run_exports.proofs.emulated.naribhush_run_emulated.Goals as goal

pub returns : goal.returns
returns c = (seen_as c.from.ensures c.run_contiguous.ensures.0, c.run_contiguous.ensures.1)
