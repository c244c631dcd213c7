use Rattle.std.proofs.Common.{ap, ◌∙◌}
use Rattle.verdicts.specs.Verdict.{verdict_of}
use Rattle.kernel_exports.proofs.naribhush_project.Goals as goal

pub returns : goal.returns
returns c = (c.from.ensures ∙ ap verdict_of c.project.ensures.0, c.project.ensures.1)
