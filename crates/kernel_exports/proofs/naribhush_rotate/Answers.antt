use Rattle.std.proofs.Common.{ap, ◌∙◌}
use Rattle.verdicts.specs.Verdict.{verdict_of}
use Rattle.kernel_exports.proofs.naribhush_rotate.Goals as goal

pub returns : goal.returns
returns c = (c.from.ensures ∙ ap verdict_of c.rotate.ensures.0, c.rotate.ensures.1)
