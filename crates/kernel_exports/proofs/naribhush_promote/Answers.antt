use Rattle.std.proofs.Common.{ap, ◌∙◌}
use Rattle.verdicts.specs.Verdict.{verdict_of}
use Rattle.kernel_exports.proofs.naribhush_promote.Goals as goal

pub returns : goal.returns
returns c = (c.from.ensures ∙ ap verdict_of c.promote_contiguous_active.ensures.0, c.promote_contiguous_active.ensures.1)
