use Rattle.std.proofs.Common.{ap, ◌∙◌}
use Rattle.verdicts.specs.Verdict.{verdict_of}
use Rattle.kernel_exports.proofs.naribhush_correct.Goals as goal

pub returns : goal.returns
returns c = (c.from.ensures ∙ ap verdict_of c.correct_contiguous_active.ensures.0, c.correct_contiguous_active.ensures.1)
