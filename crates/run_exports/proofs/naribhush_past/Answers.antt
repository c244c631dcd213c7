use Rattle.std.proofs.Common.{ap, ◌∙◌}
use Rattle.run_exports.specs.Past.{past_seen}
use Rattle.run_exports.proofs.naribhush_past.Goals as goal

pub returns : goal.returns
returns c = c.from.ensures ∙ ap past_seen c.past.ensures
