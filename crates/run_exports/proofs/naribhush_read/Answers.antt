use Rattle.std.proofs.Common.{ap, ◌∙◌}
use Rattle.run_exports.specs.Reading.{read_seen}
use Rattle.run_exports.proofs.naribhush_read.Goals as goal

pub returns : goal.returns
returns c = c.from.ensures ∙ ap read_seen c.read.ensures
