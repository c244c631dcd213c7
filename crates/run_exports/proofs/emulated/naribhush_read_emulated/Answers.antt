use Rattle.std.proofs.Common.{ap, ◌∙◌}
use Rattle.run_exports.specs.Reading.{read_seen}
use Rattle.run_exports.proofs.emulated.naribhush_read_emulated.Goals as goal

pub returns : goal.returns
returns c = c.from.ensures ∙ ap read_seen c.read.ensures
