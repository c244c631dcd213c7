use Rattle.std.proofs.Common.{ap, ◌∙◌}
use Rattle.run_exports.specs.Reading.{pauli_seen}
use Rattle.run_exports.proofs.seen.bare.Goals as goal

pub returns : goal.returns
returns c = c.of_pauli.ensures ∙ ap (pauli_seen c.args.tag) c.identity_on_none.ensures
