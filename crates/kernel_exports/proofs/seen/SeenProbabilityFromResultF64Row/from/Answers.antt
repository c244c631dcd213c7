use Rattle.std.specs.Prelude.{refl}
use Rattle.verdicts.proofs.Seen.{row_seen}
use Rattle.kernel_exports.proofs.seen.SeenProbabilityFromResultF64Row.from.Goals as goal

pub returns : goal.returns
returns c = row_seen c.verdict_and_value-probability.ensures refl
