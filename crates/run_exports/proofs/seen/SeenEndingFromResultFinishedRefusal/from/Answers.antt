use Rattle.std.specs.Prelude.{refl}
use Rattle.runner.specs.Meaning.{finished_of}
use Rattle.verdicts.proofs.Seen.{meant, refusal_seen}
use Rattle.run_exports.proofs.seen.SeenEndingFromResultFinishedRefusal.from.Goals as goal

pub returns : goal.returns
returns c = refusal_seen (meant c.verdict_and_value.ensures finished_of) refl
