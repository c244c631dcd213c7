use Rattle.std.specs.Prelude.{refl}
use Rattle.folder.specs.Meaning.{folded_of}
use Rattle.verdicts.proofs.Seen.{meant, refusal_seen}
use Rattle.run_exports.proofs.seen.SeenFoldingFromResultFoldedRefusal.from.Goals as goal

pub returns : goal.returns
returns c = rw (← c.identity_on_none.ensures) (refusal_seen (meant c.verdict_and_value.ensures folded_of) refl)
