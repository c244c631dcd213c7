use Rattle.activepauli.specs.Active.{active_of}
use Rattle.verdicts.proofs.Seen.{meant}
use Rattle.active_seen.proofs.SeenActivePauliFromResultActivePauli.from.Goals as goal

pub returns : goal.returns
returns g c = rw (← c.identity_on_none.ensures) (meant c.verdict_and_value.ensures active_of)
