use mathlib.Core.Path.{refl}
use Rattle.bitlaws.specs.Words.{words}
use Rattle.masks.specs.Mask.{mask}
use Rattle.pauli_exports.proofs.seen.identity_on_none.Goals as goal

pub returns : goal.returns
unfolding mask words
returns c = refl
