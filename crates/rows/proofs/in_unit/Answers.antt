use mathlib.Core.Path.{refl}
use Rattle.amplitudelaws.specs.Binary.{in_unit}
use Rattle.rows.proofs.in_unit.Goals as goal

pub returns : goal.returns
unfolding in_unit
returns c = refl
