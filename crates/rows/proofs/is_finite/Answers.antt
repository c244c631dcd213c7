-- what the library calls finite the laws do
use mathlib.Core.Path.{◌≡◌, refl, ◌∙◌}
use lib.Ieee.{Float, nan, inf, fin}
use lib.Ieee.Scale.{finite}
use Rattle.std.specs.Float.{float_is_finite}
use Rattle.rows.proofs.is_finite.Goals as goal

same_word : (x : Float) → float_is_finite x ≡ finite x
unfolding float_is_finite
same_word nan = refl
same_word (inf s) = refl
same_word (fin s m e) = refl

pub returns : goal.returns
returns c = c.is_finite.ensures.value ∙ same_word c.args.value
