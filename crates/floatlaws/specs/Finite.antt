-- Finiteness goes through a negation both ways, and to what is the same number.
use Rattle.std.specs.Prelude.{◌≡◌, refl, zero, suc, T, Float}
use Rattle.std.proofs.Common.{sym, ap, ◌∙◌, subst}
use Rattle.std.specs.Float.{nan, inf, fin}
use Rattle.std.specs.Float.Ieee.{neg}
use Rattle.std.specs.Float.Ieee.Scale.{finite}
use Rattle.floatlaws.specs.Same.{Same, plain}

pub finite_neg : (x : Float) → finite (neg x) ≡ finite x
unfolding neg
finite_neg nan = refl
finite_neg (inf s) = refl
finite_neg (fin s m e) = refl

finite_plain : (x : Float) → finite (plain x) ≡ finite x
finite_plain nan = refl
finite_plain (inf s) = refl
finite_plain (fin s zero e) = refl
finite_plain (fin s (suc m) e) = refl

-- what is the same as a finite float is finite
pub finite_same : {x y : Float} → Same x y → T (finite x) → T (finite y)
finite_same {x} {y} h = subst T (sym (finite_plain x) ∙ ap finite h.plainly ∙ finite_plain y)
