-- What is equal to 0 is a zero, of either sign, and nothing else is.
use Rattle.std.specs.Prelude.{◌≡◌, refl, true, false, zero, suc, ◌*◌, ◌<◌, pos, Float}
use Rattle.std.proofs.Common.{zero-mul, mul-pos, arith, ne_eqb}
use Rattle.std.specs.Float.{nan, inf, fin}
use Rattle.std.specs.Float.Ieee.{up, down, eq}
use Rattle.std.specs.Float.Ieee.Fits.{up_pos}
use Rattle.floatlaws.specs.Same.{is_zero}

pub equals_zero : (x : Float) → eq x (fin false 0 (pos 0)) ≡ is_zero x
unfolding eq
equals_zero nan = refl
equals_zero (inf s) = refl
equals_zero (fin true zero e) = rw (zero-mul (up e), zero-mul (down e))
equals_zero (fin false zero e) = rw (zero-mul (up e), zero-mul (down e))
equals_zero (fin s (suc m) e) =
    let some : 0 < suc m * up e = mul-pos (omega arith) (up_pos e) in
    rw (zero-mul (down e), ne_eqb (suc m * up e * 1) 0 (λ z. omega (arith, some, z)))
