-- Zero rounds to zero, and a float rounded again: what is left of it where a zero is added, or where it is multiplied by one.
use Rattle.std.specs.Prelude.{◌≡◌, refl, Bool, pos, Float}
use Rattle.std.proofs.Common.{◌∙◌, zero-mul, mul-one, lt_irrefl}
use Prim.Native.Nat.compare
use Prim.Native.Nat.{Ordering}
use Prim.Native.Nat.{ℕ, zero, suc, ◌*◌, ◌^◌, ◌<◌, compare}
use Rattle.std.proofs.Math.Nat.{zero-div, zero-mod, zero-sub}
use Rattle.std.specs.Float.{nan, inf, fin, Format, binary32, binary64}
use Rattle.std.specs.Float.Ieee.{prec, low, up, down, size, units, round}
use Rattle.std.specs.Float.Ieee.Fits.{round_is}

-- a float rounded to the format f; what is not finite stays
abbrev pub again : Format → Float → Float
again f nan = nan
again f (inf s) = inf s
again f (fin s m e) = round f s (m * up e) (down e)

units_zero : (f : Format) (s : Bool) → units f s 0 0 ≡ fin s 0 (pos 0)
unfolding units
units_zero binary32 s = refl
units_zero binary64 s = refl

size_zero : size 0 ≡ 0
unfolding size
size_zero = refl

above_zero : (u : ℕ) → 0 < u → compare 0 u ≡ Ordering.lt
above_zero zero h = absurd (lt_irrefl 0 h)
above_zero (suc u) h = compare.zero-suc u

pub round_zero : (f : Format) (s : Bool) (c : ℕ) → 0 < c → round f s 0 c ≡ fin s 0 (pos 0)
round_zero f s c h =
    round_is f s 0 c
    ∙ rw (zero-mul (2 ^ low f), zero-div c, size_zero, zero-sub (prec f), mul-one c, zero-div c, zero-mod c, above_zero c h) (units_zero f s)
