-- Products: a zero or a one among the factors, and the same for the same.
use Rattle.std.specs.Prelude.{◌≡◌, refl, Bool, true, false, zero, suc, ◌*◌, ℤ, pos, T, Float}
use Rattle.std.proofs.Common.{zero-mul, one-mul, mul-pos}
use Rattle.std.specs.Float.{nan, inf, fin, Format}
use Rattle.std.specs.Float.Ieee.{up, down, unlike, mul}
use Rattle.std.specs.Float.Ieee.Fits.{down_pos}
use Rattle.std.specs.Float.Ieee.Scale.{finite}
use Rattle.floatlaws.specs.Same.{plain, Same, same, is_zero, by_zero, same_zeros, same_both}
use Rattle.floatlaws.specs.Sign.{mul_comm_float}
use Rattle.floatlaws.specs.Round.{again}
use Rattle.floatlaws.proofs.Round.{round_none}

mul_zero_fin : (f : Format) (s : Bool) (e : ℤ) (y : Float) → T (finite y) → T (is_zero (mul f (fin s 0 e) y))
unfolding mul
mul_zero_fin f s e nan h = absurd h
mul_zero_fin f s e (inf t) h = absurd h
mul_zero_fin f s e (fin t n d) h =
    round_none f (unlike s t) (0 * up e * (n * up d)) (down e * down d) (mul-pos (down_pos e) (down_pos d)) (simp zero-mul)

-- a zero times a finite float; times an infinity it is no number
pub mul_zero_left : (f : Format) (x y : Float) → T (is_zero x) → T (finite y) → T (is_zero (mul f x y))
mul_zero_left f x y h k = by_zero (λ z. T (is_zero (mul f z y))) (λ s e. mul_zero_fin f s e y k) x h

-- a product depends on no more of a factor than `plain` leaves
mul_plain : (f : Format) (x y : Float) → Same (mul f x y) (mul f (plain x) y)
unfolding mul
mul_plain f nan y = same
mul_plain f (inf s) y = same
mul_plain f (fin s zero e) nan = same
mul_plain f (fin s zero e) (inf t) = same
mul_plain f (fin s zero e) (fin t n d) = same_zeros (mul_zero_fin f s e (fin t n d) tt) (mul_zero_fin f false (pos 0) (fin t n d) tt)
mul_plain f (fin s (suc m) e) y = same

pub same_mul : (f : Format) {x x' y y' : Float} → Same x x' → Same y y' → Same (mul f x y) (mul f x' y')
same_mul f h k = same_both (mul f) (mul_comm_float f) (mul_plain f) h k

-- times one
pub mul_one_left : (f : Format) (y : Float) → mul f (fin false 1 (pos 0)) y ≡ again f y
unfolding mul
mul_one_left f nan = refl
mul_one_left f (inf true) = refl
mul_one_left f (inf false) = refl
mul_one_left f (fin true n d) = rw (one-mul (n * up d), one-mul (down d))
mul_one_left f (fin false n d) = rw (one-mul (n * up d), one-mul (down d))
