-- nothing else is a NaN
use mathlib.Core.Path.{◌≡◌, refl, sym, ap, ◌∙◌, subst, subst⁻¹}
use mathlib.Core.Bool.{Bool, true, not}
use Prim.Native.Nat.{ℕ}
use lib.Dec.{T}
use lib.Ieee.{Float, nan, inf, fin, binary64, of_bits, nan_bits, is_nan}
use lib.Ieee.Bits.{nan_bits_is}
use Rattle.runlaws.specs.Bytes.{float_at}
use Rattle.reader.proofs.bodies.float.Goals as goal

nan_only : (x : Float) → is_nan x ≡ true → nan ≡ x
unfolding is_nan
nan_only nan e = refl
nan_only (inf s) e = absurd (subst T (sym e) tt)
nan_only (fin s m x) e = absurd (subst T (sym e) tt)

pub returns-then-exponent-digits : goal.returns-then-exponent-digits
unfolding float_at nan_bits
returns-then-exponent-digits c =
    let e = c.eight-bits.ensures in
    (refl, nan_only _ (sym (nan_bits_is binary64 _) ∙ subst (λ (n : ℕ). nan_bits binary64 n ≡ true) e c.if-exponent-digits.true))

pub float_from_bits-result : goal.float_from_bits-result
unfolding nan_bits
float_from_bits-result c = subst⁻¹ (λ (t : Bool). T (not t)) c.if-exponent-digits.false tt

pub returns : goal.returns
unfolding float_at
returns c = ap (of_bits binary64) c.eight-bits.ensures
