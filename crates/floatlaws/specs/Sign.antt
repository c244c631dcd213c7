-- Negation: twice, of floats that are the same, and through `round` and a product, where it is an equation.
use Rattle.std.specs.Prelude.{◌≡◌, refl, Bool, true, false, not, cond, ℕ, zero, suc, ◌+◌, ◌*◌, ◌^◌, ltb, Float}
use Rattle.std.proofs.Common.{sym, ap, ◌∙◌, mul_comm}
use Rattle.std.specs.Float.{nan, inf, fin, Format}
use Rattle.std.specs.Float.Ieee.{prec, emax, low, up, down, unlike, odd, units, round, neg, mul}
use Rattle.std.specs.Float.Ieee.Fits.{round_is}
use Rattle.floatlaws.specs.Same.{plain, Same}

pub neg_neg : (x : Float) → neg (neg x) ≡ x
unfolding neg
neg_neg nan = refl
neg_neg (inf true) = refl
neg_neg (inf false) = refl
neg_neg (fin true m e) = refl
neg_neg (fin false m e) = refl

plain_neg : (x : Float) → plain (neg x) ≡ plain (neg (plain x))
unfolding neg
plain_neg nan = refl
plain_neg (inf s) = refl
plain_neg (fin s zero e) = refl
plain_neg (fin s (suc m) e) = refl

pub same_neg : {x y : Float} → Same x y → Same (neg x) (neg y)
same_neg {x} {y} h = record { plainly = plain_neg x ∙ ap (λ (z : Float). plain (neg z)) h.plainly ∙ sym (plain_neg y) }

odd_neg : (d : ℕ) (s : Bool) (q k l : ℕ) → neg (odd d s q k l) ≡ odd d (not s) q k l
unfolding neg odd
odd_neg d s zero k l = refl
odd_neg d s (suc q) k l = refl

units_neg : (f : Format) (s : Bool) (q k : ℕ) → neg (units f s q k) ≡ units f (not s) q k
unfolding neg units
units_neg f s q k = go (ltb (q * 2 ^ k) (2 ^ (low f + suc (emax f))))
  where
    go : (b : Bool) → neg (cond b (odd (suc (prec f)) s q k (low f)) (inf s)) ≡ cond b (odd (suc (prec f)) (not s) q k (low f)) (inf (not s))
    go true = odd_neg (suc (prec f)) s q k (low f)
    go false = refl

-- rounding to nearest does not depend on the sign
pub round_neg : (f : Format) (s : Bool) (n d : ℕ) → neg (round f s n d) ≡ round f (not s) n d
round_neg f s n d = ap neg (round_is f s n d) ∙ units_neg f s _ _ ∙ sym (round_is f (not s) n d)

unlike_not : (s t : Bool) → unlike (not s) t ≡ not (unlike s t)
unlike_not true true = refl
unlike_not true false = refl
unlike_not false true = refl
unlike_not false false = refl

unlike_comm : (s t : Bool) → unlike s t ≡ unlike t s
unlike_comm true true = refl
unlike_comm true false = refl
unlike_comm false true = refl
unlike_comm false false = refl

neg_cond : (b : Bool) (x y : Float) → neg (cond b x y) ≡ cond b (neg x) (neg y)
neg_cond true x y = refl
neg_cond false x y = refl

pub mul_comm_float : (f : Format) (x y : Float) → mul f x y ≡ mul f y x
unfolding mul
mul_comm_float f nan nan = refl
mul_comm_float f nan (inf t) = refl
mul_comm_float f nan (fin t n d) = refl
mul_comm_float f (inf s) nan = refl
mul_comm_float f (inf s) (inf t) = rw (unlike_comm s t)
mul_comm_float f (inf s) (fin t n d) = rw (unlike_comm s t)
mul_comm_float f (fin s m e) nan = refl
mul_comm_float f (fin s m e) (inf t) = rw (unlike_comm s t)
mul_comm_float f (fin s m e) (fin t n d) = rw (unlike_comm s t, mul_comm (m * up e) (n * up d), mul_comm (down e) (down d))

pub mul_neg_left : (f : Format) (x y : Float) → mul f (neg x) y ≡ neg (mul f x y)
unfolding mul neg
mul_neg_left f nan y = refl
mul_neg_left f (inf s) nan = refl
mul_neg_left f (inf s) (inf t) = ap inf (unlike_not s t)
mul_neg_left f (inf s) (fin t n d) = rw (unlike_not s t, neg_cond)
mul_neg_left f (fin s m e) nan = refl
mul_neg_left f (fin s m e) (inf t) = rw (unlike_not s t, neg_cond)
mul_neg_left f (fin s m e) (fin t n d) = rw (unlike_not s t, round_neg)

pub mul_neg_right : (f : Format) (x y : Float) → mul f x (neg y) ≡ neg (mul f x y)
mul_neg_right f x y = mul_comm_float f x (neg y) ∙ mul_neg_left f y x ∙ ap neg (mul_comm_float f y x)
