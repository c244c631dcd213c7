-- Two floats are the `Same` where they are equal, or are both zeros. Laws of sums hold up to this and are no equations: where the terms
-- cancel the sum is +0, and it is +0 again where every term is negated.
use Rattle.std.specs.Prelude.{◌≡◌, refl, Bool, true, false, zero, suc, ℤ, pos, T, Float}
use Rattle.std.proofs.Common.{sym, ap, ◌∙◌}
use Rattle.std.specs.Float.{nan, inf, fin}

-- every zero as the one zero +0, any other float as it is
abbrev pub plain : Float → Float
plain nan = nan
plain (inf s) = inf s
plain (fin s zero e) = fin false zero (pos zero)
plain (fin s (suc m) e) = fin s (suc m) e

-- an equation, so that it is reflexive, symmetric and transitive; `same_says` is the definition in words
pub record Same (x y : Float) : Type 0 where
  pub plainly : plain x ≡ plain y

pub same : {x : Float} → Same x x
same = record { plainly = refl }

pub same_eq : {x y : Float} → x ≡ y → Same x y
same_eq h = record { plainly = ap plain h }

pub same_sym : {x y : Float} → Same x y → Same y x
same_sym h = record { plainly = sym h.plainly }

infixl 30 ◌⨾◌
pub ◌⨾◌ : {x y z : Float} → Same x y → Same y z → Same x z
h ⨾ k = record { plainly = h.plainly ∙ k.plainly }

-- +0 or -0
abbrev pub is_zero : Float → Bool
is_zero nan = false
is_zero (inf s) = false
is_zero (fin s zero e) = true
is_zero (fin s (suc m) e) = false

-- what holds of a zero, written with any sign and exponent, holds of a float that is one
pub by_zero : (P : Float → Type 0) → ((s : Bool) (e : ℤ) → P (fin s zero e)) → (x : Float) → T (is_zero x) → P x
by_zero P h nan z = absurd z
by_zero P h (inf s) z = absurd z
by_zero P h (fin s zero e) z = h s e
by_zero P h (fin s (suc m) e) z = absurd z

pub same_zeros : {x y : Float} → T (is_zero x) → T (is_zero y) → Same x y
same_zeros {x} {y} p q = by_zero (λ z. Same z y) (λ s e. by_zero (λ z. Same (fin s zero e) z) (λ t d. record { plainly = refl }) y q) x p

-- ---- the same for the same: an operation that commutes, and depends on no more of its first operand than `plain` leaves

module _ (op : Float → Float → Float) (comm : (x y : Float) → op x y ≡ op y x) (plainly-first : (x y : Float) → Same (op x y) (op (plain x) y)) where
  same_first : (x x' y : Float) → Same x x' → Same (op x y) (op x' y)
  same_first x x' y h = plainly-first x y ⨾ same_eq (ap (λ (z : Float). op z y) h.plainly) ⨾ same_sym (plainly-first x' y)

  pub same_both : {x x' y y' : Float} → Same x x' → Same y y' → Same (op x y) (op x' y')
  same_both {x} {x'} {y} {y'} h k = same_first x x' y h ⨾ same_eq (comm x' y) ⨾ same_first y y' x' k ⨾ same_eq (comm y' x')
