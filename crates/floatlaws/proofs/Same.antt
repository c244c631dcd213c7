-- Two floats are the `Same` where they are equal, or are both zeros. Laws of sums hold up to this and are no equations: where the terms
-- cancel the sum is +0, and it is +0 again where every term is negated.
use Rattle.std.specs.Prelude.{◌≡◌, refl, ◌⊎◌, zero, suc, T, Float}
use Rattle.std.proofs.Common.{sym, ap, ◌∙◌, subst, inl, inr, ⊎_elim}
use Rattle.std.specs.Float.{nan, inf, fin}
use Rattle.floatlaws.specs.Same.{plain, Same, same_sym, is_zero}

zero_plain : (x : Float) → is_zero (plain x) ≡ is_zero x
zero_plain nan = refl
zero_plain (inf s) = refl
zero_plain (fin s zero e) = refl
zero_plain (fin s (suc m) e) = refl

-- what is the same as a zero is a zero
zero_same : {x y : Float} → Same x y → T (is_zero x) → T (is_zero y)
zero_same {x} {y} h = subst T (sym (zero_plain x) ∙ ap is_zero h.plainly ∙ zero_plain y)

plain_cases : (x : Float) → T (is_zero x) ⊎ (plain x ≡ x)
plain_cases nan = inr refl
plain_cases (inf s) = inr refl
plain_cases (fin s zero e) = inl tt
plain_cases (fin s (suc m) e) = inr refl

-- the definition in words
pub same_says : (x y : Float) → Same x y → (x ≡ y) ⊎ (T (is_zero x) × T (is_zero y))
same_says x y h =
    ⊎_elim (λ p. inr (p, zero_same h p))
    (λ p. ⊎_elim (λ q. inr (zero_same (same_sym h) q, q)) (λ q. inl (sym p ∙ h.plainly ∙ q)) (plain_cases y))
    (plain_cases x)
