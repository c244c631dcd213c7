-- A float that fits its format is known by its sign and its value. So rounding it again changes nothing, and a zero added, or a factor one,
-- leaves it as it is.
use Rattle.std.specs.Prelude.{◌≡◌, refl, Bool, false, ◌&&◌, ℕ, zero, suc, ◌+◌, ◌-◌, ◌*◌, ◌%◌, ◌^◌, ◌≤◌, ◌<◌, ℤ, pos, negsuc, T, leb, ltb, eqb, Float}
use Rattle.std.proofs.Common.{sym, ap, ◌∙◌, subst, lt_irrefl, lt_of_not-le, le_of_suc-le-suc, not-le_of_lt, zero-lt-suc, lt_of_mul-lt-mul_right, mul-lt-mul_of_pos_right, mul-pos, zero-mul, mul-one, one-mul, mul_comm, mul_assoc, mul_left_comm, mul_right_comm, pow-suc, arith, eqb→eq, ltb→lt, leb→le, pow-add, pow_pos}
use Rattle.std.proofs.Math.Nat.{eq_of_mul-eq-mul_right, pow-succ'}
use Rattle.std.proofs.Math.Pow.{pow-lt}
use Rattle.std.specs.Float.{nan, inf, fin, Format}
use Rattle.std.specs.Float.Ieee.{prec, emax, low, up, down, round, add, mul, fits}
use Rattle.std.specs.Float.Ieee.Digits.{back}
use Rattle.std.specs.Float.Ieee.Exact.{HasValue, round_exact}
use Rattle.std.specs.Float.Ieee.Fits.{and_l, and_r, round-fits, up_pos, down_pos}
use Rattle.floatlaws.specs.Same.{Same, same_eq, ◌⨾◌, is_zero}
use Rattle.floatlaws.specs.Round.{again, round_zero}
use Rattle.floatlaws.proofs.Sum.{add_zero_right}
use Rattle.floatlaws.proofs.Product.{mul_one_left}

-- what it takes for m * 2 ^ e, m above 0, to fit
record Held (f : Format) (m : ℕ) (e : ℤ) : Type 0 where
  odd : m % 2 ≡ 1
  short : m < 2 ^ prec f
  fine : down e ≤ 2 ^ low f
  under : m * up e < 2 ^ suc (emax f) * down e

fits_held : (f : Format) (s : Bool) (m : ℕ) (e : ℤ) → T (fits f (fin s (suc m) e)) → Held f (suc m) e
unfolding fits
fits_held f s m e t =
    let a : Bool = eqb (suc m % 2) 1 in
    let b : Bool = ltb (suc m) (2 ^ prec f) in
    let c : Bool = leb (down e) (2 ^ low f) in
    let d : Bool = ltb (suc m * up e) (2 ^ suc (emax f) * down e) in
    let u : T (a && b && c) = and_l (a && b && c) d t in
    let v : T (a && b) = and_l (a && b) c u in
    record {
      odd = eqb→eq (suc m % 2) 1 (and_l a b v);
      short = ltb→lt (suc m) (2 ^ prec f) (and_r a b v);
      fine = leb→le (down e) (2 ^ low f) (and_r (a && b) c u);
      under = ltb→lt (suc m * up e) (2 ^ suc (emax f) * down e) (and_r (a && b && c) d t);
    }

twice_not_one : (p : ℕ) → 2 * p ≡ 1 → ⊥
twice_not_one p e = omega arith

unit_exponent : (e : ℤ) → up e * down e ≡ 1 → e ≡ pos 0
unit_exponent (pos zero) h = refl
unit_exponent (pos (suc k)) h = absurd (twice_not_one (2 ^ k) (sym (pow-succ' 2 k) ∙ sym (mul-one (2 ^ suc k)) ∙ h))
unit_exponent (negsuc k) h = absurd (twice_not_one (2 ^ k) (sym (pow-succ' 2 k) ∙ sym (one-mul (2 ^ suc k)) ∙ h))

-- a zero that fits is written with the exponent 0
fits_zero : (f : Format) (s : Bool) (e : ℤ) → T (fits f (fin s zero e)) → e ≡ pos 0
unfolding fits
fits_zero f s e t = unit_exponent e (eqb→eq (up e * down e) 1 t)

odd_not_even : (m t : ℕ) → m % 2 ≡ 1 → m ≡ 2 * t → ⊥
odd_not_even m t o h = omega arith

odd_not_twice : (m n b : ℕ) → m % 2 ≡ 1 → m * 2 ^ 0 ≡ n * 2 ^ suc b → ⊥
odd_not_twice m n b o h = odd_not_even m (n * 2 ^ b) o (sym (mul-one m) ∙ h ∙ ap (λ (x : ℕ). n * x) (pow-succ' 2 b) ∙ mul_left_comm n 2 (2 ^ b))

-- an odd number and a power of two are known by their product
odd_power : (m n a b : ℕ) → m % 2 ≡ 1 → n % 2 ≡ 1 → m * 2 ^ a ≡ n * 2 ^ b → (m ≡ n) × (a ≡ b)
odd_power m n zero zero o p h = (sym (mul-one m) ∙ h ∙ mul-one n, refl)
odd_power m n zero (suc b) o p h = absurd (odd_not_twice m n b o h)
odd_power m n (suc a) zero o p h = absurd (odd_not_twice n m a p (sym h))
odd_power m n (suc a) (suc b) o p h = let r = odd_power m n a b o p half in (r.0, ap suc r.1)
  where
    half : m * 2 ^ a ≡ n * 2 ^ b
    half = eq_of_mul-eq-mul_right 2 (zero-lt-suc 1) (m * 2 ^ a) (n * 2 ^ b) (rw (mul_assoc m (2 ^ a) 2, mul_assoc n (2 ^ b) 2, ← pow-suc 2 a, ← pow-suc 2 b) h)

not_none : (a b : ℕ) → a + suc b ≡ 0 → ⊥
not_none a b h = omega arith

-- m * 2 ^ a is not n / 2 ^ (b + 1)
no_fraction : (m n a b : ℕ) → m % 2 ≡ 1 → n % 2 ≡ 1 → m * 2 ^ a * 2 ^ suc b ≡ n * 1 * 1 → ⊥
no_fraction m n a b o p h =
    let whole : m * 2 ^ (a + suc b) ≡ n * 1 = ap (λ (x : ℕ). m * x) (pow-add 2 a (suc b)) ∙ sym (mul_assoc m (2 ^ a) (2 ^ suc b)) ∙ h ∙ mul-one (n * 1) in
    not_none a b (odd_power m n (a + suc b) 0 o p whole).1

-- and so where the power has a sign: m * 2 ^ e and n * 2 ^ d
odd_exponent : (m n : ℕ) (e d : ℤ) → m % 2 ≡ 1 → n % 2 ≡ 1 → m * up e * down d ≡ n * up d * down e → (m ≡ n) × (e ≡ d)
odd_exponent m n (pos a) (pos b) o p h =
    let r = odd_power m n a b o p (sym (mul-one (m * 2 ^ a)) ∙ h ∙ mul-one (n * 2 ^ b)) in (r.0, ap pos r.1)
odd_exponent m n (pos a) (negsuc b) o p h = absurd (no_fraction m n a b o p h)
odd_exponent m n (negsuc a) (pos b) o p h = absurd (no_fraction n m b a p o (sym h))
odd_exponent m n (negsuc a) (negsuc b) o p h =
    let r = odd_power m n (suc b) (suc a) o p (rw (mul-one m, mul-one n) at h) in
    let less : a ≡ b = omega (arith, r.1) in
    (r.0, ap negsuc less)

-- two fractions x / dx and y / dy that are both a / c
cross : (x y dx dy a c : ℕ) → 0 < c → x * c ≡ a * dx → y * c ≡ a * dy → x * dy ≡ y * dx
cross x y dx dy a c z h k =
    eq_of_mul-eq-mul_right c z (x * dy) (y * dx)
    (mul_right_comm x dy c ∙ ap (λ (n : ℕ). n * dy) h ∙ mul_right_comm a dx dy ∙ ap (λ (n : ℕ). n * dx) (sym k) ∙ mul_right_comm y c dx)

zero_not_above : (a b n : ℕ) (e d : ℤ) → 0 * a * b ≡ suc n * up e * down d → ⊥
zero_not_above a b n e d h = lt_irrefl 0 (subst (λ (x : ℕ). 0 < x) (sym h ∙ simp zero-mul) (mul-pos (mul-pos (zero-lt-suc n) (up_pos e)) (down_pos d)))

-- two floats that fit, with one sign and one value
value_unique : (f : Format) (x y : Float) (s : Bool) (a c : ℕ) → 0 < c → T (fits f x) → T (fits f y) → HasValue x s a c → HasValue y s a c → x ≡ y
value_unique f nan y s a c z p q v w = absurd v
value_unique f (inf t) y s a c z p q v w = absurd v
value_unique f (fin t m e) nan s a c z p q v w = absurd w
value_unique f (fin t m e) (inf u) s a c z p q v w = absurd w
value_unique f (fin t zero e) (fin u zero d) s a c z p q v w = λ i. fin ((v.0 ∙ sym w.0) i) zero ((fits_zero f t e p ∙ sym (fits_zero f u d q)) i)
value_unique f (fin t zero e) (fin u (suc n) d) s a c z p q v w =
    absurd (zero_not_above (up e) (down d) n d e (cross (0 * up e) (suc n * up d) (down e) (down d) a c z v.1 w.1))
value_unique f (fin t (suc m) e) (fin u zero d) s a c z p q v w =
    absurd (zero_not_above (up d) (down e) m e d (cross (0 * up d) (suc m * up e) (down d) (down e) a c z w.1 v.1))
value_unique f (fin t (suc m) e) (fin u (suc n) d) s a c z p q v w =
    let equal : suc m * up e * down d ≡ suc n * up d * down e = cross (suc m * up e) (suc n * up d) (down e) (down d) a c z v.1 w.1 in
    let r = odd_exponent (suc m) (suc n) e d (fits_held f t m e p).odd (fits_held f u n d q).odd equal in
    λ i. fin ((v.0 ∙ sym w.0) i) (r.0 i) (r.1 i)

power_le : (i j : ℕ) → 2 ^ i ≤ 2 ^ j → i ≤ j
power_le i j h = le_of_suc-le-suc (lt_of_not-le (λ (k : suc j ≤ i). not-le_of_lt (pow-lt k) h))

-- m * 2 ^ e is m * 2 ^ j of the format's smallest values
in_smallest : (f : Format) (m : ℕ) (e : ℤ) → Held f m e → (j : ℕ) × (m * up e * 2 ^ low f ≡ m * 2 ^ j * down e)
in_smallest f m (pos a) h =
    (a + low f, mul_assoc m (2 ^ a) (2 ^ low f) ∙ ap (λ (x : ℕ). m * x) (sym (pow-add 2 a (low f))) ∙ sym (mul-one (m * 2 ^ (a + low f))))
in_smallest f m (negsuc k) h =
    let l = low f in
    (l - suc k, rw (mul-one m, mul_assoc m (2 ^ (l - suc k)) (2 ^ suc k), ← pow-add 2 (l - suc k) (suc k), back l (suc k) (power_le (suc k) l h.fine)))

-- a / d is b / l, and below t
below_top : (a b l t d : ℕ) → 0 < l → a < t * d → a * l ≡ b * d → b < l * t
below_top a b l t d p h e =
    lt_of_mul-lt-mul_right d
    (subst (λ (x : ℕ). x < l * t * d) e (subst (λ (x : ℕ). a * l < x) (mul_comm (t * d) l ∙ sym (mul_assoc l t d)) (mul-lt-mul_of_pos_right h p)))

round_fin : (f : Format) (s : Bool) (m : ℕ) (e : ℤ) → T (fits f (fin s (suc m) e)) → round f s (suc m * up e) (down e) ≡ fin s (suc m) e
round_fin f s m e t =
    let held : Held f (suc m) e = fits_held f s m e t in
    let j = in_smallest f (suc m) e held in
    let below : suc m * 2 ^ j.0 < 2 ^ (low f + suc (emax f))
    = rw (pow-add 2 (low f) (suc (emax f)))
    (below_top (suc m * up e) (suc m * 2 ^ j.0) (2 ^ low f) (2 ^ suc (emax f)) (down e) (pow_pos (low f)) held.under j.1) in
    value_unique f (round f s (suc m * up e) (down e)) (fin s (suc m) e) s (suc m * up e) (down e) (down_pos e) (round-fits f s (suc m * up e) (down e)) t
    (round_exact f s (suc m * up e) (down e) (suc m) j.0 (down_pos e) held.short below j.1) (refl, refl)

-- rounding again changes nothing
again_fits : (f : Format) (x : Float) → T (fits f x) → again f x ≡ x
again_fits f nan t = refl
again_fits f (inf s) t = refl
again_fits f (fin s zero e) t = rw (zero-mul (up e), round_zero f s (down e) (down_pos e), fits_zero f s e t)
again_fits f (fin s (suc m) e) t = round_fin f s m e t

-- a zero added
pub add_none_right : (f : Format) (x z : Float) → T (fits f x) → T (is_zero z) → Same (add f x z) x
add_none_right f x z h k = add_zero_right f x z k ⨾ same_eq (again_fits f x h)

-- times one
pub mul_one_fits : (f : Format) (x : Float) → T (fits f x) → mul f (fin false 1 (pos 0)) x ≡ x
mul_one_fits f x h = mul_one_left f x ∙ again_fits f x h
