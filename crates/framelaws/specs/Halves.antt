-- A coefficient that is 1 / sqrt 2, turned, as a projection's is: its two amplitudes are scaled alike, and their sum is the same in either order.
use Rattle.std.specs.Prelude.{◌≡◌, refl, ◌⊎◌, false, ℕ, zero, suc, ◌+◌, ◌*◌, ◌%◌, ◌≤◌, T, pos, Float}
use Rattle.std.proofs.Common.{sym, ap, ap₂, ◌∙◌, inl, inr, ⊎_elim, arith}
use Rattle.std.specs.Float.{fin, binary64}
use Rattle.std.specs.Float.Ieee.{of_bits, neg, add, sub, mul, fits}
use Rattle.std.specs.Float.Ieee.Fits.{add-fits, mul-fits}
use Rattle.std.specs.Float.Ieee.Scale.{finite}
use Rattle.floatlaws.specs.Same.{Same, same, is_zero}
use Rattle.floatlaws.specs.Sign.{mul_neg_left}
use Rattle.floatlaws.proofs.Sum.{zero_neg, add_neg, add_comm_float, same_add}
use Rattle.floatlaws.proofs.Product.{same_mul, mul_zero_left}
use Rattle.floatlaws.proofs.Fit.{add_none_right, mul_one_fits}
use Rattle.floatlaws.proofs.Rules.{sign_simp, zero_swap}
use Rattle.amplitudelaws.specs.Arithmetic.{power, conjugate, direction, scale, scaled, mixed}
use Rattle.amplitudelaws.specs.Binary.{Point, binary}
use Rattle.amplitudelaws.specs.Projection.{projection_coefficient}
use Rattle.amplitudelaws.specs.Sweeping.{point_same}
use Rattle.framelaws.specs.Alike.{Alike, alike, alike_sym, alike_trans, alike_eq, Finite, finite_alike}
use Rattle.framelaws.specs.Turns.{turn, turns, turns_add, turns_mod, turns_turns, alike_turn, alike_turns, finite_turns}
use Rattle.framelaws.specs.Turning.{direction_suc, alike_mixed}

-- ---- the coefficient, with a sign

-- 1 / sqrt 2
abbrev pub root : Point
root = record { re = binary.h; im = binary.nought }

direction_zero : direction binary 0 ≡ fin false 1 (pos 0)
unfolding direction of_bits
direction_zero = refl

-- times 1 or -1
pub direction_turns : (a : ℕ) (u : Point) → T (fits binary64 u.re) → T (fits binary64 u.im)
    → Alike (scale binary (direction binary a) u) (turns (2 * a) u)
unfolding scale
direction_turns zero u r i = rw direction_zero (alike_eq (point_same (mul_one_fits binary64 u.re r) (mul_one_fits binary64 u.im i)))
direction_turns (suc a) u r i =
    let next : 2 * suc a ≡ 2 + 2 * a = omega arith in
    rw (next, turns_add 2 (2 * a) u, direction_suc a, mul_neg_left binary64 (direction binary a) u.re, mul_neg_left binary64 (direction binary a) u.im)
    (alike_turns 2 (direction_turns a u r i))

-- ---- the coefficient's turns are the second amplitude's

-- real or imaginary
abbrev pub OnAxis : Point → Type 0
OnAxis u = T (is_zero u.re) ⊎ T (is_zero u.im)

axis_turns : (e : ℕ) (u : Point) → OnAxis u → OnAxis (turns e u)
axis_turns zero u a = a
axis_turns (suc e) u a = ⊎_elim (λ h. inr h) (λ h. inl (zero_neg (turns e u).im h)) (axis_turns e u a)

zero_term : (x y : Float) → T (is_zero x) → T (finite y) → T (is_zero (neg (mul binary64 x y)))
zero_term x y h k = zero_neg (mul binary64 x y) (mul_zero_left binary64 x y h k)

mixed_axis : (c : Float) (u p q : Point) → Finite q → OnAxis u → Alike (mixed binary c (turn u) p q) (mixed binary c u p (turn q))
unfolding mixed sub
mixed_axis c u p q f a = record {
  res = simp sign_simp
      (zero_swap binary64 (mul binary64 c p.re) (neg (mul binary64 u.im q.re)) (neg (mul binary64 u.re q.im)) (mul-fits binary64 c p.re)
      (⊎_elim (λ h. inr (zero_term u.re q.im h f.1)) (λ h. inl (zero_term u.im q.re h f.0)) a));
  ims = simp sign_simp
      (zero_swap binary64 (mul binary64 c p.im) (neg (mul binary64 u.im q.im)) (mul binary64 u.re q.re) (mul-fits binary64 c p.im)
      (⊎_elim (λ h. inr (mul_zero_left binary64 u.re q.re h f.0)) (λ h. inl (zero_term u.im q.im h f.1)) a));
}

pub mixed_axes : (c : Float) (e : ℕ) (u p q : Point) → Finite q → OnAxis u
    → Alike (mixed binary c (turns e u) p q) (mixed binary c u p (turns e q))
mixed_axes c zero u p q f a = alike
mixed_axes c (suc e) u p q f a =
    let again : turns e (turn q) ≡ turns (suc e) q = turns_turns e 1 1 e q (ap (λ (n : ℕ). n % 4) (omega arith)) in
    alike_trans (mixed_axis c (turns e u) p q f (axis_turns e u a))
    (alike_trans (mixed_axes c e u p (turn q) (finite_turns 1 q f) a) (alike_eq (ap (mixed binary c u p) again)))

-- ---- the sum

-- each times 1 / sqrt 2, and added
abbrev pub halves : Point → Point → Point
halves p q = record {
  re = add binary64 (mul binary64 binary.h p.re) (mul binary64 binary.h q.re);
  im = add binary64 (mul binary64 binary.h p.im) (mul binary64 binary.h q.im);
}

pub halves_comm : (p q : Point) → halves p q ≡ halves q p
halves_comm p q = point_same (add_comm_float binary64 _ _) (add_comm_float binary64 _ _)

pub halves_turns : (e : ℕ) (p q : Point) → Alike (halves (turns e p) (turns e q)) (turns e (halves p q))
halves_turns zero p q = alike
halves_turns (suc e) p q = alike_trans (once (turns e p) (turns e q)) (alike_turn (halves_turns e p q))
  where
    once : (p q : Point) → Alike (halves (turn p) (turn q)) (turn (halves p q))
    once p q = record { res = simp sign_simp (add_neg binary64 _ _); ims = same }

pub nought_zero : T (is_zero binary.nought)
unfolding of_bits
nought_zero = tt

-- a last term that is a zero
last_zero : (a b z : Float) → T (is_zero z) → Same (add binary64 (add binary64 a b) z) (add binary64 a b)
last_zero a b z h = add_none_right binary64 (add binary64 a b) z (add-fits binary64 a b) h

pub mixed_root : (p q : Point) → Finite q → Alike (mixed binary binary.h root p q) (halves p q)
unfolding mixed sub
mixed_root p q f =
    let times : Float → Float = mul binary64 binary.h in
    let none : Float → Float = mul binary64 binary.nought in
    record {
      res = last_zero (times p.re) (times q.re) (neg (none q.im)) (zero_term binary.nought q.im nought_zero f.1);
      ims = last_zero (times p.im) (times q.im) (none q.re) (mul_zero_left binary64 binary.nought q.re nought_zero f.0);
    }

-- a coefficient u that is 1 / sqrt 2, turned by e
pub mixed_halves : (e : ℕ) (u p q : Point) → Alike u (turns e root) → Finite q → Alike (mixed binary binary.h u p q) (halves p (turns e q))
mixed_halves e u p q h f =
    alike_trans (alike_mixed same h alike alike)
    (alike_trans (mixed_axes binary.h e root p q f (inr nought_zero)) (mixed_root p (turns e q) (finite_turns e q f)))

-- the two amplitudes exchanged: r and s are q and p, turned by g and d, and the whole is turned by e
pub halves_exchange : (t t' d g e : ℕ) {r s : Point} (p q : Point) → Alike r (turns g q) → Alike s (turns d p)
    → (t + d) % 4 ≡ e % 4 → g % 4 ≡ (e + t') % 4 → Alike (halves r (turns t s)) (turns e (halves p (turns t' q)))
halves_exchange t t' d g e p q first second one two =
    let left : turns t (turns d p) ≡ turns e p = sym (turns_add t d p) ∙ turns_mod (t + d) e p one in
    let right : turns g q ≡ turns e (turns t' q) = turns_mod g (e + t') q two ∙ turns_add e t' q in
    alike_trans (alike_halves first (alike_turns t second))
    (alike_trans (alike_eq (halves_comm (turns g q) (turns t (turns d p)) ∙ ap₂ halves left right)) (halves_turns e p (turns t' q)))
  where
    alike_halves : {p p' q q' : Point} → Alike p p' → Alike q q' → Alike (halves p q) (halves p' q')
    alike_halves h k = record {
      res = same_add binary64 (same_mul binary64 same h.res) (same_mul binary64 same k.res);
      ims = same_add binary64 (same_mul binary64 same h.ims) (same_mul binary64 same k.ims);
    }

-- ---- a projection with an X part

projection_turns : (k : ℕ) → k ≤ 3 → Alike (projection_coefficient binary k) (turns (3 * k) root)
unfolding projection_coefficient scaled conjugate power mul neg of_bits
projection_turns zero h = record { res = record { plainly = refl }; ims = record { plainly = refl } }
projection_turns (suc zero) h = record { res = record { plainly = refl }; ims = record { plainly = refl } }
projection_turns (suc (suc zero)) h = record { res = record { plainly = refl }; ims = record { plainly = refl } }
projection_turns (suc (suc (suc zero))) h = record { res = record { plainly = refl }; ims = record { plainly = refl } }
projection_turns (suc (suc (suc (suc k)))) h = absurd (omega arith)

projection_signed : (a k : ℕ) → k ≤ 3 → Alike (scale binary (direction binary a) (projection_coefficient binary k)) (turns (2 * a + 3 * k) root)
unfolding projection_coefficient scaled
projection_signed a k h =
    alike_trans (direction_turns a (projection_coefficient binary k) (mul-fits binary64 _ _) (mul-fits binary64 _ _))
    (alike_trans (alike_turns (2 * a) (projection_turns k h)) (alike_eq (sym (turns_add (2 * a) (3 * k) root))))

-- its formula, for a measured Pauli's phase k: the coefficient's sign is -1 where a is odd
abbrev pub mixture : ℕ → ℕ → Point → Point → Point
mixture k a p q = mixed binary binary.h (scale binary (direction binary a) (projection_coefficient binary k)) p q

mixture_halves : (k a : ℕ) (p q : Point) → k ≤ 3 → Finite q → Alike (mixture k a p q) (halves p (turns (2 * a + 3 * k) q))
mixture_halves k a p q h f =
    mixed_halves (2 * a + 3 * k) (scale binary (direction binary a) (projection_coefficient binary k)) p q (projection_signed a k h) f

pub mixture_exchange : (k a a' d g e : ℕ) {r s : Point} (p q : Point) → k ≤ 3 → Finite p → Finite q → Alike r (turns g q) → Alike s (turns d p)
    → (2 * a + 3 * k + d) % 4 ≡ e % 4 → g % 4 ≡ (e + (2 * a' + 3 * k)) % 4 → Alike (mixture k a r s) (turns e (mixture k a' p q))
mixture_exchange k a a' d g e {r} {s} p q h fp fq first second one two =
    alike_trans (mixture_halves k a r s h (finite_alike second (finite_turns d p fp)))
    (alike_trans (halves_exchange (2 * a + 3 * k) (2 * a' + 3 * k) d g e p q first second one two)
    (alike_turns e (alike_sym (mixture_halves k a' p q h fq))))
