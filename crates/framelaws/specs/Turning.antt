-- Which formulas turn with their amplitudes, up to the sign of a zero.
use Rattle.std.specs.Prelude.{◌≡◌, refl, Bool, true, false, not, cond, ℕ, zero, suc, ◌+◌, ◌*◌, ◌%◌, ◌<◌, eqb, Float}
use Rattle.std.proofs.Common.{sym, ap, ◌∙◌, arith}
use Rattle.std.specs.Float.{binary64}
use Rattle.std.specs.Float.Ieee.{neg, add, sub}
use Rattle.bitlaws.specs.Digit.{by_digit, mod_two}
use Rattle.floatlaws.specs.Same.{Same, same, same_eq, ◌⨾◌}
use Rattle.floatlaws.specs.Sign.{neg_neg, mul_neg_left, mul_neg_right}
use Rattle.floatlaws.proofs.Sum.{add_neg, same_add, same_sub}
use Rattle.floatlaws.proofs.Product.{same_mul}
use Rattle.floatlaws.proofs.Rules.{sign_simp}
use Rattle.amplitudelaws.specs.Arithmetic.{direction, negated, scale, scaled, mixed}
use Rattle.amplitudelaws.specs.Binary.{Point, binary}
use Rattle.amplitudelaws.specs.Rotation.{rotated_alone, rotated_with}
use Rattle.amplitudelaws.specs.Promotion.{raised}
use Rattle.framelaws.specs.Alike.{Alike, alike, alike_trans, alike_eq}
use Rattle.framelaws.specs.Turns.{turn, turns, turns_add, turns_mod, alike_turn, alike_turns}

-- ---- a formula of one amplitude that turns with it

pub record Steady (φ : Point → Point) : Type 0 where
  pub cong : {p p' : Point} → Alike p p' → Alike (φ p) (φ p')
  pub spin : (p : Point) → Alike (φ (turn p)) (turn (φ p))

module _ {φ : Point → Point} (w : Steady φ) where
  steadies : (k : ℕ) (p : Point) → Alike (φ (turns k p)) (turns k (φ p))
  steadies zero p = alike
  steadies (suc k) p = alike_trans (w.spin (turns k p)) (alike_turn (steadies k p))

  pub steady : (e : ℕ) {r : Point} (p : Point) → Alike r (turns e p) → Alike (φ r) (turns e (φ p))
  steady e p h = alike_trans (w.cong h) (steadies e p)

-- ---- a formula of a sign and two amplitudes that turns with them: two turns of the second flip the sign

pub record Pairing (φ : ℕ → Point → Point → Point) : Type 0 where
  pub cong : (a : ℕ) {p p' q q' : Point} → Alike p p' → Alike q q' → Alike (φ a p q) (φ a p' q')
  pub spin : (a : ℕ) (p q : Point) → Alike (φ a (turn p) (turn q)) (turn (φ a p q))
  pub flip : (a : ℕ) (p q : Point) → Alike (φ a p (turns 2 q)) (φ (suc a) p q)
  pub same_sign : (a b : ℕ) (p q : Point) → a % 2 ≡ b % 2 → φ a p q ≡ φ b p q

module _ {φ : ℕ → Point → Point → Point} (w : Pairing φ) where
  spins : (k a : ℕ) (p q : Point) → Alike (φ a (turns k p) (turns k q)) (turns k (φ a p q))
  spins zero a p q = alike
  spins (suc k) a p q = alike_trans (w.spin a (turns k p) (turns k q)) (alike_turn (spins k a p q))

  flips : (g a : ℕ) (p q : Point) → Alike (φ a p (turns (2 * g) q)) (φ (a + g) p q)
  flips zero a p q = alike_eq (ap (λ (n : ℕ). φ n p q) (omega arith))
  flips (suc g) a p q =
      let next : 2 * suc g ≡ 2 + 2 * g = omega arith in
      let sign : suc a + g ≡ a + suc g = omega arith in
      alike_trans (alike_eq (ap (φ a p) (ap (λ (n : ℕ). turns n q) next ∙ turns_add 2 (2 * g) q)))
      (alike_trans (w.flip a p (turns (2 * g) q)) (alike_trans (flips g (suc a) p q) (alike_eq (ap (λ (n : ℕ). φ n p q) sign))))

  -- the first turned by e, the second by e and 2 g
  pub paired : (e d g a a' : ℕ) {r s : Point} (p q : Point) → Alike r (turns e p) → Alike s (turns d q) → d % 4 ≡ (e + 2 * g) % 4 → (a + g) % 2 ≡ a' % 2
      → Alike (φ a r s) (turns e (φ a' p q))
  paired e d g a a' p q first second turned signs =
      alike_trans (w.cong a first (alike_trans second (alike_eq (turns_mod d (e + 2 * g) q turned ∙ turns_add e (2 * g) q))))
      (alike_trans (spins e a p (turns (2 * g) q))
      (alike_turns e (alike_trans (flips g a p q) (alike_eq (w.same_sign (a + g) a' p q signs)))))

-- ---- signs

odd_suc : (a : ℕ) → eqb (suc a % 2) 1 ≡ not (eqb (a % 2) 1)
odd_suc a = other (a % 2) (suc a % 2) (mod_two a) (omega arith)
  where
    other : (r s : ℕ) → r < 2 → s ≡ (r + 1) % 2 → eqb s 1 ≡ not (eqb r 1)
    other r s h e = rw e (by_digit (λ r. eqb ((r + 1) % 2) 1 ≡ not (eqb r 1)) refl refl r h)

cond_not : (t : Bool) (x : Float) → cond (not t) (neg x) x ≡ neg (cond t (neg x) x)
cond_not true x = sym (neg_neg x)
cond_not false x = refl

pub direction_suc : (a : ℕ) → direction binary (suc a) ≡ neg (direction binary a)
unfolding direction
direction_suc a = rw (odd_suc a) (cond_not (eqb (a % 2) 1) binary.one)

-- ---- the formulas of one amplitude

pub scale_steady : (c : Float) → Steady (scale binary c)
unfolding scale
scale_steady c = record {
  cong = λ h. record { res = same_mul binary64 same h.res; ims = same_mul binary64 same h.ims };
  spin = λ p. record { res = same_eq (mul_neg_right binary64 c p.im); ims = same };
}

pub scaled_steady : (c : Float) → Steady (λ p. scaled binary p c)
unfolding scaled
scaled_steady c = record {
  cong = λ h. record { res = same_mul binary64 h.res same; ims = same_mul binary64 h.ims same };
  spin = λ p. record { res = same_eq (mul_neg_left binary64 p.im c); ims = same };
}

pub raised_steady : (q : Float) → Steady (raised binary q)
unfolding raised
raised_steady q = record {
  cong = λ h. record { res = same_mul binary64 same h.ims; ims = same_mul binary64 same h.res };
  spin = λ p. record {
    res = same_eq (mul_neg_left binary64 q p.re);
    ims = same_eq (mul_neg_right binary64 q p.im ∙ sym (mul_neg_left binary64 q p.im));
  };
}

-- a difference whose first term is negated, and one written as a sum
sub_neg_left : (a b : Float) → Same (sub binary64 (neg a) b) (neg (add binary64 a b))
unfolding sub
sub_neg_left a b = add_neg binary64 a b

add_neg_right : (a b : Float) → Same (add binary64 a (neg b)) (sub binary64 a b)
unfolding sub
add_neg_right a b = same

pub rotated_alone_steady : (c : Float) (t : Point) → Steady (rotated_alone binary c t)
unfolding rotated_alone
rotated_alone_steady c t = record {
  cong = λ h. record {
    res = same_sub binary64 (same_mul binary64 same h.res) (same_mul binary64 same h.ims);
    ims = same_add binary64 (same_mul binary64 same h.ims) (same_mul binary64 same h.res);
  };
  spin = λ p. record { res = simp sign_simp (sub_neg_left _ _); ims = simp sign_simp (add_neg_right _ _) };
}

-- ---- the formulas of two

pub rotated_with_pairing : (c : Float) (m : Point) → Pairing (λ a p q. rotated_with binary c (negated binary (eqb (a % 2) 1) m) p q)
unfolding rotated_with negated
rotated_with_pairing c m = record {
  cong = λ a h k. record {
    res = same_sub binary64 (same_mul binary64 same h.res) (same_mul binary64 same k.ims);
    ims = same_add binary64 (same_mul binary64 same h.ims) (same_mul binary64 same k.res);
  };
  spin = λ a p q. record { res = simp sign_simp (sub_neg_left _ _); ims = simp sign_simp (add_neg_right _ _) };
  flip = λ a p q. alike_eq (rw (odd_suc a) (simp (cond_not, sign_simp)));
  same_sign = λ a b p q h. rw h;
}

pub alike_mixed : {c c' : Float} {u u' p p' q q' : Point} → Same c c' → Alike u u' → Alike p p' → Alike q q' → Alike (mixed binary c u p q) (mixed binary c' u' p' q')
unfolding mixed
alike_mixed c u p q = record {
  res = same_sub binary64 (same_add binary64 (same_mul binary64 c p.res) (same_mul binary64 u.res q.res)) (same_mul binary64 u.ims q.ims);
  ims = same_add binary64 (same_add binary64 (same_mul binary64 c p.ims) (same_mul binary64 u.res q.ims)) (same_mul binary64 u.ims q.res);
}

-- nothing is asked of u
mixed_turn : (c : Float) (u p q : Point) → Alike (mixed binary c u (turn p) (turn q)) (turn (mixed binary c u p q))
unfolding mixed
mixed_turn c u p q = record {
  res = simp sign_simp (same_sub binary64 (add_neg binary64 _ _) same ⨾ sub_neg_left _ _);
  ims = simp sign_simp (add_neg_right _ _);
}

pub mixed_pairing : (c : Float) (m : Point) → Pairing (λ a p q. mixed binary c (scale binary (direction binary a) m) p q)
unfolding mixed scale direction
mixed_pairing c m = record {
  cong = λ a h k. alike_mixed same alike h k;
  spin = λ a p q. mixed_turn c (scale binary (direction binary a) m) p q;
  flip = λ a p q. alike_eq (rw (direction_suc a) (simp sign_simp));
  same_sign = λ a b p q h. rw h;
}
