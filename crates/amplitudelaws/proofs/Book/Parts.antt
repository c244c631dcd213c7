-- Each formula on amplitudes, over a commutative ring, as an expression in its complex numbers.
use Rattle.std.specs.Prelude.{◌≡◌, Bool, eqb}
use Rattle.std.proofs.Math.Path.{refl, ap}
use Rattle.std.proofs.Common.{◌∙◌, mod-lt, zero-lt-suc, arith}
use Rattle.std.proofs.Math.Logic.{⊎_elim}
use Rattle.std.proofs.Math.Bool.{true, false}
use Prim.Native.Nat.{ℕ, zero, suc, ◌%◌, ◌<◌}
use Rattle.amplitudelaws.specs.Arithmetic.{Amplitude, power, times, conjugate, times_power, direction, negated, scale, scaled, mixed}
use Rattle.amplitudelaws.specs.Rotation.{rotation_coefficient, rotated_alone, rotated_with}
use Rattle.amplitudelaws.specs.Promotion.{raised}
use Rattle.amplitudelaws.specs.Projection.{projection_coefficient}
use Rattle.amplitudelaws.specs.Book.Ring.{Ring, ring, neg_zero}
use Rattle.amplitudelaws.specs.Book.Complex.{exact, complex, real, i, conj, pow, ipow, sgn}
use Rattle.amplitudelaws.specs.Book.Signs.{parity, sign_even, sign_odd, pow_mod}
use Rattle.amplitudelaws.specs.Book.Reals.{pair, real_one}

-- ---- the parts

module _ {R : Type 0} (𝓡 : Ring R) where
  open 𝓡 use {add, mul, neg, zero as nought, one}

  re_mixed : (c u v r j r' j' : R) → add (add (mul c r) (mul u r')) (neg (mul v j')) ≡ add (add (mul c r) (neg (mul nought j))) (add (mul u r') (neg (mul v j')))
  re_mixed c u v r j r' j' = simp ring

  im_mixed : (c u v r j r' j' : R) → add (add (mul c j) (mul u j')) (mul v r') ≡ add (add (mul c j) (mul nought r)) (add (mul u j') (mul v r'))
  im_mixed c u v r j r' j' = simp ring

  re_alone : (c u v r j : R) → add (mul (add c u) r) (neg (mul v j)) ≡ add (add (mul c r) (neg (mul nought j))) (add (mul u r) (neg (mul v j)))
  re_alone c u v r j = simp ring

  im_alone : (c u v r j : R) → add (mul (add c u) j) (mul v r) ≡ add (add (mul c j) (mul nought r)) (add (mul u j) (mul v r))
  im_alone c u v r j = simp ring

  re_with : (c v r j r' j' : R) → add (mul c r) (neg (mul v j')) ≡ add (add (mul c r) (neg (mul nought j))) (add (mul nought r') (neg (mul v j')))
  re_with c v r j r' j' = simp ring

  im_with : (c v r j r' j' : R) → add (mul c j) (mul v r') ≡ add (add (mul c j) (mul nought r)) (add (mul nought j') (mul v r'))
  im_with c v r j r' j' = simp ring

  re_scaled : (c r j : R) → mul r c ≡ add (mul c r) (neg (mul nought j))
  re_scaled c r j = simp ring

  im_scaled : (c r j : R) → mul j c ≡ add (mul c j) (mul nought r)
  im_scaled c r j = simp ring

  re_scale : (c r j : R) → mul c r ≡ add (mul c r) (neg (mul nought j))
  re_scale c r j = simp ring

  im_scale : (c r j : R) → mul c j ≡ add (mul c j) (mul nought r)
  im_scale c r j = simp ring

  -- i q is (0 q - 1 0, 0 0 + 1 q)
  re_raised : (q r j : R) → mul (neg q) j ≡ add (mul (add (mul nought q) (neg (mul one nought))) r) (neg (mul (add (mul nought nought) (mul one q)) j))
  re_raised q r j = simp ring

  im_raised : (q r j : R) → mul q r ≡ add (mul (add (mul nought q) (neg (mul one nought))) j) (mul (add (mul nought nought) (mul one q)) r)
  im_raised q r j = simp ring

-- ---- the formulas

module _ {R : Type 0} (𝓡 : Ring R) (h : R) where
  open 𝓡 use {zero as nought, one}
  open complex 𝓡 use {add as ◌+ᶜ◌, mul as ◌*ᶜ◌, neg as -ᶜ◌}

  infixl 60 ◌+ᶜ◌
  infixl 70 ◌*ᶜ◌
  infix 80 -ᶜ◌
  pub mixed_is : (c : R) (u p q : Amplitude R) → mixed (exact 𝓡 h) c u p q ≡ real 𝓡 c *ᶜ p +ᶜ u *ᶜ q
  unfolding mixed complex real
  mixed_is c u p q = pair (re_mixed 𝓡 c u.re u.im p.re p.im q.re q.im) (im_mixed 𝓡 c u.re u.im p.re p.im q.re q.im)

  pub alone_is : (c : R) (t p : Amplitude R) → rotated_alone (exact 𝓡 h) c t p ≡ real 𝓡 c *ᶜ p +ᶜ t *ᶜ p
  unfolding rotated_alone complex real
  alone_is c t p = pair (re_alone 𝓡 c t.re t.im p.re p.im) (im_alone 𝓡 c t.re t.im p.re p.im)

  -- where t is imaginary
  pub with_is : (c : R) (t p q : Amplitude R) → t.re ≡ nought → rotated_with (exact 𝓡 h) c t p q ≡ real 𝓡 c *ᶜ p +ᶜ t *ᶜ q
  unfolding rotated_with complex real
  with_is c t p q e = rw e (pair (re_with 𝓡 c t.im p.re p.im q.re q.im) (im_with 𝓡 c t.im p.re p.im q.re q.im))

  pub scale_is : (c : R) (p : Amplitude R) → scale (exact 𝓡 h) c p ≡ real 𝓡 c *ᶜ p
  unfolding scale complex real
  scale_is c p = pair (re_scale 𝓡 c p.re p.im) (im_scale 𝓡 c p.re p.im)

  pub scaled_is : (c : R) (p : Amplitude R) → scaled (exact 𝓡 h) p c ≡ real 𝓡 c *ᶜ p
  unfolding scaled complex real
  scaled_is c p = pair (re_scaled 𝓡 c p.re p.im) (im_scaled 𝓡 c p.re p.im)

  minus_one : (w : Amplitude R) → real 𝓡 (𝓡.neg one) *ᶜ w ≡ (-ᶜ (complex 𝓡).one) *ᶜ w
  unfolding complex real
  minus_one w = simp ring

  pub directed_is : (e : ℕ) (w : Amplitude R) → scale (exact 𝓡 h) (direction (exact 𝓡 h) e) w ≡ sgn 𝓡 e *ᶜ w
  unfolding direction
  directed_is e w =
      ⊎_elim (λ p. rw (sign_even (complex 𝓡) e p, p) (scale_is one w ∙ ap (λ (q : Amplitude R). q *ᶜ w) (real_one 𝓡)))
      (λ p. rw (sign_odd (complex 𝓡) e p, p) (scale_is (𝓡.neg one) w ∙ minus_one w)) (parity e)

  pub negated_is : (e : ℕ) (w : Amplitude R) → negated (exact 𝓡 h) (eqb (e % 2) 1) w ≡ sgn 𝓡 e *ᶜ w
  unfolding negated complex
  negated_is e w = ⊎_elim (λ p. rw (sign_even (complex 𝓡) e p, p) (simp ring)) (λ p. rw (sign_odd (complex 𝓡) e p, p) (simp ring)) (parity e)

  -- no real part comes of none
  pub negated_imaginary : (t : Bool) (w : Amplitude R) → w.re ≡ nought → (negated (exact 𝓡 h) t w).re ≡ nought
  unfolding negated
  negated_imaginary true w z = ap 𝓡.neg z ∙ neg_zero 𝓡
  negated_imaginary false w z = z

  small_power : (r : ℕ) (p : Amplitude R) → r < 4 → times_power (exact 𝓡 h) r p ≡ ipow 𝓡 r *ᶜ p
  unfolding times_power pow complex i
  small_power zero p l = simp ring
  small_power (suc zero) p l = simp ring
  small_power (suc (suc zero)) p l = simp ring
  small_power (suc (suc (suc zero))) p l = simp ring
  small_power (suc (suc (suc (suc r)))) p l = absurd (omega arith)

  pub times_power_is : (e : ℕ) (p : Amplitude R) → times_power (exact 𝓡 h) (e % 4) p ≡ ipow 𝓡 e *ᶜ p
  times_power_is e p = small_power (e % 4) p (mod-lt e (zero-lt-suc 3)) ∙ ap (λ (q : Amplitude R). q *ᶜ p) (pow_mod 𝓡 (e % 4) e (omega arith))

  pub power_is : (k : ℕ) → k < 4 → power (exact 𝓡 h) k ≡ ipow 𝓡 k
  unfolding power pow complex i
  power_is zero p = refl
  power_is (suc zero) p = simp ring
  power_is (suc (suc zero)) p = simp ring
  power_is (suc (suc (suc zero))) p = simp ring
  power_is (suc (suc (suc (suc k)))) p = absurd (omega arith)

  times_is : (a b : Amplitude R) → times (exact 𝓡 h) a b ≡ a *ᶜ b
  unfolding times complex
  times_is a b = refl

  -- (0, -s) is - i s
  down : (s : R) → ◌≡◌ {A = Amplitude R} (record { re = nought; im = 𝓡.neg s }) (-ᶜ (i 𝓡 *ᶜ real 𝓡 s))
  unfolding complex i real
  down s = simp ring

  pub rotation_coefficient_is : (k : ℕ) (s : R) → k < 4 → rotation_coefficient (exact 𝓡 h) k s ≡ (-ᶜ (i 𝓡 *ᶜ real 𝓡 s)) *ᶜ ipow 𝓡 k
  unfolding rotation_coefficient
  rotation_coefficient_is k s p = times_is _ _ ∙ rw (power_is k p, down s)

  -- no real part where k is even
  pub rotation_coefficient_imaginary : (k : ℕ) (s : R) → k < 4 → k % 2 ≡ 0 → (rotation_coefficient (exact 𝓡 h) k s).re ≡ nought
  unfolding rotation_coefficient times power
  rotation_coefficient_imaginary zero s p e = simp ring
  rotation_coefficient_imaginary (suc zero) s p e = absurd (omega arith)
  rotation_coefficient_imaginary (suc (suc zero)) s p e = simp ring
  rotation_coefficient_imaginary (suc (suc (suc zero))) s p e = absurd (omega arith)
  rotation_coefficient_imaginary (suc (suc (suc (suc k)))) s p e = absurd (omega arith)

  pub projection_coefficient_is : (k : ℕ) → k < 4 → projection_coefficient (exact 𝓡 h) k ≡ real 𝓡 h *ᶜ conj 𝓡 (ipow 𝓡 k)
  unfolding projection_coefficient conjugate conj
  projection_coefficient_is k p = scaled_is h (conjugate (exact 𝓡 h) (power (exact 𝓡 h) k)) ∙ ap (λ (q : Amplitude R). real 𝓡 h *ᶜ conj 𝓡 q) (power_is k p)

  pub raised_is : (q : R) (p : Amplitude R) → raised (exact 𝓡 h) q p ≡ i 𝓡 *ᶜ real 𝓡 q *ᶜ p
  unfolding raised complex real i
  raised_is q p = pair (re_raised 𝓡 q p.re p.im) (im_raised 𝓡 q p.re p.im)
