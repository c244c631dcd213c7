-- Real numbers and conjugates among the complex numbers over a commutative ring.
use Rattle.std.specs.Prelude.{◌≡◌}
use Rattle.std.proofs.Math.Path.{refl, sym}
use Rattle.std.proofs.Common.{◌∙◌, ⊎_elim, arith}
use Prim.Native.Nat.{ℕ, zero, suc, ◌%◌, ◌<◌}
use Rattle.amplitudelaws.specs.Arithmetic.{Amplitude}
use Rattle.amplitudelaws.specs.Projection.{minus}
use Rattle.amplitudelaws.specs.Book.Ring.{Ring, ring}
use Rattle.amplitudelaws.specs.Book.Complex.{complex, real, i, conj, pow, ipow, sgn}
use Rattle.amplitudelaws.specs.Book.Signs.{parity, sign_even, sign_odd, pow_double}

pub pair : {R : Type 0} {a b c d : R} → a ≡ b → c ≡ d → ◌≡◌ {A = Amplitude R} (record { re = a; im = c }) (record { re = b; im = d })
pair p q = cc

module _ {R : Type 0} (𝓡 : Ring R) (a b c d : R) where
  open 𝓡 use {add, mul, neg}

  swapped : mul (mul a b) (mul c d) ≡ mul (mul a c) (mul b d)
  swapped = simp ring

  conj_re : add (mul a c) (neg (mul b d)) ≡ add (mul a c) (neg (mul (neg b) (neg d)))
  conj_re = simp ring

  conj_im : neg (add (mul a d) (mul b c)) ≡ add (mul a (neg d)) (mul (neg b) c)
  conj_im = simp ring

module _ {R : Type 0} (𝓡 : Ring R) where
  open complex 𝓡 use {add as ◌+ᶜ◌, mul as ◌*ᶜ◌, neg as -ᶜ◌}

  infixl 60 ◌+ᶜ◌
  infixl 70 ◌*ᶜ◌
  infix 80 -ᶜ◌
  pub conj_mul : (a b : Amplitude R) → conj 𝓡 (a *ᶜ b) ≡ conj 𝓡 a *ᶜ conj 𝓡 b
  unfolding complex conj
  conj_mul a b = pair (conj_re 𝓡 a.re a.im b.re b.im) (conj_im 𝓡 a.re a.im b.re b.im)

  conj_i : conj 𝓡 (i 𝓡) ≡ (-ᶜ (complex 𝓡).one) *ᶜ i 𝓡
  unfolding complex conj i
  conj_i = simp ring

  conj_one : conj 𝓡 (complex 𝓡).one ≡ (complex 𝓡).one
  unfolding complex conj
  conj_one = simp ring

  -- conj (i^k) = (-1)^k i^k
  pub conj_pow : (k : ℕ) → conj 𝓡 (ipow 𝓡 k) ≡ sgn 𝓡 k *ᶜ ipow 𝓡 k
  unfolding pow
  conj_pow zero = conj_one ∙ sym ((complex 𝓡).one_mul (complex 𝓡).one)
  conj_pow (suc k) = conj_mul (i 𝓡) (ipow 𝓡 k) ∙ rw (conj_i, conj_pow k) (swapped (complex 𝓡) (-ᶜ (complex 𝓡).one) (i 𝓡) (sgn 𝓡 k) (ipow 𝓡 k))

  pub real_mul : (a b : R) → real 𝓡 (𝓡.mul a b) ≡ real 𝓡 a *ᶜ real 𝓡 b
  unfolding complex real
  real_mul a b = simp ring

  pub real_add : (a b : R) → real 𝓡 (𝓡.add a b) ≡ real 𝓡 a +ᶜ real 𝓡 b
  unfolding complex real
  real_add a b = simp ring

  pub real_one : real 𝓡 𝓡.one ≡ (complex 𝓡).one
  unfolding complex real
  real_one = refl

  -- i^k for an even k
  pub pow_minus : (k : ℕ) → k < 4 → k % 2 ≡ 0 → ipow 𝓡 k ≡ sgn 𝓡 (minus k)
  unfolding minus
  pow_minus zero p e = pow_double 𝓡 0
  pow_minus (suc zero) p e = absurd (omega arith)
  pow_minus (suc (suc zero)) p e = pow_double 𝓡 1
  pow_minus (suc (suc (suc zero))) p e = absurd (omega arith)
  pow_minus (suc (suc (suc (suc k)))) p e = absurd (omega arith)

  pub conj_none : conj 𝓡 (complex 𝓡).zero ≡ (complex 𝓡).zero
  unfolding complex conj
  conj_none = simp ring

  conj_minus : conj 𝓡 (-ᶜ (complex 𝓡).one) ≡ -ᶜ (complex 𝓡).one
  unfolding complex conj
  conj_minus = simp ring

  pub conj_sign : (e : ℕ) → conj 𝓡 (sgn 𝓡 e) ≡ sgn 𝓡 e
  conj_sign e = ⊎_elim (λ p. rw (sign_even (complex 𝓡) e p) conj_one) (λ p. rw (sign_odd (complex 𝓡) e p) conj_minus) (parity e)
