-- Powers of -1 in a commutative ring, and of i in its complex numbers.
use Rattle.std.specs.Prelude.{◌≡◌, ◌⊎◌}
use Rattle.std.proofs.Math.Path.{refl}
use Rattle.std.proofs.Common.{sym, ap, ◌∙◌, inl, inr, ⊎_elim, zero-add, suc-add}
use Prim.Native.Nat.{ℕ, zero, suc, ◌+◌, ◌*◌, ◌/◌, ◌%◌}
use native.Mathlib.Omega.{arith}
use Rattle.bitlaws.specs.Order.{le_or_lt}
use Rattle.amplitudelaws.specs.Book.Ring.{Ring, ring}
use Rattle.amplitudelaws.specs.Book.Complex.{complex, i, pow, sign, ipow, sgn}

pub parity : (e : ℕ) → (e % 2 ≡ 0) ⊎ (e % 2 ≡ 1)
parity e = ⊎_elim (λ l. inl (omega arith)) (λ l. inr (omega arith)) (le_or_lt (e % 2) 0)

module _ {R : Type 0} (𝓡 : Ring R) where
  open 𝓡 use {add, mul, neg, zero as nought, one}

  pub sign_suc : (e : ℕ) → sign 𝓡 (suc e) ≡ neg (sign 𝓡 e)
  unfolding pow
  sign_suc e = simp ring

  pub sign_even : (e : ℕ) → e % 2 ≡ 0 → sign 𝓡 e ≡ one
  unfolding pow
  sign_even zero p = refl
  sign_even (suc zero) p = absurd (omega arith)
  sign_even (suc (suc e)) p = rw (sign_suc (suc e), sign_suc e, sign_even e (omega arith)) (simp ring)

  pub sign_odd : (e : ℕ) → e % 2 ≡ 1 → sign 𝓡 e ≡ neg one
  sign_odd zero p = absurd (omega arith)
  sign_odd (suc e) p = rw (sign_suc e, sign_even e (omega arith))

  pub sign_same : (a b : ℕ) → a % 2 ≡ b % 2 → sign 𝓡 a ≡ sign 𝓡 b
  sign_same a b p =
      ⊎_elim (λ q. rw (sign_even a q, sign_even b (omega arith))) (λ q. rw (sign_odd a q, sign_odd b (omega arith))) (parity a)

  pub sign_add : (a b : ℕ) → sign 𝓡 (a + b) ≡ mul (sign 𝓡 a) (sign 𝓡 b)
  sign_add a b =
      ⊎_elim (λ p. ⊎_elim (λ q. rw (sign_even (a + b) (omega arith), sign_even a p, sign_even b q) (simp ring)) (λ q. rw (sign_odd (a + b) (omega arith), sign_even a p, sign_odd b q) (simp ring)) (parity b))
      (λ p. ⊎_elim (λ q. rw (sign_odd (a + b) (omega arith), sign_odd a p, sign_even b q) (simp ring)) (λ q. rw (sign_even (a + b) (omega arith), sign_odd a p, sign_odd b q) (simp ring)) (parity b))
      (parity a)

  pub sign_square : (e : ℕ) → mul (sign 𝓡 e) (sign 𝓡 e) ≡ one
  sign_square e = sym (sign_add e e) ∙ sign_even (e + e) (omega arith)

  pub pow_suc : (a : R) (n : ℕ) → pow 𝓡 a (suc n) ≡ mul a (pow 𝓡 a n)
  unfolding pow
  pow_suc a n = refl

  pub pow_add : (a : R) (m n : ℕ) → pow 𝓡 a (m + n) ≡ mul (pow 𝓡 a m) (pow 𝓡 a n)
  unfolding pow
  pow_add a zero n = rw (zero-add n) (simp ring)
  pow_add a (suc m) n = rw (suc-add m n, pow_suc a (m + n), pow_add a m n) (sym (𝓡.mul_assoc a (pow 𝓡 a m) (pow 𝓡 a n)))

module _ {R : Type 0} (𝓡 : Ring R) where
  open complex 𝓡 use {add, mul, neg, zero as nought, one}

  pub i_square : mul (i 𝓡) (i 𝓡) ≡ neg one
  unfolding complex i
  i_square = simp ring

  -- i^(2n) = (-1)^n
  pub pow_double : (n : ℕ) → ipow 𝓡 (2 * n) ≡ sgn 𝓡 n
  unfolding pow
  pow_double zero = refl
  pow_double (suc n) =
      let e : 2 * suc n ≡ suc (suc (2 * n)) = omega arith in
      rw e (sym ((complex 𝓡).mul_assoc (i 𝓡) (i 𝓡) (ipow 𝓡 (2 * n))) ∙ rw (i_square, pow_double n))

  -- the exponent counts modulo 4
  pub pow_mod : (m n : ℕ) → m % 4 ≡ n % 4 → ipow 𝓡 m ≡ ipow 𝓡 n
  pow_mod m n e = fourth m ∙ ap (ipow 𝓡) e ∙ sym (fourth n)
    where
      fourth : (m : ℕ) → ipow 𝓡 m ≡ ipow 𝓡 (m % 4)
      fourth m =
          let d : m ≡ 2 * (2 * (m / 4)) + m % 4 = omega arith in
          ap (ipow 𝓡) d ∙ pow_add (complex 𝓡) (i 𝓡) (2 * (2 * (m / 4))) (m % 4)
          ∙ rw (pow_double (2 * (m / 4)), sign_even (complex 𝓡) (2 * (m / 4)) (omega arith)) ((complex 𝓡).one_mul (ipow 𝓡 (m % 4)))
