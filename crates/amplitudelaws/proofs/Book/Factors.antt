-- The entries of X^x Z^z on n qubits: column b has (-1)^(b.z) in row b xor x, and else 0.
use Rattle.std.specs.Prelude.{◌≡◌, Bool}
use Rattle.std.proofs.Math.Path.{refl, ap₂}
use Rattle.std.proofs.Common.{sym, ap, ◌∙◌}
use Rattle.std.proofs.Math.Bool.{true, false, cond}
use Prim.Native.Nat.{ℕ, zero, suc, ◌+◌, ◌/◌, ◌%◌, ◌^◌, ◌<◌, min}
use native.Mathlib.Omega.{arith}
use Rattle.std.specs.Int.Bits.{bit_xor, differ, xor_step}
use Rattle.std.proofs.lemmas.Nat.{xor_shr}
use Rattle.std.proofs.Math.Dec.{eqb}
use borrow.Author.Tests.{eqb-true, eqb-false, eq-eqb, ne_eqb}
use Rattle.bitlaws.specs.Digit.{bit_of, mod_two}
use Rattle.bitlaws.specs.Bitwise.{xor_odd}
use Rattle.bitlaws.specs.Parity.{parity, overlap, ones_and}
use Rattle.bitlaws.proofs.Parity.{overlap_zero_r}
use Rattle.amplitudelaws.specs.Arithmetic.{Amplitude}
use Rattle.amplitudelaws.specs.Book.Ring.{Ring, ring, zero_mul, mul_zero}
use Rattle.amplitudelaws.specs.Book.Complex.{complex, pow, sgn}
use Rattle.amplitudelaws.specs.Book.Signs.{sign_same, sign_add}
use Rattle.amplitudelaws.specs.Book.Sum.{sum}
use Rattle.amplitudelaws.specs.Book.Matrix.{identity, joined, tensor}
use Rattle.amplitudelaws.specs.Book.Operators.{bit_flip, phase_flip, once, factor, factors}

-- a digit is 0 or 1
pub as_bit_lem : (d : ℕ) → d < 2 → d ≡ bit_of (eqb d 1)
as_bit_lem zero l = refl
as_bit_lem (suc zero) l = refl
as_bit_lem (suc (suc d)) l = absurd (omega arith)

-- the digits of a tell whether it is b xor x
module _ (a b x : ℕ) where
  digits : a / 2 ≡ bit_xor (b / 2) (x / 2) → a % 2 ≡ differ (b % 2) (x % 2) → a ≡ bit_xor b x
  digits p q = omega (arith, xor_step b x)

  upper : a ≡ bit_xor b x → a / 2 ≡ bit_xor (b / 2) (x / 2)
  upper e = ap (λ (n : ℕ). n / 2) e ∙ xor_shr b x 1

  lower : a ≡ bit_xor b x → a % 2 ≡ differ (b % 2) (x % 2)
  lower e = ap (λ (n : ℕ). n % 2) e ∙ xor_odd b x

overlap_step : (b z : ℕ) → (overlap (b / 2) (z / 2) + min (b % 2) (z % 2)) % 2 ≡ overlap b z % 2
unfolding overlap parity
overlap_step b z = omega (arith, ones_and b z)

module _ {R : Type 0} (𝓡 : Ring R) where
  open complex 𝓡 use {mul as ◌*ᶜ◌, zero as nought}

  infixl 70 ◌*ᶜ◌
  -- ---- one qubit

  -- row a, column b of X^x Z^z, where differ is the xor of two digits and min their and
  abbrev entry : ℕ → ℕ → ℕ → ℕ → Amplitude R
  entry x z a b = cond (eqb a (differ b x)) (sgn 𝓡 (min b z)) nought

  factor_bits : (x z a b : Bool) → factor 𝓡 (bit_of x) (bit_of z) (bit_of a) (bit_of b) ≡ entry (bit_of x) (bit_of z) (bit_of a) (bit_of b)
  unfolding factor joined sum once bit_flip phase_flip identity pow
  factor_bits false false false false = simp ring
  factor_bits false false false true = simp ring
  factor_bits false false true false = simp ring
  factor_bits false false true true = simp ring
  factor_bits false true false false = simp ring
  factor_bits false true false true = simp ring
  factor_bits false true true false = simp ring
  factor_bits false true true true = simp ring
  factor_bits true false false false = simp ring
  factor_bits true false false true = simp ring
  factor_bits true false true false = simp ring
  factor_bits true false true true = simp ring
  factor_bits true true false false = simp ring
  factor_bits true true false true = simp ring
  factor_bits true true true false = simp ring
  factor_bits true true true true = simp ring

  factor_entry : (x z a b : ℕ) → x < 2 → z < 2 → a < 2 → b < 2 → factor 𝓡 x z a b ≡ entry x z a b
  factor_entry x z a b p q r s = rw (as_bit_lem x p, as_bit_lem z q, as_bit_lem a r, as_bit_lem b s) (factor_bits (eqb x 1) (eqb z 1) (eqb a 1) (eqb b 1))

  -- ---- n qubits

  pub factors_entry : (n x z a b : ℕ) → x < 2 ^ n → z < 2 ^ n → a < 2 ^ n → b < 2 ^ n
      → factors 𝓡 n x z a b ≡ cond (eqb a (bit_xor b x)) (sgn 𝓡 (overlap b z)) nought
  unfolding factors tensor identity pow
  factors_entry zero x z a b hx hz ha hb =
      let x0 : x ≡ 0 = omega arith in
      let z0 : z ≡ 0 = omega arith in
      let a0 : a ≡ 0 = omega arith in
      let b0 : b ≡ 0 = omega arith in
      rw (x0, z0, a0, b0, overlap_zero_r 0)
  factors_entry (suc n) x z a b hx hz ha hb =
      ap₂ ◌*ᶜ◌ (factors_entry n (x / 2) (z / 2) (a / 2) (b / 2) (omega arith) (omega arith) (omega arith) (omega arith))
      (factor_entry (x % 2) (z % 2) (a % 2) (b % 2) (mod_two x) (mod_two z) (mod_two a) (mod_two b))
      ∙ go (eqb (a / 2) (bit_xor (b / 2) (x / 2))) (eqb (a % 2) (differ (b % 2) (x % 2))) refl refl
    where
      go : (s t : Bool) → eqb (a / 2) (bit_xor (b / 2) (x / 2)) ≡ s → eqb (a % 2) (differ (b % 2) (x % 2)) ≡ t
          → cond s (sgn 𝓡 (overlap (b / 2) (z / 2))) nought *ᶜ cond t (sgn 𝓡 (min (b % 2) (z % 2))) nought ≡ cond (eqb a (bit_xor b x)) (sgn 𝓡 (overlap b z)) nought
      go true true p q =
          rw (eq-eqb a (bit_xor b x) (digits a b x (eqb-true _ _ p) (eqb-true _ _ q)))
          (sym (sign_add (complex 𝓡) (overlap (b / 2) (z / 2)) (min (b % 2) (z % 2)))
          ∙ sign_same (complex 𝓡) (overlap (b / 2) (z / 2) + min (b % 2) (z % 2)) (overlap b z) (overlap_step b z))
      go true false p q = rw (ne_eqb a (bit_xor b x) (λ e. eqb-false _ _ q (lower a b x e))) (mul_zero (complex 𝓡) (sgn 𝓡 (overlap (b / 2) (z / 2))))
      go false t p q = rw (ne_eqb a (bit_xor b x) (λ e. eqb-false _ _ p (upper a b x e))) (zero_mul (complex 𝓡) (cond t (sgn 𝓡 (min (b % 2) (z % 2))) nought))
