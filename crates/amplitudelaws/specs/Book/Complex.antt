-- The complex numbers over a commutative ring, and the ring as an arithmetic in which the formulas are read without rounding.
use Rattle.std.specs.Prelude.{ℕ, zero, suc}
use Rattle.amplitudelaws.specs.Arithmetic.{Amplitude, Arithmetic}
use Rattle.amplitudelaws.specs.Book.Ring.{Ring, ring}

module _ {R : Type 0} (𝓡 : Ring R) where
  open 𝓡 use {add, mul, neg, zero as nought, one}

  -- h stands for 1 / sqrt 2
  abbrev pub exact : R → Arithmetic R
  exact h = record { nought = nought; one = one; h = h; neg = neg; add = add; sub = λ a b. add a (neg b); mul = mul }

  unfoldable pub complex : Ring (Amplitude R)
  complex = record {
    zero = record { re = nought; im = nought };
    one = record { re = one; im = nought };
    neg = λ a. record { re = neg a.re; im = neg a.im };
    add = λ a b. record { re = add a.re b.re; im = add a.im b.im };
    mul = λ a b. record { re = add (mul a.re b.re) (neg (mul a.im b.im)); im = add (mul a.re b.im) (mul a.im b.re) };
    add_assoc = λ a b c. simp ring;
    add_comm = λ a b. simp ring;
    zero_add = λ a. simp ring;
    neg_add_cancel = λ a. simp ring;
    mul_assoc = λ a b c. simp ring;
    mul_comm = λ a b. simp ring;
    one_mul = λ a. simp ring;
    left_distrib = λ a b c. simp ring;
  }

  unfoldable pub real : R → Amplitude R
  real a = record { re = a; im = nought }

  unfoldable pub i : Amplitude R
  i = record { re = nought; im = one }

  unfoldable pub conj : Amplitude R → Amplitude R
  conj a = record { re = a.re; im = neg a.im }

module _ {R : Type 0} (𝓡 : Ring R) where
  -- a^n
  unfoldable pub pow : R → ℕ → R
  pow a zero = 𝓡.one
  pow a (suc n) = 𝓡.mul a (pow a n)

  -- (-1)^e
  abbrev pub sign : ℕ → R
  sign = pow (𝓡.neg 𝓡.one)

module _ {R : Type 0} (𝓡 : Ring R) where
  -- i^k, and (-1)^e among the complex numbers
  abbrev pub ipow : ℕ → Amplitude R
  ipow = pow (complex 𝓡) (i 𝓡)

  abbrev pub sgn : ℕ → Amplitude R
  sgn = sign (complex 𝓡)
