-- A complex amplitude, and the arithmetic in which the formulas are written: binary64 with each rounding, or an exact one.
use Rattle.std.specs.Prelude.{◌≡◌, Bool, ℕ, zero, suc, ◌%◌, eqb}
use Rattle.std.proofs.Math.Path.{ap}
use Rattle.std.proofs.Math.Bool.{cond}
use Rattle.bitlaws.specs.Digit.{bit_of, bit_odd}

pub record Amplitude (R : Type 0) : Type 0 where
  pub re : R
  pub im : R

-- h is 1 / sqrt 2
pub record Arithmetic (R : Type 0) : Type 0 where
  pub nought : R
  pub one : R
  pub h : R
  pub neg : R → R
  pub add : R → R → R
  pub sub : R → R → R
  pub mul : R → R → R

module _ {R : Type 0} (A : Arithmetic R) where
  open A use {nought, one, neg, add, sub, mul}

  -- i^k, for k in 0..3
  unfoldable pub power : ℕ → Amplitude R
  power zero = record { re = one; im = nought }
  power (suc zero) = record { re = nought; im = one }
  power (suc (suc zero)) = record { re = neg one; im = nought }
  power (suc (suc (suc k))) = record { re = nought; im = neg one }

  -- the complex product
  unfoldable pub times : Amplitude R → Amplitude R → Amplitude R
  times a b = record {
    re = sub (mul a.re b.re) (mul a.im b.im);
    im = add (mul a.re b.im) (mul a.im b.re);
  }

  unfoldable pub conjugate : Amplitude R → Amplitude R
  conjugate a = record { re = a.re; im = neg a.im }

  -- i^e a, for e in 0..3, by exchanging and negating parts
  unfoldable pub times_power : ℕ → Amplitude R → Amplitude R
  times_power zero a = a
  times_power (suc zero) a = record { re = neg a.im; im = a.re }
  times_power (suc (suc zero)) a = record { re = neg a.re; im = neg a.im }
  times_power (suc (suc (suc e))) a = record { re = a.im; im = neg a.re }

  -- -1 where e is odd, else 1
  unfoldable pub direction : ℕ → R
  direction e = cond (eqb (e % 2) 1) (neg one) one

  -- only the parity of e counts
  pub direction_bit : (e : ℕ) → direction (bit_of (eqb (e % 2) 1)) ≡ direction e
  unfolding direction
  direction_bit e = ap (λ (t : Bool). cond t (neg one) one) (bit_odd (eqb (e % 2) 1))

  unfoldable pub negated : Bool → Amplitude R → Amplitude R
  negated t a = record { re = cond t (neg a.re) a.re; im = cond t (neg a.im) a.im }

  -- each part times c, c first and c last
  unfoldable pub scale : R → Amplitude R → Amplitude R
  scale c a = record { re = mul c a.re; im = mul c a.im }

  unfoldable pub scaled : Amplitude R → R → Amplitude R
  scaled a c = record { re = mul a.re c; im = mul a.im c }

  -- c p + u q, for a real c
  unfoldable pub mixed : R → Amplitude R → Amplitude R → Amplitude R → Amplitude R
  mixed c u p q = record {
    re = sub (add (mul c p.re) (mul u.re q.re)) (mul u.im q.im);
    im = add (add (mul c p.im) (mul u.re q.im)) (mul u.im q.re);
  }
