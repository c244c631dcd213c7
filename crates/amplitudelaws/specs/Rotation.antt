-- The rotation c - i s P, which is exp (- i phi P) where c and s are the cosine and the sine of phi.
use Rattle.std.specs.Prelude.{Bool, true, false, ℕ, ◌+◌, ◌%◌, eqb}
use Rattle.std.specs.Int.Bits.{bit_xor}
use Rattle.bitlaws.specs.Parity.{overlap}
use Rattle.paulilaws.specs.Pauli.{Pauli}
use Rattle.amplitudelaws.specs.Arithmetic.{Amplitude, Arithmetic, power, times, direction, negated, scale, mixed}

module _ {R : Type 0} (A : Arithmetic R) where
  open A use {nought, neg, add, sub, mul}

  -- m = (+0, -s) i^k
  unfoldable pub rotation_coefficient : ℕ → R → Amplitude R
  rotation_coefficient k s = times A (record { re = nought; im = neg s }) (power A k)

  -- x = 0: each amplitude by itself
  unfoldable pub rotated_alone : R → Amplitude R → Amplitude R → Amplitude R
  rotated_alone c t p = record {
    re = sub (mul (add c t.re) p.re) (mul t.im p.im);
    im = add (mul (add c t.re) p.im) (mul t.im p.re);
  }

  -- z = 0: with its partner, by an imaginary t
  unfoldable pub rotated_with : R → Amplitude R → Amplitude R → Amplitude R → Amplitude R
  rotated_with c t p q = record {
    re = sub (mul c p.re) (mul t.im q.im);
    im = add (mul c p.im) (mul t.im q.re);
  }

  -- The three cases, each by the masks that it has and by m. x = 0: by the amplitude's own eigenvalue.
  abbrev pub rotated_diagonal : ℕ → ℕ → R → Amplitude R → (ℕ → Amplitude R) → ℕ → Amplitude R
  rotated_diagonal z sign c m F b = rotated_alone c (negated A (eqb ((sign + overlap b z) % 2) 1) m) (F b)

  -- z = 0: the coefficient is the same for every pair
  abbrev pub rotated_uniform : ℕ → ℕ → R → Amplitude R → (ℕ → Amplitude R) → ℕ → Amplitude R
  rotated_uniform x sign c m F b = rotated_with c (negated A (eqb (sign % 2) 1) m) (F b) (F (bit_xor b x))

  -- otherwise: its sign is by the parity at the partner
  abbrev pub rotated_pairs : ℕ → ℕ → ℕ → R → Amplitude R → (ℕ → Amplitude R) → ℕ → Amplitude R
  rotated_pairs x z sign c m F b =
      let o = bit_xor b x in
      mixed A c (scale A (direction A (sign + overlap o z)) m) (F b) (F o)

  -- which of them: whether x is 0, and whether z is
  unfoldable pub rotated_by : Bool → Bool → ℕ → ℕ → ℕ → R → Amplitude R → (ℕ → Amplitude R) → ℕ → Amplitude R
  rotated_by true u x z sign c m F b = rotated_diagonal z sign c m F b
  rotated_by false true x z sign c m F b = rotated_uniform x sign c m F b
  rotated_by false false x z sign c m F b = rotated_pairs x z sign c m F b

  -- the amplitude at b after the rotation of P by c and s, or by c and -s where sign is 1
  unfoldable pub rotated : Pauli → ℕ → R → R → (ℕ → Amplitude R) → ℕ → Amplitude R
  rotated P sign c s = rotated_by (eqb P.x 0) (eqb P.z 0) P.x P.z sign c (rotation_coefficient P.k s)
