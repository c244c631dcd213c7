-- Over any commutative ring the formulas of correction and rotation are the matrices of the Pauli and of its rotation.
use Rattle.std.specs.Prelude.{◌≡◌, Bool, eqb}
use Rattle.std.proofs.Math.Path.{refl, sym, ap, ap₂}
use Rattle.std.proofs.Common.{◌∙◌, arith}
use Rattle.std.proofs.Math.Bool.{true, false}
use Prim.Native.Nat.{ℕ, ◌+◌, ◌*◌, ◌%◌, ◌^◌, ◌<◌}
use borrow.Author.Tests.{eqb-true}
use Rattle.std.specs.Int.Bits.{bit_xor, xor_zero_r}
use Rattle.bitlaws.specs.Parity.{overlap}
use Rattle.bitlaws.proofs.Parity.{overlap_zero_r}
use Rattle.paulilaws.specs.Pauli.{Pauli, hermitian}
use Rattle.paulilaws.specs.Fitting.{Fitting}
use Rattle.paulilaws.proofs.Algebra.{hermitian_parity}
use Rattle.amplitudelaws.specs.Arithmetic.{Amplitude, direction, negated, scale}
use Rattle.amplitudelaws.specs.Rotation.{rotation_coefficient, rotated_by, rotated}
use Rattle.amplitudelaws.specs.Correction.{corrected}
use Rattle.amplitudelaws.specs.Book.Ring.{Ring, ring}
use Rattle.amplitudelaws.specs.Book.Complex.{exact, complex, real, i, ipow, sgn}
use Rattle.amplitudelaws.specs.Book.Signs.{sign_add, sign_same, sign_square, pow_add, pow_double, i_square}
use Rattle.amplitudelaws.specs.Book.Reals.{real_mul, real_add}
use Rattle.amplitudelaws.proofs.Book.Parts.{mixed_is, alone_is, with_is, directed_is, negated_is, negated_imaginary, times_power_is}
use Rattle.amplitudelaws.proofs.Book.Parts.{rotation_coefficient_is, rotation_coefficient_imaginary}
use Rattle.amplitudelaws.specs.Book.Matrix.{identity, multiple, applied, applied_same, applied_plus, applied_multiple, applied_identity}
use Rattle.amplitudelaws.specs.Book.Operators.{pauli, turning}
use Rattle.amplitudelaws.proofs.Book.Action.{act, pauli_acts}
use Rattle.amplitudelaws.proofs.Book.Part.{act_square}

-- ---- rearrangements

module _ {R : Type 0} (𝓡 : Ring R) where
  open 𝓡 use {add as ◌+ᶜ◌, mul as ◌*ᶜ◌, neg as -ᶜ◌}

  infixl 60 ◌+ᶜ◌
  infixl 70 ◌*ᶜ◌
  infix 80 -ᶜ◌
  -- the signs d and g, the coefficient - j s k, the amplitude q
  gathered : (d g j s k q : R) → d *ᶜ g *ᶜ (-ᶜ (j *ᶜ s) *ᶜ k) *ᶜ q ≡ -ᶜ (j *ᶜ s *ᶜ d) *ᶜ (k *ᶜ g *ᶜ q)
  gathered d g j s k q = simp ring

  spread : (k g u w f a : R) → k *ᶜ g *ᶜ (u *ᶜ f +ᶜ w *ᶜ a) ≡ u *ᶜ (k *ᶜ g *ᶜ f) +ᶜ w *ᶜ (k *ᶜ g *ᶜ a)
  spread k g u w f a = simp ring

  -- (c - j s d P) (c' - j s' d P) on f and P f = a, P a being f
  multiplied : (c c' s s' j d f a : R)
      → c *ᶜ (c' *ᶜ f +ᶜ -ᶜ (j *ᶜ s' *ᶜ d) *ᶜ a) +ᶜ -ᶜ (j *ᶜ s *ᶜ d) *ᶜ (c' *ᶜ a +ᶜ -ᶜ (j *ᶜ s' *ᶜ d) *ᶜ f)
      ≡ (c *ᶜ c' +ᶜ j *ᶜ j *ᶜ (d *ᶜ d) *ᶜ (s *ᶜ s')) *ᶜ f +ᶜ -ᶜ (j *ᶜ (s *ᶜ c' +ᶜ c *ᶜ s') *ᶜ d) *ᶜ a
  multiplied c c' s s' j d f a = simp ring

module _ {R : Type 0} (𝓡 : Ring R) where
  open 𝓡 use {add, mul, neg}
  open complex 𝓡 use {add as ◌+ᶜ◌, mul as ◌*ᶜ◌, neg as -ᶜ◌, one}

  infixl 60 ◌+ᶜ◌
  infixl 70 ◌*ᶜ◌
  infix 80 -ᶜ◌
  -- - i s, or i s where the sign e is 1
  abbrev pub slope : ℕ → R → Amplitude R
  slope e s = -ᶜ (i 𝓡 *ᶜ real 𝓡 s *ᶜ sgn 𝓡 e)

  -- ---- the formulas, by the Pauli's action

  corrected_acts : (h : R) (P : Pauli) (F : ℕ → Amplitude R) (b : ℕ) → corrected (exact 𝓡 h) P F b ≡ act 𝓡 P F b
  unfolding corrected act
  corrected_acts h P F b =
      let o : ℕ = bit_xor b P.x in
      let f : ℕ = overlap o P.z in
      times_power_is 𝓡 h (P.k + 2 * f) (F o) ∙ rw (pow_add (complex 𝓡) (i 𝓡) P.k (2 * f), pow_double 𝓡 f)

  module _ (h : R) (P : Pauli) (e : ℕ) (c s : R) (F : ℕ → Amplitude R) (b : ℕ) (small : P.k < 4) (even : P.k % 2 ≡ overlap P.x P.z) where
    abbrev o : ℕ
    o = bit_xor b P.x

    abbrev m : Amplitude R
    m = rotation_coefficient (exact 𝓡 h) P.k s

    -- the second term where t stands before the partner's amplitude: t is m with the signs e and f
    tail : (t : Amplitude R) (f : ℕ) (q : Amplitude R) → t ≡ sgn 𝓡 (e + f) *ᶜ m → t *ᶜ q ≡ slope e s *ᶜ (ipow 𝓡 P.k *ᶜ sgn 𝓡 f *ᶜ q)
    tail t f q is =
        ap (λ (a : Amplitude R). a *ᶜ q) is
        ∙ rw (rotation_coefficient_is 𝓡 h P.k s small, sign_add (complex 𝓡) e f) (gathered (complex 𝓡) (sgn 𝓡 e) (sgn 𝓡 f) (i 𝓡) (real 𝓡 s) (ipow 𝓡 P.k) q)

    by_parts : (t u : Bool) → eqb P.x 0 ≡ t → eqb P.z 0 ≡ u
        → rotated_by (exact 𝓡 h) t u P.x P.z e c m F b ≡ real 𝓡 c *ᶜ F b +ᶜ slope e s *ᶜ act 𝓡 P F b
    unfolding rotated_by act
    by_parts true u no-x _ =
        let here : b ≡ o = sym (ap (bit_xor b) (eqb-true P.x 0 no-x) ∙ xor_zero_r b) in
        let f : ℕ = overlap b P.z in
        let t : Amplitude R = negated (exact 𝓡 h) (eqb ((e + f) % 2) 1) m in
        alone_is 𝓡 h c t (F b)
        ∙ ap (◌+ᶜ◌ (real 𝓡 c *ᶜ F b))
        (tail t f (F b) (negated_is 𝓡 h (e + f) m) ∙ ap (λ (a : ℕ). slope e s *ᶜ (ipow 𝓡 P.k *ᶜ sgn 𝓡 (overlap a P.z) *ᶜ F a)) here)
    by_parts false true _ no-z =
        let flat : P.z ≡ 0 = eqb-true P.z 0 no-z in
        let none : overlap o P.z ≡ 0 = ap (overlap o) flat ∙ overlap_zero_r o in
        let real-phase : P.k % 2 ≡ 0 = even ∙ ap (overlap P.x) flat ∙ overlap_zero_r P.x in
        let t : Amplitude R = negated (exact 𝓡 h) (eqb (e % 2) 1) m in
        with_is 𝓡 h c t (F b) (F o) (negated_imaginary 𝓡 h (eqb (e % 2) 1) m (rotation_coefficient_imaginary 𝓡 h P.k s small real-phase))
        ∙ ap (◌+ᶜ◌ (real 𝓡 c *ᶜ F b))
        (tail t (overlap o P.z) (F o)
        (negated_is 𝓡 h e m ∙ ap (λ (a : Amplitude R). a *ᶜ m) (sign_same (complex 𝓡) e (e + overlap o P.z) (omega arith))))
    by_parts false false _ _ =
        let f : ℕ = overlap o P.z in
        let t : Amplitude R = scale (exact 𝓡 h) (direction (exact 𝓡 h) (e + f)) m in
        mixed_is 𝓡 h c t (F b) (F o) ∙ ap (◌+ᶜ◌ (real 𝓡 c *ᶜ F b)) (tail t f (F o) (directed_is 𝓡 h (e + f) m))

  rotated_acts : (h : R) (P : Pauli) (e : ℕ) (c s : R) (F : ℕ → Amplitude R) (b : ℕ) → Fitting P → hermitian P ≡ true
      → rotated (exact 𝓡 h) P e c s F b ≡ real 𝓡 c *ᶜ F b +ᶜ slope e s *ᶜ act 𝓡 P F b
  unfolding rotated
  rotated_acts h P e c s F b fitting even =
      by_parts h P e c s F b (omega (arith, fitting.phase)) (hermitian_parity P even) (eqb P.x 0) (eqb P.z 0) refl refl

  -- ---- the formulas as matrices

  pub corrected_is_book : (h : R) (P : Pauli) → Fitting P → (F : ℕ → Amplitude R) (b : ℕ) → b < 2 ^ P.n
      → corrected (exact 𝓡 h) P F b ≡ applied 𝓡 (2 ^ P.n) (pauli 𝓡 P) F b
  corrected_is_book h P fitting F b l = corrected_acts h P F b ∙ sym (pauli_acts 𝓡 P fitting F b l)

  pub turning_acts : (P : Pauli) (e : ℕ) (c s : R) (F : ℕ → Amplitude R) (b : ℕ) → Fitting P → b < 2 ^ P.n
      → applied 𝓡 (2 ^ P.n) (turning 𝓡 P e c s) F b ≡ real 𝓡 c *ᶜ F b +ᶜ slope e s *ᶜ act 𝓡 P F b
  unfolding turning
  turning_acts P e c s F b fitting l =
      let size : ℕ = 2 ^ P.n in
      let u : Amplitude R = real 𝓡 c in
      let w : Amplitude R = slope e s in
      applied_plus 𝓡 size (multiple 𝓡 u (identity 𝓡)) (multiple 𝓡 w (pauli 𝓡 P)) F b
      ∙ ap₂ ◌+ᶜ◌ (applied_multiple 𝓡 size u (identity 𝓡) F b ∙ ap (◌*ᶜ◌ u) (applied_identity 𝓡 size F b l))
      (applied_multiple 𝓡 size w (pauli 𝓡 P) F b ∙ ap (◌*ᶜ◌ w) (pauli_acts 𝓡 P fitting F b l))

  pub rotated_is_book : (h : R) (P : Pauli) (e : ℕ) (c s : R) (F : ℕ → Amplitude R) (b : ℕ) → Fitting P → hermitian P ≡ true → b < 2 ^ P.n
      → rotated (exact 𝓡 h) P e c s F b ≡ applied 𝓡 (2 ^ P.n) (turning 𝓡 P e c s) F b
  rotated_is_book h P e c s F b fitting even l = rotated_acts h P e c s F b fitting even ∙ sym (turning_acts P e c s F b fitting l)

  -- ---- the sum of angles

  pub act_linear : (P : Pauli) (u w : Amplitude R) (F G : ℕ → Amplitude R) (b : ℕ)
      → act 𝓡 P (λ a. u *ᶜ F a +ᶜ w *ᶜ G a) b ≡ u *ᶜ act 𝓡 P F b +ᶜ w *ᶜ act 𝓡 P G b
  unfolding act
  act_linear P u w F G b = let o : ℕ = bit_xor b P.x in spread (complex 𝓡) (ipow 𝓡 P.k) (sgn 𝓡 (overlap o P.z)) u w (F o) (G o)

  -- i i s s'
  opposite : (s s' : R) → -ᶜ one *ᶜ one *ᶜ (real 𝓡 s *ᶜ real 𝓡 s') ≡ real 𝓡 (neg (mul s s'))
  unfolding complex real
  opposite s s' = simp ring

  -- One rotation of a Pauli after another is the rotation by the sum of the angles, by the cosine and the sine of a sum.
  pub turnings_add : (P : Pauli) (e : ℕ) (c s c' s' : R) (F : ℕ → Amplitude R) (b : ℕ) → Fitting P → hermitian P ≡ true → b < 2 ^ P.n
      → applied 𝓡 (2 ^ P.n) (turning 𝓡 P e c s) (applied 𝓡 (2 ^ P.n) (turning 𝓡 P e c' s') F) b
      ≡ applied 𝓡 (2 ^ P.n) (turning 𝓡 P e (add (mul c c') (neg (mul s s'))) (add (mul s c') (mul c s'))) F b
  turnings_add P e c s c' s' F b fitting even l =
      let d : Amplitude R = sgn 𝓡 e in
      let u : Amplitude R = real 𝓡 c' in
      let w : Amplitude R = slope e s' in
      let a : Amplitude R = act 𝓡 P F b in
      let cosine : real 𝓡 c *ᶜ u +ᶜ i 𝓡 *ᶜ i 𝓡 *ᶜ (d *ᶜ d) *ᶜ (real 𝓡 s *ᶜ real 𝓡 s') ≡ real 𝓡 (add (mul c c') (neg (mul s s')))
      = ap₂ (λ (p q : Amplitude R). real 𝓡 c *ᶜ u +ᶜ p *ᶜ q *ᶜ (real 𝓡 s *ᶜ real 𝓡 s')) (i_square 𝓡) (sign_square (complex 𝓡) e)
      ∙ ap₂ ◌+ᶜ◌ (sym (real_mul 𝓡 c c')) (opposite s s') ∙ sym (real_add 𝓡 (mul c c') (neg (mul s s'))) in
      let sine : real 𝓡 s *ᶜ u +ᶜ real 𝓡 c *ᶜ real 𝓡 s' ≡ real 𝓡 (add (mul s c') (mul c s'))
      = sym (real_add 𝓡 (mul s c') (mul c s') ∙ ap₂ ◌+ᶜ◌ (real_mul 𝓡 s c') (real_mul 𝓡 c s')) in
      applied_same 𝓡 (2 ^ P.n) (turning 𝓡 P e c s) (applied 𝓡 (2 ^ P.n) (turning 𝓡 P e c' s') F) (λ r. u *ᶜ F r +ᶜ w *ᶜ act 𝓡 P F r)
      (λ r k. turning_acts P e c' s' F r fitting k) b
      ∙ turning_acts P e c s (λ r. u *ᶜ F r +ᶜ w *ᶜ act 𝓡 P F r) b fitting l
      ∙ ap (λ (q : Amplitude R). real 𝓡 c *ᶜ (u *ᶜ F b +ᶜ w *ᶜ a) +ᶜ slope e s *ᶜ q)
      (act_linear P u w F (act 𝓡 P F) b ∙ ap (λ (q : Amplitude R). u *ᶜ a +ᶜ w *ᶜ q) (act_square 𝓡 P even F b))
      ∙ multiplied (complex 𝓡) (real 𝓡 c) u (real 𝓡 s) (real 𝓡 s') (i 𝓡) d (F b) a
      ∙ ap₂ (λ (p q : Amplitude R). p *ᶜ F b +ᶜ -ᶜ (i 𝓡 *ᶜ q *ᶜ d) *ᶜ a) cosine sine
      ∙ sym (turning_acts P e (add (mul c c') (neg (mul s s'))) (add (mul s c') (mul c s')) F b fitting l)
