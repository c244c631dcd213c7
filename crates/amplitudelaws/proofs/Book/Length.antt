-- The probability of a branch, before it is clamped, is the squared length of what the branch's projector leaves of the state.
use Rattle.std.specs.Prelude.{◌≡◌}
use Rattle.std.proofs.Math.Path.{refl, sym, ap}
use Rattle.std.proofs.Common.{◌∙◌, eqb-true}
use Rattle.std.proofs.Math.Bool.{Bool}
use Prim.Native.Nat.{ℕ, zero, suc, ◌-◌, ◌^◌}
use Rattle.std.specs.Int.Bits.{bit_xor}
use Rattle.std.proofs.Math.Dec.{eqb}
use Rattle.paulilaws.specs.Pauli.{Pauli}
use Rattle.amplitudelaws.specs.Arithmetic.{Amplitude}
use Rattle.amplitudelaws.specs.Projection.{remaining}
use Rattle.amplitudelaws.specs.Probability.{squared, total, mass}
use Rattle.amplitudelaws.specs.Acting.{Measurable}
use Rattle.amplitudelaws.specs.Book.Ring.{Ring, ring}
use Rattle.amplitudelaws.specs.Book.Complex.{exact, complex, real, conj}
use Rattle.amplitudelaws.specs.Book.Reals.{pair, real_add}
use Rattle.amplitudelaws.specs.Book.Sum.{sum, sum_same, sum_mul}
use Rattle.amplitudelaws.specs.Book.Matrix.{applied}
use Rattle.amplitudelaws.specs.Book.Operators.{squared_length, projector, stretch}
use Rattle.amplitudelaws.proofs.Book.Standing.{basis_read}
use Rattle.amplitudelaws.proofs.Book.Part.{part}
use Rattle.amplitudelaws.proofs.Book.Diagonal.{part_outside}
use Rattle.amplitudelaws.proofs.Book.Remaining.{remaining_part}
use Rattle.amplitudelaws.proofs.Book.Projector.{projector_part}
use Rattle.amplitudelaws.proofs.Book.Halves.{halves}
use Rattle.amplitudelaws.proofs.Book.Paired.{paired}

-- ---- the square of a complex number's length

module _ {R : Type 0} (𝓡 : Ring R) where
  open 𝓡 use {add, mul, neg, zero as nought}

  with_conj : (a b : R) → add (mul a a) (mul b b) ≡ add (mul a a) (neg (mul (neg b) b))
  with_conj a b = simp ring

  no_imaginary : (a b : R) → nought ≡ add (mul a b) (mul (neg b) a)
  no_imaginary a b = simp ring

  with_real : (s a b : R) → add (mul (add (mul s a) (neg (mul nought b))) (add (mul s a) (neg (mul nought b)))) (mul (add (mul s b) (mul nought a)) (add (mul s b) (mul nought a)))
      ≡ mul (mul s s) (add (mul a a) (mul b b))
  with_real s a b = simp ring

module _ {R : Type 0} (𝓡 : Ring R) (h : R) where
  open 𝓡 use {add, mul, zero as nought}
  open complex 𝓡 use {mul as ◌*ᶜ◌}

  infixl 70 ◌*ᶜ◌
  square_conj : (a : Amplitude R) → squared (exact 𝓡 h) a ≡ (conj 𝓡 a *ᶜ a).re
  unfolding squared complex conj
  square_conj a = with_conj 𝓡 a.re a.im

  -- conj(a) a is that square
  conj_square : (a : Amplitude R) → real 𝓡 (squared (exact 𝓡 h) a) ≡ conj 𝓡 a *ᶜ a
  unfolding squared complex conj real
  conj_square a = pair (with_conj 𝓡 a.re a.im) (no_imaginary 𝓡 a.re a.im)

  real_sum : (n : ℕ) (f : ℕ → R) → real 𝓡 (sum 𝓡 n f) ≡ sum (complex 𝓡) n (λ a. real 𝓡 (f a))
  unfolding sum
  real_sum zero f = unfold complex real in refl
  real_sum (suc n) f = real_add 𝓡 (sum 𝓡 n f) (f n) ∙ ap (λ (q : Amplitude R). (complex 𝓡).add q (real 𝓡 (f n))) (real_sum n f)

  square_real : (s : R) (a : Amplitude R) → squared (exact 𝓡 h) (real 𝓡 s *ᶜ a) ≡ mul (mul s s) (squared (exact 𝓡 h) a)
  unfolding squared complex real
  square_real s a = with_real 𝓡 s a.re a.im

  square_none : squared (exact 𝓡 h) (complex 𝓡).zero ≡ nought
  unfolding squared complex
  square_none = simp ring

-- ---- the sum of them

module _ {R : Type 0} (𝓡 : Ring R) (h : R) where
  open 𝓡 use {add, mul, one}
  open complex 𝓡 use {mul as ◌*ᶜ◌}

  infixl 70 ◌*ᶜ◌
  abbrev square : Amplitude R → R
  square = squared (exact 𝓡 h)

  total_sum : (n : ℕ) (f : ℕ → R) → total (exact 𝓡 h) n f ≡ sum 𝓡 n f
  unfolding total sum
  total_sum zero f = refl
  total_sum (suc n) f = ap (λ (q : R). add q (f n)) (total_sum n f)

  module _ (half : add (mul h h) (mul h h) ≡ one) (M : Pauli) (p : ℕ) (ok : Measurable M p) (v : ℕ) (F : ℕ → Amplitude R) where
    -- what the branch has of the state
    abbrev G : ℕ → Amplitude R
    G = part 𝓡 h M v F

    pairs : (b : ℕ) → square (G (bit_xor b M.x)) ≡ square (G b)
    pairs b =
        square_conj 𝓡 h (G (bit_xor b M.x)) ∙ ap (λ (a : Amplitude R). a.re) (paired 𝓡 M ok.real h v F F b) ∙ sym (square_conj 𝓡 h (G b))

    mass_is_length : mass (exact 𝓡 h) M p v (2 ^ (M.n - 1)) F
        ≡ sum 𝓡 (2 ^ M.n) (λ a. squared (exact 𝓡 h) (applied 𝓡 (2 ^ M.n) (projector 𝓡 h M v) F a))
    unfolding mass
    mass_is_length =
        let count : ℕ = 2 ^ (M.n - 1) in
        let d : Bool = eqb M.x 0 in
        let s : R = stretch 𝓡 h d in
        let left : ℕ → R = λ j. square (remaining (exact 𝓡 h) M p v F j) in
        let read : ℕ → R = λ j. square (G (basis_read d M p v j)) in
        total_sum count left
        ∙ sum_same 𝓡 count left (λ j. mul (mul s s) (read j)) (λ j l. ap square (remaining_part 𝓡 h half M p v ok F j) ∙ square_real 𝓡 h s (G (basis_read d M p v j)))
        ∙ sum_mul 𝓡 (mul s s) count read
        ∙ sym (halves 𝓡 h half M p ok v (λ b. square (G b))
        (λ e b l odd. ap square (part_outside 𝓡 h M ok.fitting ok.real (eqb-true M.x 0 e) v F b odd) ∙ square_none 𝓡 h)
        (λ e b l. pairs b))
        ∙ sum_same 𝓡 (2 ^ M.n) (λ b. square (G b)) (λ a. square (applied 𝓡 (2 ^ M.n) (projector 𝓡 h M v) F a))
        (λ a l. ap square (sym (projector_part 𝓡 h M v ok.fitting F a l)))

    -- <F'|F'>, F' being what the projector leaves of F
    pub probability_is_book : real 𝓡 (mass (exact 𝓡 h) M p v (2 ^ (M.n - 1)) F) ≡ squared_length 𝓡 (2 ^ M.n) (applied 𝓡 (2 ^ M.n) (projector 𝓡 h M v) F)
    unfolding squared_length
    probability_is_book =
        let size : ℕ = 2 ^ M.n in
        let left : ℕ → Amplitude R = applied 𝓡 size (projector 𝓡 h M v) F in
        ap (real 𝓡) mass_is_length ∙ real_sum 𝓡 h size (λ a. square (left a))
        ∙ sum_same (complex 𝓡) size (λ a. real 𝓡 (square (left a))) (λ a. conj 𝓡 (left a) *ᶜ left a) (λ a l. conj_square 𝓡 h (left a))
