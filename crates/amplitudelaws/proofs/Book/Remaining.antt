-- What a projection leaves, before invnorm, is an entry of the state's part in the branch, twice h of it where two amplitudes are mixed.
use Rattle.std.specs.Prelude.{◌≡◌, Bool, cond, eqb}
use Rattle.std.proofs.Math.Path.{refl, sym, ap}
use Rattle.std.proofs.Common.{ap₂, ◌∙◌, arith, eqb-true}
use Rattle.std.proofs.Math.Bool.{true, false}
use Prim.Native.Nat.{ℕ, ◌+◌}
use Rattle.std.specs.Int.Bits.{bit_xor}
use Rattle.bitlaws.specs.Digit.{digit}
use Rattle.bitlaws.specs.Opening.{open_bit}
use Rattle.bitlaws.specs.Parity.{overlap}
use Rattle.bitlaws.proofs.Parity.{overlap_xor_l}
use Rattle.bitlaws.specs.Source.{source}
use Rattle.bitlaws.proofs.Source.{source_parity}
use Rattle.paulilaws.specs.Pauli.{Pauli}
use Rattle.paulilaws.proofs.Algebra.{hermitian_parity}
use Rattle.amplitudelaws.specs.Arithmetic.{Amplitude, direction, scale}
use Rattle.amplitudelaws.specs.Projection.{minus, projection_coefficient, remaining_by, remaining}
use Rattle.amplitudelaws.specs.Rows.{pivot_mask}
use Rattle.amplitudelaws.specs.Acting.{Measurable}
use Rattle.amplitudelaws.specs.Book.Ring.{Ring, ring}
use Rattle.amplitudelaws.specs.Book.Complex.{exact, complex, real, ipow, sgn}
use Rattle.amplitudelaws.specs.Book.Signs.{sign_add, sign_same}
use Rattle.amplitudelaws.specs.Book.Reals.{conj_pow, real_add, real_mul, real_one}
use Rattle.amplitudelaws.proofs.Book.Parts.{mixed_is, directed_is, projection_coefficient_is}
use Rattle.amplitudelaws.specs.Book.Operators.{stretch}
use Rattle.amplitudelaws.proofs.Book.Standing.{basis_read}
use Rattle.amplitudelaws.proofs.Book.Action.{act}
use Rattle.amplitudelaws.proofs.Book.Part.{part, half_complex}
use Rattle.amplitudelaws.proofs.Book.Diagonal.{part_inside}

-- ---- in a commutative ring

module _ {R : Type 0} (𝓡 : Ring R) where
  open 𝓡 use {add as ◌+ᶜ◌, mul as ◌*ᶜ◌, one}

  infixl 60 ◌+ᶜ◌
  infixl 70 ◌*ᶜ◌
  -- w q with w = d f h g k
  woven : (d f h g k q : R) → (d *ᶜ f) *ᶜ (h *ᶜ (g *ᶜ k)) *ᶜ q ≡ h *ᶜ (d *ᶜ (k *ᶜ (f *ᶜ g) *ᶜ q))
  woven d f h g k q = simp ring

  -- where h h is 1/2, h is (h + h) h h
  merged : (h p q : R) → h *ᶜ h +ᶜ h *ᶜ h ≡ one → h *ᶜ p +ᶜ h *ᶜ q ≡ (h +ᶜ h) *ᶜ (h *ᶜ h *ᶜ (p +ᶜ q))
  merged h p q e = gathered ∙ ap (λ (r : R). h *ᶜ (r *ᶜ (p +ᶜ q))) (sym e) ∙ moved
    where
      gathered : h *ᶜ p +ᶜ h *ᶜ q ≡ h *ᶜ (one *ᶜ (p +ᶜ q))
      gathered = simp ring

      moved : h *ᶜ ((h *ᶜ h +ᶜ h *ᶜ h) *ᶜ (p +ᶜ q)) ≡ (h +ᶜ h) *ᶜ (h *ᶜ h *ᶜ (p +ᶜ q))
      moved = simp ring

-- ---- the two kinds of projection

module _ {R : Type 0} (𝓡 : Ring R) where
  open complex 𝓡 use {add as ◌+ᶜ◌, mul as ◌*ᶜ◌}

  infixl 60 ◌+ᶜ◌
  infixl 70 ◌*ᶜ◌
  module _ (h : R) (half : 𝓡.add (𝓡.mul h h) (𝓡.mul h h) ≡ 𝓡.one) (M : Pauli) (p v : ℕ) (ok : Measurable M p) (F : ℕ → Amplitude R) (j : ℕ) where
    -- where M is diagonal, the basis that is read has the branch's parity
    pub source_inside : M.x ≡ 0 → digit p M.z ≡ 1 → let b = source p M.z (minus M.k + v) j in part 𝓡 h M v F b ≡ F b
    source_inside flat set =
        let b : ℕ = source p M.z (minus M.k + v) j in
        part_inside 𝓡 h M ok.fitting ok.real flat v F b half (omega (arith, source_parity p M.z (minus M.k + v) j set))

    -- what is mixed with the amplitude at b is (-1)^v M of the state, there
    other : (b : ℕ) → scale (exact 𝓡 h) (direction (exact 𝓡 h) (v + overlap b M.z)) (projection_coefficient (exact 𝓡 h) M.k) *ᶜ F (bit_xor b M.x)
        ≡ real 𝓡 h *ᶜ (sgn 𝓡 v *ᶜ act 𝓡 M F b)
    unfolding act
    other b =
        let g : ℕ = overlap b M.z in
        let o : ℕ = bit_xor b M.x in
        let e : sgn 𝓡 g *ᶜ sgn 𝓡 M.k ≡ sgn 𝓡 (overlap o M.z)
        = sym (sign_add (complex 𝓡) g M.k)
        ∙ sign_same (complex 𝓡) (g + M.k) (overlap o M.z) (omega (arith, overlap_xor_l b M.x M.z, hermitian_parity M ok.real)) in
        ap (λ (q : Amplitude R). q *ᶜ F o)
        (directed_is 𝓡 h (v + g) (projection_coefficient (exact 𝓡 h) M.k)
        ∙ rw (sign_add (complex 𝓡) v g, projection_coefficient_is 𝓡 h M.k (omega (arith, ok.fitting.phase)), conj_pow 𝓡 M.k))
        ∙ woven (complex 𝓡) (sgn 𝓡 v) (sgn 𝓡 g) (real 𝓡 h) (sgn 𝓡 M.k) (ipow 𝓡 M.k) (F o)
        ∙ ap (λ (q : Amplitude R). real 𝓡 h *ᶜ (sgn 𝓡 v *ᶜ (ipow 𝓡 M.k *ᶜ q *ᶜ F o))) e

    by : (d : Bool) → eqb M.x 0 ≡ d → digit p (cond d M.z M.x) ≡ 1
        → remaining_by (exact 𝓡 h) d M.x M.z (minus M.k) (projection_coefficient (exact 𝓡 h) M.k) p v F j
        ≡ real 𝓡 (stretch 𝓡 h d) *ᶜ part 𝓡 h M v F (basis_read d M p v j)
    unfolding remaining_by stretch basis_read
    by true x set =
        sym (source_inside (eqb-true M.x 0 x) set)
        ∙ sym (ap (λ (q : Amplitude R). q *ᶜ part 𝓡 h M v F (source p M.z (minus M.k + v) j)) (real_one 𝓡) ∙ (complex 𝓡).one_mul _)
    by false x set =
        let b : ℕ = open_bit p j in
        mixed_is 𝓡 h h (scale (exact 𝓡 h) (direction (exact 𝓡 h) (v + overlap b M.z)) (projection_coefficient (exact 𝓡 h) M.k)) (F b) (F (bit_xor b M.x))
        ∙ ap (λ (q : Amplitude R). real 𝓡 h *ᶜ F b +ᶜ q) (other b)
        ∙ merged (complex 𝓡) (real 𝓡 h) (F b) (sgn 𝓡 v *ᶜ act 𝓡 M F b) (half_complex 𝓡 h half)
        ∙ unfold part in (ap₂ (λ (q r : Amplitude R). q *ᶜ (r *ᶜ (F b +ᶜ sgn 𝓡 v *ᶜ act 𝓡 M F b))) (sym (real_add 𝓡 h h)) (sym (real_mul 𝓡 h h)))

    pub remaining_part : remaining (exact 𝓡 h) M p v F j ≡ real 𝓡 (stretch 𝓡 h (eqb M.x 0)) *ᶜ part 𝓡 h M v F (basis_read (eqb M.x 0) M p v j)
    unfolding remaining
    remaining_part = by (eqb M.x 0) refl (unfold pivot_mask in ok.has)
