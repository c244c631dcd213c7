-- The projector on a branch of a Hermitian Pauli: it takes a vector's part in the branch, is its own adjoint, and its own square.
use Rattle.std.specs.Prelude.{◌≡◌, Bool}
use Rattle.std.proofs.Math.Path.{refl, sym, ap, ap₂}
use Rattle.std.proofs.Common.{◌∙◌, arith, eqb-true}
use Rattle.std.proofs.Math.Bool.{true, false, cond}
use Prim.Native.Nat.{ℕ, ◌+◌, ◌^◌, ◌<◌}
use Rattle.std.specs.Int.Bits.{bit_xor}
use Rattle.std.proofs.Math.Dec.{eqb}
use Rattle.std.proofs.lemmas.Bool.{eqb-false}
use Rattle.bitlaws.specs.Xor.{xor_twice}
use Rattle.bitlaws.specs.Parity.{overlap}
use Rattle.bitlaws.proofs.Parity.{overlap_xor_l}
use Rattle.paulilaws.specs.Pauli.{Pauli, hermitian}
use Rattle.paulilaws.proofs.Algebra.{hermitian_parity}
use Rattle.paulilaws.specs.Fitting.{Fitting}
use Rattle.amplitudelaws.specs.Arithmetic.{Amplitude}
use Rattle.amplitudelaws.specs.Book.Ring.{Ring, ring, neg_zero, neg_add, mul_zero}
use Rattle.amplitudelaws.specs.Book.Complex.{complex, real, conj, ipow, sgn}
use Rattle.amplitudelaws.specs.Book.Signs.{sign_add, sign_same}
use Rattle.amplitudelaws.specs.Book.Reals.{pair, conj_mul, conj_pow, conj_sign, conj_none, real_one}
use Rattle.amplitudelaws.specs.Book.Matrix.{identity, ket, plus, multiple, applied, joined, adjoint}
use Rattle.amplitudelaws.specs.Book.Matrix.{applied_same, applied_plus, applied_multiple, applied_identity, applied_ket, joined_column}
use Rattle.amplitudelaws.specs.Book.Operators.{pauli, projector}
use Rattle.amplitudelaws.proofs.Book.Action.{act, pauli_acts}
use Rattle.amplitudelaws.proofs.Book.Part.{part, part_again}

module _ {R : Type 0} (𝓡 : Ring R) where
  open 𝓡 use {mul as ◌*ᶜ◌}

  infixl 70 ◌*ᶜ◌
  exchanged : (k s g q : R) → s *ᶜ k *ᶜ g *ᶜ q ≡ k *ᶜ (s *ᶜ g) *ᶜ q
  exchanged k s g q = simp ring

module _ {R : Type 0} (𝓡 : Ring R) where
  open complex 𝓡 use {add as ◌+ᶜ◌, mul as ◌*ᶜ◌, zero as nought, one}

  infixl 60 ◌+ᶜ◌
  infixl 70 ◌*ᶜ◌
  conj_add : (a b : Amplitude R) → conj 𝓡 (a +ᶜ b) ≡ conj 𝓡 a +ᶜ conj 𝓡 b
  unfolding complex conj
  conj_add a b = pair refl (neg_add 𝓡 a.im b.im)

  pub conj_real : (a : R) → conj 𝓡 (real 𝓡 a) ≡ real 𝓡 a
  unfolding conj real
  conj_real a = pair refl (neg_zero 𝓡)

  -- ---- basis states

  ket_swap : (a b : ℕ) → conj 𝓡 (ket 𝓡 a b) ≡ ket 𝓡 b a
  unfolding identity
  ket_swap a b = go (eqb b a) (eqb a b) refl refl
    where
      go : (s t : Bool) → eqb b a ≡ s → eqb a b ≡ t → conj 𝓡 (cond s one nought) ≡ cond t one nought
      go true true p q = ap (conj 𝓡) (sym (real_one 𝓡)) ∙ conj_real 𝓡.one ∙ real_one 𝓡
      go true false p q = absurd (eqb-false a b q (sym (eqb-true b a p)))
      go false true p q = absurd (eqb-false b a p (sym (eqb-true a b q)))
      go false false p q = conj_none 𝓡

  module _ (M : Pauli) (even : hermitian M ≡ true) where
    -- <b| M |a> and <a| M |b>
    act_swap : (a b : ℕ) → conj 𝓡 (act 𝓡 M (ket 𝓡 a) b) ≡ act 𝓡 M (ket 𝓡 b) a
    unfolding act
    act_swap a b =
        conj_mul 𝓡 (ipow 𝓡 M.k *ᶜ sgn 𝓡 (overlap o M.z)) (ket 𝓡 a o)
        ∙ ap₂ ◌*ᶜ◌ (conj_mul 𝓡 (ipow 𝓡 M.k) (sgn 𝓡 (overlap o M.z)) ∙ ap₂ ◌*ᶜ◌ (conj_pow 𝓡 M.k) (conj_sign 𝓡 (overlap o M.z))) (ket_swap a o)
        ∙ unfold identity in (go (eqb a o) (eqb (bit_xor a M.x) b) refl refl)
      where
        o : ℕ
        o = bit_xor b M.x

        go : (s t : Bool) → eqb a o ≡ s → eqb (bit_xor a M.x) b ≡ t
            → sgn 𝓡 M.k *ᶜ ipow 𝓡 M.k *ᶜ sgn 𝓡 (overlap o M.z) *ᶜ cond s one nought ≡ ipow 𝓡 M.k *ᶜ sgn 𝓡 (overlap (bit_xor a M.x) M.z) *ᶜ cond t one nought
        go true true p q =
            exchanged (complex 𝓡) (ipow 𝓡 M.k) (sgn 𝓡 M.k) (sgn 𝓡 (overlap o M.z)) one
            ∙ ap (λ (q : Amplitude R). ipow 𝓡 M.k *ᶜ q *ᶜ one)
            (sym (sign_add (complex 𝓡) M.k (overlap o M.z))
            ∙ sign_same (complex 𝓡) (M.k + overlap o M.z) (overlap (bit_xor a M.x) M.z)
            (omega (arith, ap (λ (m : ℕ). overlap m M.z) (eqb-true a o p), overlap_xor_l a M.x M.z, hermitian_parity M even)))
        go true false p q = absurd (eqb-false (bit_xor a M.x) b q (ap (λ (m : ℕ). bit_xor m M.x) (eqb-true a o p) ∙ xor_twice b M.x))
        go false true p q = absurd (eqb-false a o p (sym (xor_twice a M.x) ∙ ap (λ (m : ℕ). bit_xor m M.x) (eqb-true (bit_xor a M.x) b q)))
        go false false p q = mul_zero (complex 𝓡) _ ∙ sym (mul_zero (complex 𝓡) _)

    -- so M is its own adjoint
    pub pauli_adjoint : Fitting M → (a b : ℕ) → a < 2 ^ M.n → b < 2 ^ M.n → adjoint 𝓡 (pauli 𝓡 M) a b ≡ pauli 𝓡 M a b
    unfolding adjoint
    pauli_adjoint f a b la lb =
        let size : ℕ = 2 ^ M.n in
        ap (conj 𝓡) (sym (applied_ket 𝓡 size (pauli 𝓡 M) b a la) ∙ pauli_acts 𝓡 M f (ket 𝓡 a) b lb)
        ∙ act_swap a b
        ∙ sym (sym (applied_ket 𝓡 size (pauli 𝓡 M) a b lb) ∙ pauli_acts 𝓡 M f (ket 𝓡 b) a la)

    part_swap : (h : R) (v a b : ℕ) → conj 𝓡 (part 𝓡 h M v (ket 𝓡 a) b) ≡ part 𝓡 h M v (ket 𝓡 b) a
    unfolding part
    part_swap h v a b =
        conj_mul 𝓡 (real 𝓡 (𝓡.mul h h)) (ket 𝓡 a b +ᶜ sgn 𝓡 v *ᶜ act 𝓡 M (ket 𝓡 a) b)
        ∙ ap₂ ◌*ᶜ◌ (conj_real (𝓡.mul h h))
        (conj_add (ket 𝓡 a b) (sgn 𝓡 v *ᶜ act 𝓡 M (ket 𝓡 a) b)
        ∙ ap₂ ◌+ᶜ◌ (ket_swap a b) (conj_mul 𝓡 (sgn 𝓡 v) (act 𝓡 M (ket 𝓡 a) b) ∙ ap₂ ◌*ᶜ◌ (conj_sign 𝓡 v) (act_swap a b)))

  -- ---- the projector

  module _ (h : R) (M : Pauli) (v : ℕ) (fitting : Fitting M) where
    pub projector_part : (F : ℕ → Amplitude R) (a : ℕ) → a < 2 ^ M.n → applied 𝓡 (2 ^ M.n) (projector 𝓡 h M v) F a ≡ part 𝓡 h M v F a
    unfolding projector part
    projector_part F a l =
        let size : ℕ = 2 ^ M.n in
        applied_multiple 𝓡 size (real 𝓡 (𝓡.mul h h)) (plus 𝓡 (identity 𝓡) (multiple 𝓡 (sgn 𝓡 v) (pauli 𝓡 M))) F a
        ∙ ap (λ (q : Amplitude R). real 𝓡 (𝓡.mul h h) *ᶜ q)
        (applied_plus 𝓡 size (identity 𝓡) (multiple 𝓡 (sgn 𝓡 v) (pauli 𝓡 M)) F a
        ∙ ap₂ ◌+ᶜ◌ (applied_identity 𝓡 size F a l)
        (applied_multiple 𝓡 size (sgn 𝓡 v) (pauli 𝓡 M) F a ∙ ap (λ (q : Amplitude R). sgn 𝓡 v *ᶜ q) (pauli_acts 𝓡 M fitting F a l)))

    -- column b is the part of |b>
    pub projector_ket : (a b : ℕ) → a < 2 ^ M.n → b < 2 ^ M.n → projector 𝓡 h M v a b ≡ part 𝓡 h M v (ket 𝓡 b) a
    projector_ket a b la lb = sym (applied_ket 𝓡 (2 ^ M.n) (projector 𝓡 h M v) a b lb) ∙ projector_part (ket 𝓡 b) a la

    module _ (even : hermitian M ≡ true) (a b : ℕ) (la : a < 2 ^ M.n) (lb : b < 2 ^ M.n) where
      pub projector_conj : conj 𝓡 (projector 𝓡 h M v b a) ≡ projector 𝓡 h M v a b
      projector_conj = ap (conj 𝓡) (projector_ket b a lb la) ∙ part_swap M even h v a b ∙ sym (projector_ket a b la lb)

      pub projector_square : 𝓡.add (𝓡.mul h h) (𝓡.mul h h) ≡ 𝓡.one → joined 𝓡 (2 ^ M.n) (projector 𝓡 h M v) (projector 𝓡 h M v) a b ≡ projector 𝓡 h M v a b
      projector_square half =
          joined_column 𝓡 (2 ^ M.n) (projector 𝓡 h M v) (projector 𝓡 h M v) a b
          ∙ applied_same 𝓡 (2 ^ M.n) (projector 𝓡 h M v) (λ c. projector 𝓡 h M v c b) (part 𝓡 h M v (ket 𝓡 b)) (λ c l. projector_ket c b l lb) a
          ∙ projector_part (part 𝓡 h M v (ket 𝓡 b)) a la ∙ part_again 𝓡 M even h v (ket 𝓡 b) a half ∙ sym (projector_ket a b la lb)
