-- The part of a vector in a branch of a diagonal Pauli: the vector itself at the basis states with the branch's parity, 0 at the others.
use Rattle.std.specs.Prelude.{◌≡◌, true}
use Rattle.std.proofs.Math.Path.{sym, ap}
use Rattle.std.proofs.Common.{◌∙◌, arith}
use Prim.Native.Nat.{ℕ, ◌+◌, ◌%◌}
use Rattle.std.specs.Int.Bits.{bit_xor, xor_zero_r}
use Rattle.bitlaws.specs.Parity.{overlap}
use Rattle.bitlaws.proofs.Parity.{overlap_zero_l}
use Rattle.paulilaws.specs.Pauli.{Pauli, hermitian}
use Rattle.paulilaws.proofs.Algebra.{hermitian_parity}
use Rattle.paulilaws.specs.Fitting.{Fitting}
use Rattle.amplitudelaws.specs.Arithmetic.{Amplitude}
use Rattle.amplitudelaws.specs.Projection.{minus}
use Rattle.amplitudelaws.specs.Book.Ring.{Ring, ring}
use Rattle.amplitudelaws.specs.Book.Complex.{complex, real, ipow, sgn}
use Rattle.amplitudelaws.specs.Book.Signs.{sign_add, sign_even, sign_odd, sign_same}
use Rattle.amplitudelaws.specs.Book.Reals.{pow_minus}
use Rattle.amplitudelaws.proofs.Book.Action.{act}
use Rattle.amplitudelaws.proofs.Book.Part.{part, half_real}

module _ {R : Type 0} (𝓡 : Ring R) where
  open 𝓡 use {add as ◌+ᶜ◌, mul as ◌*ᶜ◌, neg as -ᶜ◌, zero as nought, one}

  infixl 60 ◌+ᶜ◌
  infixl 70 ◌*ᶜ◌
  infix 80 -ᶜ◌
  doubled : (t a : R) → t *ᶜ (a +ᶜ one *ᶜ a) ≡ (t +ᶜ t) *ᶜ a
  doubled t a = simp ring

  cancelled : (t a : R) → t *ᶜ (a +ᶜ (-ᶜ one) *ᶜ a) ≡ nought
  cancelled t a = simp ring

module _ {R : Type 0} (𝓡 : Ring R) (h : R) (M : Pauli) (fitting : Fitting M) (even : hermitian M ≡ true) (flat : M.x ≡ 0) (v : ℕ) (F : ℕ → Amplitude R) (b : ℕ) where
  open complex 𝓡 use {add as ◌+ᶜ◌, mul as ◌*ᶜ◌, zero as nought}

  infixl 60 ◌+ᶜ◌
  infixl 70 ◌*ᶜ◌
  abbrev t : Amplitude R
  t = real 𝓡 (𝓡.mul h h)

  -- the parity of M's eigenvalue at b against the branch's
  abbrev e : ℕ
  e = minus M.k + v + overlap b M.z

  pub eigenvalue : sgn 𝓡 v *ᶜ act 𝓡 M F b ≡ sgn 𝓡 e *ᶜ F b
  unfolding act
  eigenvalue =
      let same : bit_xor b M.x ≡ b = ap (bit_xor b) flat ∙ xor_zero_r b in
      let phase : M.k % 2 ≡ 0 = hermitian_parity M even ∙ ap (λ (x : ℕ). overlap x M.z) flat ∙ overlap_zero_l M.z in
      let o : ℕ = overlap b M.z in
      ap (λ (a : ℕ). sgn 𝓡 v *ᶜ (ipow 𝓡 M.k *ᶜ sgn 𝓡 (overlap a M.z) *ᶜ F a)) same
      ∙ ap (λ (q : Amplitude R). sgn 𝓡 v *ᶜ (q *ᶜ sgn 𝓡 o *ᶜ F b)) (pow_minus 𝓡 M.k (omega (arith, fitting.phase)) phase)
      ∙ ap (λ (q : Amplitude R). sgn 𝓡 v *ᶜ (q *ᶜ F b)) (sym (sign_add (complex 𝓡) (minus M.k) o))
      ∙ sym ((complex 𝓡).mul_assoc (sgn 𝓡 v) (sgn 𝓡 (minus M.k + o)) (F b))
      ∙ ap (λ (q : Amplitude R). q *ᶜ F b) (sym (sign_add (complex 𝓡) v (minus M.k + o)) ∙ sign_same (complex 𝓡) (v + (minus M.k + o)) e (omega arith))

  opened : part 𝓡 h M v F b ≡ t *ᶜ (F b +ᶜ sgn 𝓡 e *ᶜ F b)
  unfolding part
  opened = ap (λ (q : Amplitude R). t *ᶜ (F b +ᶜ q)) eigenvalue

  pub part_inside : 𝓡.add (𝓡.mul h h) (𝓡.mul h h) ≡ 𝓡.one → e % 2 ≡ 0 → part 𝓡 h M v F b ≡ F b
  part_inside half p =
      opened ∙ ap (λ (q : Amplitude R). t *ᶜ (F b +ᶜ q *ᶜ F b)) (sign_even (complex 𝓡) e p)
      ∙ doubled (complex 𝓡) t (F b) ∙ ap (λ (q : Amplitude R). q *ᶜ F b) (half_real 𝓡 h half) ∙ (complex 𝓡).one_mul (F b)

  pub part_outside : e % 2 ≡ 1 → part 𝓡 h M v F b ≡ nought
  part_outside p = opened ∙ ap (λ (q : Amplitude R). t *ᶜ (F b +ᶜ q *ᶜ F b)) (sign_odd (complex 𝓡) e p) ∙ cancelled (complex 𝓡) t (F b)
