-- The parts of two vectors in a branch have the same product at two basis states that M exchanges: the phases cancel.
use Rattle.std.specs.Prelude.{◌≡◌, true, ℕ}
use Rattle.std.proofs.Common.{sym, ap, ap₂, ◌∙◌}
use Rattle.std.specs.Int.Bits.{bit_xor}
use Rattle.bitlaws.specs.Parity.{overlap}
use Rattle.paulilaws.specs.Pauli.{Pauli, hermitian}
use Rattle.amplitudelaws.specs.Arithmetic.{Amplitude}
use Rattle.amplitudelaws.specs.Book.Ring.{Ring, ring}
use Rattle.amplitudelaws.specs.Book.Complex.{complex, conj, ipow, sgn}
use Rattle.amplitudelaws.specs.Book.Signs.{sign_square}
use Rattle.amplitudelaws.specs.Book.Reals.{conj_mul, conj_pow, conj_sign}
use Rattle.amplitudelaws.proofs.Book.Action.{act}
use Rattle.amplitudelaws.proofs.Book.Part.{part, pow_square, part_eigen}

module _ {R : Type 0} (𝓡 : Ring R) where
  open 𝓡 use {mul as ◌*ᶜ◌}

  infixl 70 ◌*ᶜ◌
  crossed : (a b c d : R) → a *ᶜ b *ᶜ (c *ᶜ d) ≡ a *ᶜ c *ᶜ (b *ᶜ d)
  crossed a b c d = simp ring

module _ {R : Type 0} (𝓡 : Ring R) where
  open complex 𝓡 use {mul as ◌*ᶜ◌, one}

  infixl 70 ◌*ᶜ◌
  -- a factor of length 1
  dropped : (u a b : Amplitude R) → conj 𝓡 u *ᶜ u ≡ one → conj 𝓡 (u *ᶜ a) *ᶜ (u *ᶜ b) ≡ conj 𝓡 a *ᶜ b
  dropped u a b e =
      ap (λ (q : Amplitude R). q *ᶜ (u *ᶜ b)) (conj_mul 𝓡 u a) ∙ crossed (complex 𝓡) (conj 𝓡 u) (conj 𝓡 a) u b
      ∙ ap (λ (q : Amplitude R). q *ᶜ (conj 𝓡 a *ᶜ b)) e ∙ (complex 𝓡).one_mul (conj 𝓡 a *ᶜ b)

  unit_sign : (e : ℕ) → conj 𝓡 (sgn 𝓡 e) *ᶜ sgn 𝓡 e ≡ one
  unit_sign e = ap (λ (q : Amplitude R). q *ᶜ sgn 𝓡 e) (conj_sign 𝓡 e) ∙ sign_square (complex 𝓡) e

  unit_pow : (k : ℕ) → conj 𝓡 (ipow 𝓡 k) *ᶜ ipow 𝓡 k ≡ one
  unit_pow k =
      ap (λ (q : Amplitude R). q *ᶜ ipow 𝓡 k) (conj_pow 𝓡 k) ∙ (complex 𝓡).mul_assoc (sgn 𝓡 k) (ipow 𝓡 k) (ipow 𝓡 k)
      ∙ ap (λ (q : Amplitude R). sgn 𝓡 k *ᶜ q) (pow_square 𝓡 k) ∙ sign_square (complex 𝓡) k

  pub paired : (M : Pauli) (even : hermitian M ≡ true) (h : R) (v : ℕ) (F G : ℕ → Amplitude R) (b : ℕ)
      → conj 𝓡 (part 𝓡 h M v F (bit_xor b M.x)) *ᶜ part 𝓡 h M v G (bit_xor b M.x) ≡ conj 𝓡 (part 𝓡 h M v F b) *ᶜ part 𝓡 h M v G b
  paired M even h v F G b =
      sym (dropped w (part 𝓡 h M v F o) (part 𝓡 h M v G o) (dropped (ipow 𝓡 M.k) (sgn 𝓡 e) (sgn 𝓡 e) (unit_pow M.k) ∙ unit_sign e))
      ∙ ap₂ (λ (q r : Amplitude R). conj 𝓡 q *ᶜ r) (turned F) (turned G)
      ∙ dropped (sgn 𝓡 v) (part 𝓡 h M v F b) (part 𝓡 h M v G b) (unit_sign v)
    where
      o : ℕ
      o = bit_xor b M.x

      e : ℕ
      e = overlap o M.z

      -- M's phase from o to b
      w : Amplitude R
      w = ipow 𝓡 M.k *ᶜ sgn 𝓡 e

      turned : (F : ℕ → Amplitude R) → w *ᶜ part 𝓡 h M v F o ≡ sgn 𝓡 v *ᶜ part 𝓡 h M v F b
      turned F = unfold act in (part_eigen 𝓡 M even h v F b)
