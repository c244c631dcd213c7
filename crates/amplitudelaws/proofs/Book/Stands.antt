-- The basis state that stands for a coordinate of a diagonal Pauli's branch is one that the Pauli takes times (-1)^v.
use Rattle.std.specs.Prelude.{◌≡◌, Bool, ℕ, ◌+◌, ◌%◌, ◌^◌, ◌<◌}
use Rattle.std.proofs.Math.Path.{refl, ap}
use Rattle.std.proofs.Common.{sym, ◌∙◌, arith, eqb-true, eq-eqb}
use Rattle.std.proofs.Math.Bool.{true, false, cond}
use Rattle.std.proofs.Math.Dec.{eqb}
use Rattle.bitlaws.specs.Digit.{digit}
use Rattle.bitlaws.specs.Parity.{overlap}
use Rattle.bitlaws.specs.Source.{source}
use Rattle.bitlaws.proofs.Source.{source_parity}
use Rattle.paulilaws.specs.Pauli.{Pauli}
use Rattle.amplitudelaws.specs.Arithmetic.{Amplitude}
use Rattle.amplitudelaws.specs.Projection.{minus}
use Rattle.amplitudelaws.specs.Rows.{pivot_mask}
use Rattle.amplitudelaws.specs.Acting.{Measurable}
use Rattle.amplitudelaws.specs.Book.Ring.{Ring, mul_zero}
use Rattle.amplitudelaws.specs.Book.Complex.{complex, sgn}
use Rattle.amplitudelaws.specs.Book.Signs.{sign_even, sign_square}
use Rattle.amplitudelaws.specs.Book.Matrix.{identity, ket, applied}
use Rattle.amplitudelaws.specs.Book.Operators.{pauli, standing}
use Rattle.amplitudelaws.proofs.Book.Action.{act, pauli_acts}
use Rattle.amplitudelaws.proofs.Book.Diagonal.{eigenvalue}
use Rattle.amplitudelaws.proofs.Book.Standing.{basis_read, standing_read}

module _ {R : Type 0} (𝓡 : Ring R) (M : Pauli) (p v : ℕ) (ok : Measurable M p) (flat : M.x ≡ 0) where
  open complex 𝓡 use {mul as ◌*ᶜ◌, zero as nought, one}

  infixl 70 ◌*ᶜ◌
  diagonal : eqb M.x 0 ≡ true
  diagonal = eq-eqb M.x 0 flat

  has : digit p M.z ≡ 1
  unfolding pivot_mask
  has = rw diagonal at ok.has

  module _ (j : ℕ) where
    abbrev b : ℕ
    b = standing true M p v j

    is_source : b ≡ source p M.z (minus M.k + v) j
    unfolding basis_read
    is_source = rw diagonal at (standing_read M p v ok.fitting ok.real j)

    inside : (minus M.k + v + overlap b M.z) % 2 ≡ 0
    inside = rw is_source (omega (arith, source_parity p M.z (minus M.k + v) j has))

    -- the sign at the state itself is 1, and elsewhere it has no amplitude
    there : (a : ℕ) → sgn 𝓡 (minus M.k + v + overlap a M.z) *ᶜ ket 𝓡 b a ≡ ket 𝓡 b a
    unfolding identity
    there a = by (eqb a b) refl
      where
        by : (t : Bool) → eqb a b ≡ t → sgn 𝓡 (minus M.k + v + overlap a M.z) *ᶜ cond t one nought ≡ cond t one nought
        by true e =
            ap (λ (c : ℕ). sgn 𝓡 (minus M.k + v + overlap c M.z) *ᶜ one) (eqb-true a b e)
            ∙ ap (λ (q : Amplitude R). q *ᶜ one) (sign_even (complex 𝓡) (minus M.k + v + overlap b M.z) inside)
            ∙ (complex 𝓡).one_mul one
        by false e = mul_zero (complex 𝓡) _

    pub standing_eigen : (a : ℕ) → a < 2 ^ M.n
        → applied 𝓡 (2 ^ M.n) (pauli 𝓡 M) (ket 𝓡 (standing true M p v j)) a ≡ sgn 𝓡 v *ᶜ ket 𝓡 (standing true M p v j) a
    standing_eigen a l =
        let m : Amplitude R = act 𝓡 M (ket 𝓡 b) a in
        pauli_acts 𝓡 M ok.fitting (ket 𝓡 b) a l
        ∙ sym ((complex 𝓡).one_mul m)
        ∙ ap (λ (q : Amplitude R). q *ᶜ m) (sym (sign_square (complex 𝓡) v))
        ∙ (complex 𝓡).mul_assoc (sgn 𝓡 v) (sgn 𝓡 v) m
        ∙ ap (◌*ᶜ◌ (sgn 𝓡 v)) (eigenvalue 𝓡 𝓡.one M ok.fitting ok.real flat v (ket 𝓡 b) a ∙ there a)
