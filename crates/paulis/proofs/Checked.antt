-- What a call that looks at its Pauli first, and has a value of it else, tells of the Pauli and of other calls on it.
use Rattle.std.specs.Prelude.{◌≡◌, refl, Bool, true, false, ℕ}
use Rattle.std.proofs.Common.{◌∙◌, arith}
use Rattle.answers.specs.Answer.{refuse}
use Rattle.answers.specs.Answer.Answer.{accepted, refused}
use Rattle.paulilaws.specs.Pauli.{Pauli, fits}
use Rattle.paulis.specs.Calls.{on_pauli}

module _ {A : Type 0} (P : Pauli) (v : A) where
  pub value_told : {w : A} → accepted w ≡ on_pauli P (accepted v) → (fits P ≡ true) × (w ≡ v)
  unfolding on_pauli refuse
  value_told {w} e = go (fits P) refl
    where
      go : (b : Bool) → fits P ≡ b → (fits P ≡ true) × (w ≡ v)
      go true f = (f, (let h : accepted w ≡ accepted v = e ∙ rw f in cc))
      go false f = absurd (let h : accepted w ≡ refused 3 = e ∙ rw f in let z : ◌≡◌ {A = ℕ} 0 1 = cc in omega arith)

  pub refused_told : {n : ℕ} → refused n ≡ on_pauli P (accepted v) → (fits P ≡ false) × (n ≡ 3)
  unfolding on_pauli refuse
  refused_told {n} e = go (fits P) refl
    where
      go : (b : Bool) → fits P ≡ b → (fits P ≡ false) × (n ≡ 3)
      go false f = (f, (let h : refused n ≡ refused 3 = e ∙ rw f in cc))
      go true f = absurd (let h : refused n ≡ accepted v = e ∙ rw f in let z : ◌≡◌ {A = ℕ} 0 1 = cc in omega arith)
