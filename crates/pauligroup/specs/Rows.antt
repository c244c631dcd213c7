-- Which row of the table answers a call on two Paulis, from the tests that the code makes.
use Rattle.std.specs.Prelude.{◌≡◌, Bool, true, false, not, ◌&&◌}
use borrow.Author.Tests.{eq-eqb, ne_eqb}
use Rattle.answers.specs.Answer.{Answer, refuse}
use Rattle.answers.specs.Answer.Answer.{refused}
use Rattle.paulilaws.specs.Pauli.{Pauli, fits}
use Rattle.pauligroup.specs.Calls.{on_pair}

module _ {A : Type 0} (P Q : Pauli) (rest : Answer A) {t u : Bool} (is : t ≡ fits P) (iu : u ≡ fits Q) where
  pub no_paulis : not (t && u) ≡ true → on_pair P Q rest ≡ refused 3
  unfolding on_pair refuse
  no_paulis h = rw (← is, ← iu, h)

  pub unequal : not (t && u) ≡ false → (P.n ≡ Q.n → ⊥) → on_pair P Q rest ≡ refused 4
  unfolding on_pair refuse
  unequal h ne = rw (← is, ← iu, h, ne_eqb P.n Q.n ne)

  pub equal : not (t && u) ≡ false → P.n ≡ Q.n → on_pair P Q rest ≡ rest
  unfolding on_pair refuse
  equal h e = rw (← is, ← iu, h, eq-eqb P.n Q.n e)
