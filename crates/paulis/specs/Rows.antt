-- Which row of the table answers a call, from the tests that the code makes.
use Rattle.std.specs.Prelude.{◌≡◌, refl, Bool, true, false, not, ℕ, ◌≤◌, ◌<◌, leb}
use Rattle.std.proofs.Common.{sym, ◌∙◌, le-leb, leb-false, arith}
use Rattle.std.proofs.lemmas.Bool.{lt-leb, not-false}
use Rattle.answers.specs.Answer.{Answer, refuse}
use Rattle.answers.specs.Answer.Answer.{refused}
use Rattle.answers.specs.Row.{row, row_passed}
use Rattle.paulilaws.specs.Pauli.{Pauli, fits}
use Rattle.paulilaws.specs.Fitting.{Admitted}
use Rattle.paulilaws.proofs.Fitting.{fits_admitted}
use Rattle.paulis.specs.Calls.{on_pauli, on_qubit, qubit_row}

module _ {A : Type 0} (P : Pauli) (rest : Answer A) {t : Bool} (is : t ≡ fits P) where
  pub no_pauli : not t ≡ true → on_pauli P rest ≡ refused 3
  unfolding on_pauli refuse
  no_pauli h = rw (← is, h)

  module _ (h : not t ≡ false) where
    pub a_pauli : on_pauli P rest ≡ rest
    unfolding on_pauli refuse
    a_pauli = rw (← is, h)

-- what a passed test says
pub admitted : (P : Pauli) {t : Bool} → t ≡ fits P → not t ≡ false → Admitted P
admitted P {t} is h = fits_admitted P (sym is ∙ not-false t h)

module _ {A : Type 0} (P : Pauli) (q : ℕ) (rest : Answer A) {t : Bool} (is : t ≡ fits P) where
  pub no_pauli_qubit : not t ≡ true → on_qubit P q rest ≡ refused 3
  unfolding on_qubit
  no_pauli_qubit h = no_pauli P (refuse (leb P.n q) 5 rest) is h

  pub no_qubit : not t ≡ false → P.n ≤ q → on_qubit P q rest ≡ refused 5
  unfolding on_qubit refuse
  no_qubit h l = a_pauli P (refuse (leb P.n q) 5 rest) is h ∙ rw (le-leb P.n q l)

  pub a_qubit : not t ≡ false → q < P.n → on_qubit P q rest ≡ rest
  unfolding on_qubit refuse
  a_qubit h l = a_pauli P (refuse (leb P.n q) 5 rest) is h ∙ rw (lt-leb P.n q l)

-- what is known where no row refuses a qubit
module _ (P : Pauli) (q : ℕ) where
  pub qubit_passed : qubit_row P q ≡ 0 → Admitted P × (q < P.n)
  unfolding qubit_row
  qubit_passed e =
      let seen = row_passed (not (fits P)) 3 (row (leb P.n q) 5 0) (omega arith) e in
      (admitted P {t = fits P} refl seen.0, leb-false P.n q (row_passed (leb P.n q) 5 0 (omega arith) seen.1).0)
