-- The rows that each call asks first, and what it answers where they have looked at its Paulis.
use Rattle.std.specs.Prelude.{◌≡◌, Bool, true, false, not, ◌&&◌, leb, eqb, ◌<◌}
use Rattle.std.proofs.Math.Path.{refl, sym}
use Prim.Native.Nat.{ℕ, suc}
use Rattle.std.proofs.Common.{◌∙◌, arith}
use Rattle.std.proofs.lemmas.Bool.{leb-false}
use Rattle.answers.specs.Answer.{refuse}
use Rattle.answers.specs.Answer.Answer.{accepted}
use Rattle.answers.specs.Row.{row, first, answered, answered_none, row_passed, first_passed}
use Rattle.paulilaws.specs.Pauli.{Pauli, fits}
use Rattle.paulis.specs.Calls.{on_pauli, on_qubit}
use Rattle.pauligroup.specs.Calls.{on_pair}

-- row 3: no Pauli
unfoldable pub pauli_row : Pauli → ℕ
pauli_row P = row (not (fits P)) 3 0

-- and row 5: no qubit of it
unfoldable pub qubit_row : Pauli → ℕ → ℕ
qubit_row P q = first (pauli_row P) (row (leb P.n q) 5 0)

-- row 3 of both, and row 4: of different widths
unfoldable pub pair_row : Pauli → Pauli → ℕ
pair_row P Q = first (pauli_row P) (first (pauli_row Q) (row (not (eqb P.n Q.n)) 4 0))

module _ {A : Type 0} (a : A) where
  one : (t : Bool) (n : ℕ) → answered (row t (suc n) 0) a ≡ refuse t (suc n) (accepted a)
  unfolding answered row refuse
  one true n = refl
  one false n = refl

  two : (t : Bool) (m : ℕ) (u : Bool) (n : ℕ) → answered (first (row t (suc m) 0) (row u (suc n) 0)) a ≡ refuse t (suc m) (refuse u (suc n) (accepted a))
  unfolding answered row first refuse
  two true m u n = refl
  two false m true n = refl
  two false m false n = refl

  both : (t u v : Bool) → answered (first (row (not t) 3 0) (first (row (not u) 3 0) (row v 4 0))) a ≡ refuse (not (t && u)) 3 (refuse v 4 (accepted a))
  unfolding answered row first refuse
  both false u v = refl
  both true false v = refl
  both true true true = refl
  both true true false = refl

  module _ (P : Pauli) where
    pub pauli_answered : answered (pauli_row P) a ≡ on_pauli P (accepted a)
    unfolding pauli_row on_pauli
    pauli_answered = one (not (fits P)) 2

    pub qubit_answered : (q : ℕ) → answered (qubit_row P q) a ≡ on_qubit P q (accepted a)
    unfolding qubit_row pauli_row on_qubit on_pauli
    qubit_answered q = two (not (fits P)) 2 (leb P.n q) 4

    pub pair_answered : (Q : Pauli) → answered (pair_row P Q) a ≡ on_pair P Q (accepted a)
    unfolding pair_row pauli_row on_pair
    pair_answered Q = both (fits P) (fits Q) (not (eqb P.n Q.n))

    -- where no row refuses it is the value
    pub pauli_value : 0 ≡ pauli_row P → accepted a ≡ on_pauli P (accepted a)
    pauli_value none = sym (answered_none (pauli_row P) a (sym none)) ∙ pauli_answered

    pub qubit_value : (q : ℕ) → 0 ≡ qubit_row P q → accepted a ≡ on_qubit P q (accepted a)
    qubit_value q none = sym (answered_none (qubit_row P q) a (sym none)) ∙ qubit_answered q

    pub pair_value : (Q : Pauli) → 0 ≡ pair_row P Q → accepted a ≡ on_pair P Q (accepted a)
    pair_value Q none = sym (answered_none (pair_row P Q) a (sym none)) ∙ pair_answered Q

-- a qubit that no row refuses
pub qubit_passed : (P : Pauli) (q : ℕ) → qubit_row P q ≡ 0 → q < P.n
unfolding qubit_row
qubit_passed P q e =
    let small = row_passed (leb P.n q) 5 0 (omega arith) (first_passed (pauli_row P) _ e).1 in
    leb-false P.n q small.0
