-- What each call of the crate answers: the rows of the table that refuse it, lowest number first, then its value.
use Rattle.std.specs.Prelude.{Bool, not, ℕ, leb, ltb, eqb}
use Rattle.std.proofs.Math.Option.{Option}
use Rattle.answers.specs.Answer.{Answer, refuse}
use Rattle.answers.specs.Answer.Answer.{accepted}
use Rattle.answers.specs.Row.{row}
use Rattle.bitlaws.specs.Digit.{digit}
use Rattle.paulilaws.specs.Pauli.{Pauli, fits, identity, most_qubits}
use Rattle.paulilaws.specs.Letter.{Letter, letter_at, with_letter}
use Rattle.paulilaws.specs.Support.{max_support}

-- row 3: no Pauli
unfoldable pub on_pauli : {A : Type 0} → Pauli → Answer A → Answer A
on_pauli P rest = refuse (not (fits P)) 3 rest

-- rows 3 and 5: no Pauli, or no qubit of it
unfoldable pub on_qubit : {A : Type 0} → Pauli → ℕ → Answer A → Answer A
unfolding on_pauli
on_qubit P q rest = on_pauli P (refuse (leb P.n q) 5 rest)

-- the row that refuses on_qubit, 0 where none does
unfoldable pub qubit_row : Pauli → ℕ → ℕ
qubit_row P q = row (not (fits P)) 3 (row (leb P.n q) 5 0)

unfoldable pub identity_call : ℕ → Answer Pauli
identity_call n = refuse (ltb most_qubits n) 3 (accepted (identity n))

unfoldable pub parts_call : Pauli → Answer Pauli
unfolding on_pauli
parts_call P = on_pauli P (accepted P)

-- qubit q's bit of m, P's x or z mask
unfoldable pub bit_call : Pauli → ℕ → ℕ → Answer Bool
unfolding on_qubit
bit_call P m q = on_qubit P q (accepted (eqb (digit q m) 1))

unfoldable pub get_call : Pauli → ℕ → Answer Letter
unfolding on_qubit
get_call P q = on_qubit P q (accepted (letter_at q P))

unfoldable pub set_call : Pauli → ℕ → Letter → Answer Pauli
unfolding on_qubit
set_call P q l = on_qubit P q (accepted (with_letter q l P))

unfoldable pub support_call : Pauli → Answer (Option ℕ)
unfolding on_pauli
support_call P = on_pauli P (accepted (max_support P))
