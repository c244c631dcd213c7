-- What each call of the crate answers: the rows of the table that refuse it, lowest number first, then its value.
use Rattle.std.specs.Prelude.{Bool, not, ◌&&◌, ℕ, eqb}
use Rattle.answers.specs.Answer.{Answer, refuse}
use Rattle.answers.specs.Answer.Answer.{accepted}
use Rattle.answers.specs.Row.{row}
use Rattle.paulilaws.specs.Pauli.{Pauli, fits, product, anti, coefficient, hermitian, sign}
use Rattle.paulis.specs.Calls.{on_pauli}

-- rows 3 and 4: no Paulis, or of different widths
unfoldable pub on_pair : {A : Type 0} → Pauli → Pauli → Answer A → Answer A
on_pair P Q rest = refuse (not (fits P && fits Q)) 3 (refuse (not (eqb P.n Q.n)) 4 rest)

-- the row that refuses on_pair, 0 where none does
unfoldable pub pair_row : Pauli → Pauli → ℕ
pair_row P Q = row (not (fits P && fits Q)) 3 (row (not (eqb P.n Q.n)) 4 0)

unfoldable pub product_call : Pauli → Pauli → Answer Pauli
unfolding on_pair
product_call A B = on_pair A B (accepted (product A B))

unfoldable pub anticommutes_call : Pauli → Pauli → Answer Bool
unfolding on_pair
anticommutes_call A B = on_pair A B (accepted (eqb (anti A B) 1))

unfoldable pub coefficient_call : Pauli → Answer ℕ
unfolding on_pauli
coefficient_call P = on_pauli P (accepted (coefficient P))

unfoldable pub squares_call : Pauli → Answer Bool
unfolding on_pauli
squares_call P = on_pauli P (accepted (hermitian P))

-- row 7: not Hermitian
unfoldable pub sign_call : Pauli → Answer Bool
unfolding on_pauli
sign_call P = on_pauli P (refuse (not (hermitian P)) 7 (accepted (eqb (sign P) 1)))
