-- The rows in the order in which they are asked.
use Rattle.std.specs.Prelude.{◌≡◌, Bool, true, false, not, ◌&&◌, ℕ, eqb}
use Rattle.std.proofs.Common.{refl}
use Rattle.answers.specs.Row.{row, first}
use Rattle.paulilaws.specs.Pauli.{Pauli, fits}
use Rattle.activepauli.specs.Rows.{pauli_row}
use Rattle.framelaws.specs.Carrying.{widened}
use Rattle.framelaws.specs.PassRow.{placed_row, pair_row, widened_row}

both : (t u : Bool) (rest : ℕ) → first (row (not t) 3 0) (first (row (not u) 3 0) rest) ≡ row (not (t && u)) 3 rest
unfolding row first
both false u rest = refl
both true false rest = refl
both true true rest = refl

one : (t : Bool) (rest : ℕ) → first (row (not t) 3 0) rest ≡ row (not t) 3 rest
unfolding row first
one false rest = refl
one true rest = refl

-- the second row is all that is left
last : (t u : Bool) → first (row (not t) 3 0) (row (not u) 3 0) ≡ row (not (t && u)) 3 0
unfolding row first
last false u = refl
last true u = refl

pub placed_asked : (Q : Pauli) (n : ℕ) → first (pauli_row Q) (row (not (eqb Q.n n)) 4 0) ≡ placed_row Q n
unfolding pauli_row placed_row
placed_asked Q n = one (fits Q) (row (not (eqb Q.n n)) 4 0)

pub pair_asked : (Q P : Pauli) → first (pauli_row Q) (first (pauli_row P) (row (not (eqb Q.n P.n)) 4 0)) ≡ pair_row Q P
unfolding pauli_row pair_row
pair_asked Q P = both (fits Q) (fits P) (row (not (eqb Q.n P.n)) 4 0)

pub widened_asked : (Q : Pauli) → first (pauli_row Q) (pauli_row (widened Q)) ≡ widened_row Q
unfolding pauli_row widened_row
widened_asked Q = last (fits Q) (fits (widened Q))
