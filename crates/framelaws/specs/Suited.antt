-- Which steps a Pauli can be taken past: exactly those where no row refuses. It is a Pauli again behind them.
use Rattle.std.specs.Prelude.{◌≡◌, not, ℕ, ◌<◌}
use Rattle.std.proofs.Common.{lit<}
use Rattle.std.proofs.Math.Dec.{eqb}
use borrow.Author.Tests.{eqb-true, eq-eqb, not-false}
use Rattle.answers.specs.Row.{row, row_passed}
use Rattle.paulilaws.specs.Pauli.{Pauli, most_qubits, fits}
use Rattle.paulilaws.specs.Fitting.{Fitting, Admitted}
use Rattle.paulilaws.proofs.Fitting.{fits_admitted, admitted_fits}
use Rattle.amplitudelaws.specs.Step.{Step}
use Rattle.amplitudelaws.specs.Step.Step.{rotation, promotion, projection, correction, quarter_turn}
use Rattle.framelaws.specs.PassRow.{placed_row}

-- two Paulis on the same qubits
pub record Paired (Q P : Pauli) : Type 0 where
  pub first : Admitted Q
  pub second : Fitting P
  pub width : Q.n ≡ P.n

module _ {R : Type 0} where
  -- a step whose Pauli is on Q's qubits, a promotion behind which Q is still a Pauli, a pivot among Q's qubits
  abbrev pub Suited : Pauli → Step R → Type 0
  Suited Q (rotation P sign c s) = Paired Q P
  Suited Q (promotion c q) = Admitted Q × (Q.n < most_qubits)
  Suited Q (projection M p v invnorm) = Paired Q M × (p < Q.n)
  Suited Q (correction P) = Paired Q P
  Suited Q (quarter_turn P) = Paired Q P

-- ---- a Pauli on n qubits, exactly where no row refuses it

pub placed_passed : (Q : Pauli) (n : ℕ) → placed_row Q n ≡ 0 → Admitted Q × (Q.n ≡ n)
unfolding placed_row
placed_passed Q n e =
    let three = row_passed (not (fits Q)) 3 (row (not (eqb Q.n n)) 4 0) (lit< tt) e in
    let four = row_passed (not (eqb Q.n n)) 4 0 (lit< tt) three.1 in
    (fits_admitted Q (not-false (fits Q) three.0), eqb-true Q.n n (not-false (eqb Q.n n) four.0))

pub placed_row_lem : (Q : Pauli) (n : ℕ) → Admitted Q → Q.n ≡ n → placed_row Q n ≡ 0
unfolding placed_row row
placed_row_lem Q n a e = rw (admitted_fits Q a, eq-eqb Q.n n e)
