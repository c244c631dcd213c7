use mathlib.Core.Path.{ap}
use Rattle.amplitudelaws.specs.Step.Step.{quarter_turn}
use Rattle.framelaws.specs.Rows.{step_row}
use Rattle.reader.proofs.Judging.{step_refused, step_taken}
use Rattle.reader.proofs.bodies.quarter_turn.Goals as goal

pub returns-in_err-hermitian_row : goal.returns-in_err-hermitian_row
unfolding step_row
returns-in_err-hermitian_row c =
    λ caller. step_refused caller _ _ _ _ c.from_residual.ensures.1 (rw c.pauli-pauli.ensures at c.in_err-hermitian_row.ensures)

pub returns : goal.returns
unfolding step_row
returns c =
    let is = c.pauli-pauli.ensures in
    λ caller. step_taken caller _ _ _ (rw is at c.in_ok-hermitian_row.ensures) (ap quarter_turn is)
