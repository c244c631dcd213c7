use mathlib.Core.Path.{◌≡◌, sym, ◌∙◌}
use mathlib.Core.Bool.{not}
use lib.Ieee.Scale.{finite}
use Rattle.answers.specs.Row.{refused_row, accepted_row}
use Rattle.amplitudelaws.specs.Rows.{measurement_row}
use Rattle.framelaws.specs.Rows.{step_row}
use Rattle.runlaws.specs.Bytes.{byte_at, float_at, pauli_at}
use Rattle.reader.proofs.Judging.{step_refused, step_taken, projection_pauli, projection_nan, projection_measured, projection_branch}
use Rattle.reader.proofs.bodies.projection.Goals as goal
use Rattle.reader.proofs.bodies.projection.Goals.{In_ok-measurement_row}

pub returns-in_err-hermitian_row : goal.returns-in_err-hermitian_row
unfolding step_row
returns-in_err-hermitian_row c =
    λ caller. step_refused caller _ _ _ _ c.from_residual.ensures.1 (projection_pauli _ _ _ _ _ (rw c.pauli-pauli.ensures at c.in_err-hermitian_row.ensures))

pub returns-in_err-invnorm : goal.returns-in_err-invnorm
unfolding step_row
returns-in_err-invnorm c =
    let e = c.in_err-invnorm.ensures in
    λ caller. step_refused caller _ _ _ _ c.from_residual-in_err-invnorm.ensures.1
    (e.0 ∙ projection_nan _ _ _ _ (rw c.pauli-pauli.ensures at c.in_ok-hermitian_row.ensures) e.1)

pub returns-in_err-measurement_row : goal.returns-in_err-measurement_row
unfolding step_row
returns-in_err-measurement_row c =
    λ caller. step_refused caller _ _ _ _ c.from_residual-in_err-measurement_row.ensures.1
    (projection_measured _ _ _ _ _ (rw (c.pauli-pauli.ensures, c.is_finite.ensures, c.from-pivot.ensures, c.in_ok-invnorm.ensures) at c.in_err-measurement_row.ensures))

-- no row of a measurement refuses the body
measured : (c : In_ok-measurement_row) → let body = c.args.body.now in
    0 ≡ measurement_row (pauli_at c.args.width body) (byte_at body 17) (not (finite (float_at body 19)))
measured c = rw (c.pauli-pauli.ensures, c.is_finite.ensures, c.from-pivot.ensures, c.in_ok-invnorm.ensures) at c.in_ok-measurement_row.ensures

pub returns-in_err-branch : goal.returns-in_err-branch
unfolding step_row
returns-in_err-branch c =
    λ caller. step_refused caller _ _ _ _ c.from_residual-in_err-branch.ensures.1
    (projection_branch _ _ _ _ _ (measured (goal.at.returns-in_err-branch c).In_ok-measurement_row) (sym (refused_row _ _ _ c.in_err-branch.ensures).0))

pub returns : goal.returns
unfolding step_row
returns c =
    let branch = accepted_row _ _ _ c.in_ok-branch.ensures in
    λ caller. step_taken caller _ _ _ (projection_branch _ _ _ _ _ (measured (goal.at.returns c).In_ok-measurement_row) (sym branch.0))
    (rw (c.pauli-pauli.ensures, c.from-pivot.ensures, branch.1, c.in_ok-invnorm.ensures))
