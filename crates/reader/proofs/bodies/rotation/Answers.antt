use mathlib.Core.Path.{◌≡◌, sym, ◌∙◌}
use Rattle.answers.specs.Row.{refused_row, accepted_row}
use Rattle.amplitudelaws.specs.Rows.{unit_row, hermitian_row, widest_kernel}
use Rattle.framelaws.specs.Rows.{step_row}
use Rattle.runlaws.specs.Bytes.{pauli_at, float_at}
use Rattle.reader.proofs.Judging.{step_refused, step_taken, nan_first, nan_second, rotation_pauli, rotation_floats, rotation_sign}
use Rattle.reader.proofs.bodies.rotation.Goals as goal
use Rattle.reader.proofs.bodies.rotation.Goals.{In_ok-hermitian_row, In_ok-unit_row}

pub returns-in_err-hermitian_row : goal.returns-in_err-hermitian_row
unfolding step_row
returns-in_err-hermitian_row c =
    λ caller. step_refused caller _ _ _ _ c.from_residual.ensures.1 (rotation_pauli _ _ _ _ _ (rw c.pauli-pauli.ensures at c.in_err-hermitian_row.ensures))

-- the body's Pauli is refused by no row
passed : (c : In_ok-hermitian_row) → 0 ≡ hermitian_row widest_kernel (pauli_at c.args.width c.args.body.now)
passed c = rw c.pauli-pauli.ensures at c.in_ok-hermitian_row.ensures

pub returns-in_err-c : goal.returns-in_err-c
unfolding step_row
returns-in_err-c c =
    let e = c.in_err-c.ensures in
    λ caller. step_refused caller _ _ _ _ c.from_residual-in_err-c.ensures.1
    (rotation_floats _ _ _ _ (passed (goal.at.returns-in_err-c c).In_ok-hermitian_row) _ (e.0 ∙ nan_first _ _ e.1))

pub returns-in_err-s : goal.returns-in_err-s
unfolding step_row
returns-in_err-s c =
    let e = c.in_err-s.ensures in
    λ caller. step_refused caller _ _ _ _ c.from_residual-in_err-s.ensures.1
    (rotation_floats _ _ _ _ (passed (goal.at.returns-in_err-s c).In_ok-hermitian_row) _ (e.0 ∙ nan_second _ _ e.1))

pub returns-in_err-unit_row : goal.returns-in_err-unit_row
unfolding step_row
returns-in_err-unit_row c =
    λ caller. step_refused caller _ _ _ _ c.from_residual-in_err-unit_row.ensures.1
    (rotation_floats _ _ _ _ (passed (goal.at.returns-in_err-unit_row c).In_ok-hermitian_row) _ (rw (c.in_ok-c.ensures, c.in_ok-s.ensures) at c.in_err-unit_row.ensures))

-- nor are its floats
fit : (c : In_ok-unit_row) → 0 ≡ unit_row (float_at c.args.body.now 18) (float_at c.args.body.now 26)
fit c = rw (c.in_ok-c.ensures, c.in_ok-s.ensures) at c.in_ok-unit_row.ensures

pub returns-in_err-sign : goal.returns-in_err-sign
unfolding step_row
returns-in_err-sign c =
    let k = goal.at.returns-in_err-sign c in
    λ caller. step_refused caller _ _ _ _ c.from_residual-in_err-sign.ensures.1
    (rotation_sign _ _ _ _ (passed k.In_ok-hermitian_row) _ (fit k.In_ok-unit_row) (sym (refused_row _ _ _ c.in_err-sign.ensures).0))

pub returns : goal.returns
unfolding step_row
returns c =
    let k = goal.at.returns c in
    let sign = accepted_row _ _ _ c.in_ok-sign.ensures in
    λ caller. step_taken caller _ _ _ (rotation_sign _ _ _ _ (passed k.In_ok-hermitian_row) _ (fit k.In_ok-unit_row) (sym sign.0))
    (rw (c.pauli-pauli.ensures, sign.1, c.in_ok-c.ensures, c.in_ok-s.ensures))
