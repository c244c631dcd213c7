use mathlib.Core.Path.{◌≡◌, ◌∙◌}
use Rattle.amplitudelaws.specs.Rows.{unit_row}
use Rattle.framelaws.specs.Rows.{step_row}
use Rattle.runlaws.specs.Bytes.{float_at}
use Rattle.reader.proofs.Judging.{step_refused, step_taken, nan_first, nan_second, promotion_width, promotion_floats, promotion_limit}
use Rattle.reader.proofs.bodies.promotion.Goals as goal
use Rattle.reader.proofs.bodies.promotion.Goals.{In_ok-unit_row}

pub returns-in_err-promoted_width_row : goal.returns-in_err-promoted_width_row
unfolding step_row
returns-in_err-promoted_width_row c =
    step_refused _ _ _ _ _ c.from_residual.ensures.1 (promotion_width _ _ _ _ _ c.in_err-promoted_width_row.ensures)

pub returns-in_err-c : goal.returns-in_err-c
unfolding step_row
returns-in_err-c c =
    let e = c.in_err-c.ensures in
    step_refused _ _ _ _ _ c.from_residual-in_err-c.ensures.1
    (promotion_floats _ _ _ _ c.in_ok-promoted_width_row.ensures _ (e.0 ∙ nan_first _ _ e.1))

pub returns-in_err-q : goal.returns-in_err-q
unfolding step_row
returns-in_err-q c =
    let e = c.in_err-q.ensures in
    step_refused _ _ _ _ _ c.from_residual-in_err-q.ensures.1
    (promotion_floats _ _ _ _ c.in_ok-promoted_width_row.ensures _ (e.0 ∙ nan_second _ _ e.1))

pub returns-in_err-unit_row : goal.returns-in_err-unit_row
unfolding step_row
returns-in_err-unit_row c =
    step_refused _ _ _ _ _ c.from_residual-in_err-unit_row.ensures.1
    (promotion_floats _ _ _ _ c.in_ok-promoted_width_row.ensures _ (rw (c.in_ok-c.ensures, c.in_ok-q.ensures) at c.in_err-unit_row.ensures))

-- the body's floats are refused by no row
fit : (c : In_ok-unit_row) → 0 ≡ unit_row (float_at c.args.body.now 0) (float_at c.args.body.now 8)
fit c = rw (c.in_ok-c.ensures, c.in_ok-q.ensures) at c.in_ok-unit_row.ensures

pub returns-in_err-refuse_if : goal.returns-in_err-refuse_if
unfolding step_row
returns-in_err-refuse_if c =
    step_refused _ _ _ _ _ c.from_residual-in_err-refuse_if.ensures.1
    (promotion_limit _ _ _ _ c.in_ok-promoted_width_row.ensures _ (fit (goal.at.returns-in_err-refuse_if c).In_ok-unit_row)
    (rw (c.widest.ensures, c.promotion_row.ensures) at c.in_err-refuse_if.ensures))

pub returns : goal.returns
unfolding step_row
returns c =
    step_taken _ _ _ _
    (promotion_limit _ _ _ _ c.in_ok-promoted_width_row.ensures _ (fit (goal.at.returns c).In_ok-unit_row)
    (rw (c.widest.ensures, c.promotion_row.ensures) at c.in_ok-refuse_if.ensures))
    (rw (c.in_ok-c.ensures, c.in_ok-q.ensures))
