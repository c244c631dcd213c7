use mathlib.Core.Path.{◌∙◌}
use Rattle.reader.proofs.Reading.{end_field, step_field, refused_field, narrowable, placed_err}
use Rattle.reader.proofs.read_field.Goals as goal

pub returns-then-head-is_empty : goal.returns-then-head-is_empty
returns-then-head-is_empty c = end_field _ _ _ (rw c.is_empty.ensures at c.if-head-is_empty.true)

pub returns-in_err-step : goal.returns-in_err-step
returns-in_err-step c =
    placed_err _ _ _ c.from_residual.ensures.1 ∙ refused_field _ _ _ (rw c.is_empty.ensures at c.if-head-is_empty.false) _ c.in_err-step.ensures

pub width_after-requires : goal.width_after-requires
width_after-requires c = narrowable _ _ _ _ c.in_ok-step.ensures

pub returns : goal.returns
returns c =
    step_field _ _ _ (rw c.is_empty.ensures at c.if-head-is_empty.false) _ _ c.in_ok-step.ensures c.width_after.ensures
