-- the head of the field, by what `field` answered
use mathlib.Core.Path.{sym, ap}
use native.Mathlib.Omega.{arith}
use Rattle.fields.specs.Meaning.{body_call}
use Rattle.fields.proofs.Fields.{field_none, body_placed}
use Rattle.fields.proofs.body.Goals as goal

pub overflow_add-result : goal.overflow_add-result
overflow_add-result c = let p = body_placed _ _ _ _ (c.in-Ok.ensures) in omega arith

pub slice_bounds-result-count : goal.slice_bounds-result-count
slice_bounds-result-count c = (body_placed _ _ _ _ (c.in-Ok.ensures)).starts

pub slice_bounds-result-start : goal.slice_bounds-result-start
slice_bounds-result-start c = (body_placed _ _ _ _ (c.in-Ok.ensures)).starts

pub slice_bounds-result-end : goal.slice_bounds-result-end
slice_bounds-result-end c = (body_placed _ _ _ _ (c.in-Ok.ensures)).ends

pub returns-in-Ok : goal.returns-in-Ok
returns-in-Ok c = (body_placed _ _ _ _ (c.in-Ok.ensures)).held

pub returns-in-Err : goal.returns-in-Err
unfolding body_call
returns-in-Err c = sym (ap body_call (field_none _ _ (c.in-Err.ensures)))
