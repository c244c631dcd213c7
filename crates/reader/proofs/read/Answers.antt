-- the field, with the run's length, then the cursor's width, then the step
use borrow.Author.Rules.{rules}
use mathlib.Core.Path.{refl, ◌∙◌}
use native.Mathlib.Omega.{arith}
use Rattle.fields.proofs.Fields.{field_of, field_short}
use Rattle.reader.proofs.Reading.{no_field, too_wide, field_read, read_err, placed}
use Rattle.reader.proofs.read.Goals as goal

pub returns-in_err-head : goal.returns-in_err-head
returns-in_err-head c = read_err _ _ c.from_residual.ensures.1 ∙ no_field _ _ _ c.in_err-head.ensures

pub returns-then-widest-cursor : goal.returns-then-widest-cursor
returns-then-widest-cursor c =
    let here = field_of _ _ _ _ _ c.in_ok-head.ensures refl in
    too_wide _ _ _ (field_short _ _ _ here) (omega (arith, c.widest.ensures))

pub returns : goal.returns
returns c =
    let here = field_of _ _ _ _ _ c.in_ok-head.ensures c.body-held.ensures in
    placed c.args.cursor.at _ _ _ (λ e p h. search rules) c.map_err.ensures.cases ∙ c.read_field.ensures ∙ field_read _ _ _ (field_short _ _ _ here) _ here (omega (arith, c.widest.ensures))
