use mathlib.Core.Path.{refl, sym}
use Rattle.answers.specs.Answer.{value_or}
use Rattle.answers.specs.Row.{answered_none, answered_some}
use Rattle.refusals.proofs.Asked.{number_some}
use Rattle.verdicts.specs.Verdict.{seen_as}
use Rattle.pauli_exports.proofs.naribhush_set_packed_bit.Goals as goal

pub returns-in-Err : goal.returns-in-Err
unfolding value_or
returns-in-Err c =
    rw (← c.in-Err.ensures) (seen_as (record { verdict = c.into.ensures; value = refl }) (sym (answered_some _ _ (number_some c.in-Err.row))))

pub returns : goal.returns
unfolding value_or
returns c = seen_as (record { verdict = c.accepted.ensures; value = c.set_packed_bit.ensures }) (sym (answered_none _ _ (sym c.in_default.ensures)))
