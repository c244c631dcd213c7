use borrow.Author.Tests.{ne_eqb}
use Rattle.runlaws.specs.Reading.{decoded}
use Rattle.reader.specs.Meaning.{step_call}
use Rattle.reader.proofs.decoded.Goals as goal

pub returns-in-2-eq34 : goal.returns-in-2-eq34
unfolding decoded
returns-in-2-eq34 c = rw (c.in-2-eq34.is-0, c.in-2-eq34.is-1) (c.rotation.ensures _)

pub returns-in-3-eq16 : goal.returns-in-3-eq16
unfolding decoded
returns-in-3-eq16 c = rw (c.in-3-eq16.is-0, c.in-3-eq16.is-1) c.promotion.ensures

pub returns-in-4-eq27 : goal.returns-in-4-eq27
unfolding decoded
returns-in-4-eq27 c = rw (c.in-4-eq27.is-0, c.in-4-eq27.is-1) (c.projection.ensures _)

pub returns-in-5-eq17 : goal.returns-in-5-eq17
unfolding decoded
returns-in-5-eq17 c = rw (c.in-5-eq17.is-0, c.in-5-eq17.is-1) (c.correction.ensures _)

pub returns-in-7-eq17 : goal.returns-in-7-eq17
unfolding decoded
returns-in-7-eq17 c = rw (c.in-7-eq17.is-0, c.in-7-eq17.is-1) (c.quarter_turn.ensures _)

pub returns-in_default : goal.returns-in_default
unfolding decoded step_call
returns-in_default c = rw (c.in_default.is-0, ne_eqb _ _ c.in_default.is-1.1)

pub returns-in_default-2 : goal.returns-in_default-2
unfolding decoded step_call
returns-in_default-2 c = rw (c.in_default.is-0, ne_eqb _ _ c.in_default.is-1.1)

pub returns-in_default-3 : goal.returns-in_default-3
unfolding decoded step_call
returns-in_default-3 c = rw (c.in_default.is-0, ne_eqb _ _ c.in_default.is-1.1)

pub returns-in_default-4 : goal.returns-in_default-4
unfolding decoded step_call
returns-in_default-4 c = rw (c.in_default.is-0, ne_eqb _ _ c.in_default.is-1.1)

pub returns-in_default-5 : goal.returns-in_default-5
unfolding decoded step_call
returns-in_default-5 c = rw (c.in_default.is-0, ne_eqb _ _ c.in_default.is-1.1)

pub returns-in_default-6 : goal.returns-in_default-6
unfolding decoded step_call
returns-in_default-6 c =
    let other = c.in_default.is-0 in
    rw (ne_eqb _ _ other.0.0.0.0.1, ne_eqb _ _ other.0.0.0.1, ne_eqb _ _ other.0.0.1, ne_eqb _ _ other.0.1, ne_eqb _ _ other.1)
