use borrow.Author.Tests.{eq-eqb, ne_eqb}
use Rattle.run_exports.specs.Reading.{step_back}
use Rattle.run_exports.proofs.given.StepFromGivenStep.from.Goals as goal

pub returns-then-given-eq-ROTATION : goal.returns-then-given-eq-ROTATION
unfolding step_back
returns-then-given-eq-ROTATION c = rw (eq-eqb _ _ c.if-given-eq-ROTATION.true)

pub returns-then-given-eq-PROMOTION : goal.returns-then-given-eq-PROMOTION
unfolding step_back
returns-then-given-eq-PROMOTION c = rw (ne_eqb _ _ c.if-given-eq-ROTATION.false, eq-eqb _ _ c.if-given-eq-PROMOTION.true)

pub returns-then-given-eq-PROJECTION : goal.returns-then-given-eq-PROJECTION
unfolding step_back
returns-then-given-eq-PROJECTION c =
    rw (ne_eqb _ _ c.if-given-eq-ROTATION.false, ne_eqb _ _ c.if-given-eq-PROMOTION.false, eq-eqb _ _ c.if-given-eq-PROJECTION.true)

pub returns-then-given-eq-QUARTER_TURN : goal.returns-then-given-eq-QUARTER_TURN
unfolding step_back
returns-then-given-eq-QUARTER_TURN c =
    rw (ne_eqb _ _ c.if-given-eq-ROTATION.false, ne_eqb _ _ c.if-given-eq-PROMOTION.false, ne_eqb _ _ c.if-given-eq-PROJECTION.false, eq-eqb _ _ c.if-given-eq-QUARTER_TURN.true)

pub returns : goal.returns
unfolding step_back
returns c =
    rw (ne_eqb _ _ c.if-given-eq-ROTATION.false, ne_eqb _ _ c.if-given-eq-PROMOTION.false, ne_eqb _ _ c.if-given-eq-PROJECTION.false, ne_eqb _ _ c.if-given-eq-QUARTER_TURN.false)
