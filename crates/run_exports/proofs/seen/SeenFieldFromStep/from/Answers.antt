use Rattle.run_exports.proofs.seen.SeenFieldFromStep.from.Goals as goal

pub returns-in-Rotation : goal.returns-in-Rotation
returns-in-Rotation c = rw c.in-Rotation.is

pub returns-in-Promotion : goal.returns-in-Promotion
returns-in-Promotion c = rw (c.in-Promotion.is, c.identity_on_none-pauli.ensures)

pub returns-in-Projection : goal.returns-in-Projection
returns-in-Projection c = rw c.in-Projection.is

pub returns-in-Correction : goal.returns-in-Correction
returns-in-Correction c = rw c.in-Correction.is c.of_pauli.ensures

pub returns-in-QuarterTurn : goal.returns-in-QuarterTurn
returns-in-QuarterTurn c = rw c.in-QuarterTurn.is c.of_pauli-in-QuarterTurn.ensures
