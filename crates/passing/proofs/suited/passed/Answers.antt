use mathlib.Core.Path.{ap, subst}
use Rattle.activepauli.specs.Active.{active_of}
use Rattle.steps.specs.Meaning.{step_of}
use Rattle.framelaws.specs.Suited.{Suited}
use Rattle.passing.proofs.suited.passed.Goals as goal

pub widened-requires : goal.widened-requires
widened-requires c =
    (subst (Suited (active_of c.args.pauli)) (ap step_of c.in-Promotion.is) c.requires).0.width

pub past_projection-requires : goal.past_projection-requires
past_projection-requires c =
    (subst (Suited (active_of c.args.pauli)) (ap step_of c.in-Projection.is) c.requires).1

pub invariant_of-pair : goal.invariant_of-pair
invariant_of-pair c =
    record { paired = (subst (Suited (active_of c.args.pauli)) (ap step_of c.in-Projection.is) c.requires).0 }

pub invariant_of-pair-in-Correction : goal.invariant_of-pair-in-Correction
invariant_of-pair-in-Correction c =
    record { paired = subst (Suited (active_of c.args.pauli)) (ap step_of c.in-Correction.is) c.requires }

pub invariant_of-pair-in-QuarterTurn : goal.invariant_of-pair-in-QuarterTurn
invariant_of-pair-in-QuarterTurn c =
    record { paired = subst (Suited (active_of c.args.pauli)) (ap step_of c.in-QuarterTurn.is) c.requires }

pub signed-requires : goal.signed-requires
signed-requires c =
    (subst (Suited (active_of c.args.pauli)) (ap step_of c.in-Correction.is) c.requires).first
