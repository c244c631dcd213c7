use mathlib.Core.Path.{ap, subst}
use Rattle.activepauli.specs.Active.{active_of}
use Rattle.steps.specs.Meaning.{step_of}
use Rattle.framelaws.specs.Suited.{Suited}
use Rattle.passing.proofs.suited.carried_step.Goals as goal

pub invariant_of-pair : goal.invariant_of-pair
invariant_of-pair c =
    record { paired = subst (Suited (active_of c.args.pauli)) (ap step_of c.in-Rotation.is) c.requires }

pub invariant_of-pair-in-Projection : goal.invariant_of-pair-in-Projection
invariant_of-pair-in-Projection c =
    record { paired = (subst (Suited (active_of c.args.pauli)) (ap step_of c.in-Projection.is) c.requires).0 }
