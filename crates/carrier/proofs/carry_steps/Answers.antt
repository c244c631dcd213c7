-- The walk behind the step that was read, and what no step is: the end.
use Rattle.std.proofs.Common.{sym}
use Rattle.activepauli.specs.Active.{active_of}
use Rattle.callers.specs.Meaning.{limits_of}
use Rattle.passing.specs.Accepted.{past_unrefused, past_is}
use Rattle.runlaws.specs.Going.{Gone, going_step}
use Rattle.steps.proofs.Ended.{none_left}
use Rattle.steps.specs.Meaning.{cursor_of, step_of}
use Rattle.carrier.proofs.Turn.{outset, turn, all_written}
use Rattle.carrier.proofs.carry_steps.Goals as goal
use Rattle.carrier.proofs.carry_steps.Goals.{In-Ok-Step}

pub loop-step-init : goal.loop-step-init
loop-step-init c = outset _ _ _ _ c.requires

gone : (c : In-Ok-Step) → let a = c.args in
    Gone (limits_of a.limits) a.run.now (cursor_of c.loop-step.cursor) (active_of c.loop-step.held) c.loop-step.invariant.steps
    (step_of c.in-Ok-Step.step) (cursor_of c.in-Ok-Step.next)
gone c =
    going_step c.loop-step.invariant.passing.going _ _ (sym (rw c.in-Ok-Step.field-0-is at c.in-Ok-Step.ensures))

pub unwrap-passage-requires : goal.unwrap-passage-requires
unwrap-passage-requires c =
    past_unrefused _ _ (gone (goal.at.unwrap-passage-requires c).In-Ok-Step).row c.past.result c.past.ensures

pub loop-step-smaller : goal.loop-step-smaller
loop-step-smaller c = (gone (goal.at.loop-step-smaller c).In-Ok-Step).less

pub loop-step-preserved : goal.loop-step-preserved
loop-step-preserved c =
    let g = gone (goal.at.loop-step-preserved c).In-Ok-Step in
    let did = past_is _ _ g.row c.past.result c.past.ensures c.unwrap-passage.result c.unwrap-passage.ensures in
    turn c.loop-step.invariant g _ _ _ did.0 did.1 c.write_flag.ensures

pub returns-in_default : goal.returns-in_default
returns-in_default c =
    let w = c.loop-step.invariant in
    all_written w (none_left w.passing.going.left c.read.result c.read.ensures (λ t d e. cc))

pub returns-in_default-2 : goal.returns-in_default-2
returns-in_default-2 c =
    let w = c.loop-step.invariant in
    all_written w (none_left w.passing.going.left c.read.result c.read.ensures (λ t d e. cc))
