-- what was read is the step
-- after the loop
use Rattle.std.proofs.Common.{◌≡◌, sym, rules}
use Rattle.runlaws.specs.Reading.{read_at}
use Rattle.runlaws.specs.Reading.Read.{step_read}
use Rattle.callers.specs.Meaning.{limits_of}
use Rattle.steps.specs.Meaning.{cursor_of, step_of}
use Rattle.runner.proofs.Underway.{underway_outset, underway_ready, underway_step, underway_less, underway_end}
use Rattle.runner.proofs.run_steps.Goals as goal
use Rattle.runner.proofs.run_steps.Goals.{In-Ok-Step}

pub loop-step-init : goal.loop-step-init
loop-step-init c = underway_outset c.requires

step_got : (c : In-Ok-Step) → let a = c.args in
    read_at (limits_of a.limits) a.run.now (cursor_of c.loop-step.cursor) ≡ step_read (step_of c.in-Ok-Step.step) (cursor_of c.in-Ok-Step.next)
step_got c = sym (rw c.in-Ok-Step.field-0-is at c.in-Ok-Step.ensures)

pub take_step-requires : goal.take_step-requires
take_step-requires c =
    underway_ready c.loop-step.invariant _ _ (step_got (goal.at.take_step-requires c).In-Ok-Step)

pub loop-step-smaller : goal.loop-step-smaller
loop-step-smaller c =
    underway_less c.loop-step.invariant _ _ (step_got (goal.at.loop-step-smaller c).In-Ok-Step)

pub loop-step-preserved : goal.loop-step-preserved
loop-step-preserved c =
    underway_step c.loop-step.invariant _ _ (step_got (goal.at.loop-step-preserved c).In-Ok-Step) _ c.take_step.ensures

pub returns-in_default : goal.returns-in_default
returns-in_default c = underway_end c.loop-step.invariant c.read.result c.read.ensures (λ t d h. search rules)

pub returns-in_default-2 : goal.returns-in_default-2
returns-in_default-2 c = underway_end c.loop-step.invariant c.read.result c.read.ensures (λ t d h. search rules)
