-- behind the step that was read
use mathlib.Core.Path.{sym}
use Rattle.steps.proofs.Ended.{none_left}
use Rattle.steps.specs.Meaning.{cursor_of, step_of}
use Rattle.folder.proofs.Turn.{Sized, sizing_outset, sized, all_sized}
use borrow.Author.Rules.{rules}
use Rattle.folder.proofs.left_size.Goals as goal
use Rattle.folder.proofs.left_size.Goals.{After-freed-size}

pub loop-step-init : goal.loop-step-init
loop-step-init c = sizing_outset _ _ _ c.requires

behind : (c : After-freed-size) → let w = c.loop-step.invariant in
    Sized w (step_of c.in-Ok-Step.step) (cursor_of c.in-Ok-Step.next) c.freed-size.result
behind c =
    sized c.loop-step.invariant _ _ _ (sym (rw c.in-Ok-Step.field-0-is at c.in-Ok-Step.ensures)) c.freed-size.ensures

pub overflow_sub-size : goal.overflow_sub-size
overflow_sub-size c = (behind c).enough

pub loop-step-smaller : goal.loop-step-smaller
loop-step-smaller c = (behind c).less

pub loop-step-preserved : goal.loop-step-preserved
loop-step-preserved c = (behind c).next

pub returns-in_default : goal.returns-in_default
returns-in_default c =
    let w = c.loop-step.invariant in
    all_sized w (none_left w.left c.read.result c.read.ensures (λ t d h. search rules))

pub returns-in_default-2 : goal.returns-in_default-2
returns-in_default-2 c =
    let w = c.loop-step.invariant in
    all_sized w (none_left w.left c.read.result c.read.ensures (λ t d h. search rules))
