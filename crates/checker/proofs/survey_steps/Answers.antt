-- what was read is the step
use mathlib.Core.Path.{◌≡◌, ◌∙◌}
use native.Mathlib.Omega.{arith}
use Rattle.refusals.proofs.Asked.{refused_at_row}
use Rattle.runlaws.specs.Reading.{read_at}
use Rattle.runlaws.specs.Reading.Read.{step_read}
use Rattle.callers.specs.Meaning.{limits_of}
use Rattle.steps.specs.Meaning.{cursor_of, step_of}
use Rattle.checker.proofs.Surveying.{at_start, moves, surveyable, one_more, refused, past_end, ended_here}
use Rattle.checker.proofs.survey_steps.Goals as goal
use Rattle.checker.proofs.survey_steps.Goals.{In-Step}

pub loop-step-init : goal.loop-step-init
loop-step-init c = at_start _ _ _ c.requires.0 c.requires.1

pub returns-in_err-step : goal.returns-in_err-step
returns-in_err-step c = refused_at_row _ _ _ c.from_residual.ensures.1 ∙ refused c.loop-step.invariant _ _ c.in_err-step.ensures

step_got : (c : In-Step) → let a = c.args in
    step_read (step_of c.in-Step.step) (cursor_of c.in-Step.next) ≡ read_at (limits_of a.limits) a.run.now (cursor_of c.loop-step.cursor)
step_got c = rw c.in-Step.is at c.in_ok-step.ensures

pub surveyed-survey-requires : goal.surveyed-survey-requires
surveyed-survey-requires c = surveyable c.loop-step.invariant _ _ (step_got (goal.at.surveyed-survey-requires c).In-Step)

pub loop-step-smaller : goal.loop-step-smaller
loop-step-smaller c =
    let m = moves c.loop-step.invariant _ _ (step_got (goal.at.loop-step-smaller c).In-Step) in
    omega arith

pub loop-step-preserved : goal.loop-step-preserved
loop-step-preserved c =
    rw c.surveyed-survey.ensures (one_more c.loop-step.invariant _ _ (step_got (goal.at.loop-step-preserved c).In-Step))

pub returns-in-End : goal.returns-in-End
returns-in-End c = past_end c.loop-step.invariant _ (rw c.in-End.is at c.in_ok-step.ensures) c.if-last-run.true

pub returns-in-End-2 : goal.returns-in-End-2
returns-in-End-2 c = ended_here c.loop-step.invariant _ (rw c.in-End.is at c.in_ok-step.ensures) c.if-last-run.false
