-- `put_frames`: what Underway says at a cursor.
use Rattle.std.proofs.Common.{◌≡◌, [], sym, ap, ◌∙◌, arith}
use Rattle.activepauli.specs.Active.{active_of}
use Rattle.framelaws.specs.Caller.{Caller, service}
use Rattle.passing.specs.Accepted.{past_unrefused, past_is}
use Rattle.runlaws.specs.Going.{Gone, going_step}
use Rattle.runlaws.specs.Reading.{read_at}
use Rattle.steps.proofs.Ended.{none_left}
use Rattle.steps.specs.Meaning.{cursor_of, step_of, read_of}
use Rattle.reports.specs.Lengths.{step_most}
use Rattle.reports.proofs.Underway.{outset, at_most, here_narrow, turn, end_narrow, over}
use Rattle.reports.proofs.walk.put_frames.Goals as goal
use Rattle.reports.proofs.walk.put_frames.Goals.{After-read, In-Ok-Step, in_default, in_default-2}

pub loop-step-init : goal.loop-step-init
loop-step-init c = outset _ _ _ c.requires

-- what is read, by the service's rows
read_is : (c : After-read) → read_of c.read.result ≡ read_at service c.args.run.now (cursor_of c.loop-step.cursor)
read_is c = c.read.ensures ∙ ap (λ (k : Caller). read_at k c.args.run.now (cursor_of c.loop-step.cursor)) c.limits-limits.ensures

-- the walk behind the step that was read
gone : (c : In-Ok-Step) → let t = step_of c.in-Ok-Step.step in
    Gone service c.args.run.now (cursor_of c.loop-step.cursor) (active_of c.loop-step.frame) c.loop-step.invariant.steps t (cursor_of c.in-Ok-Step.next)
gone c =
    going_step c.loop-step.invariant.going _ _
    (ap (λ (k : Caller). read_at k c.args.run.now (cursor_of c.loop-step.cursor)) (sym c.limits-limits.ensures) ∙ sym (rw c.in-Ok-Step.field-0-is at c.in-Ok-Step.ensures))

pub put_step-end-requires : goal.put_step-end-requires
put_step-end-requires c =
    let w = c.loop-step.invariant in
    (here_narrow w (gone (goal.at.put_step-end-requires c).In-Ok-Step), omega (arith, w.small, at_most w))

pub unwrap-requires : goal.unwrap-requires
unwrap-requires c = past_unrefused _ _ (gone (goal.at.unwrap-requires c).In-Ok-Step).row c.past.result c.past.ensures

pub overflow_add-number : goal.overflow_add-number
overflow_add-number c =
    let w = c.loop-step.invariant in
    record { fits = omega (arith, w.number, at_most w) }

pub loop-step-smaller : goal.loop-step-smaller
loop-step-smaller c = (gone (goal.at.loop-step-smaller c).In-Ok-Step).less

pub loop-step-preserved : goal.loop-step-preserved
loop-step-preserved c =
    let w = c.loop-step.invariant in
    let g = gone (goal.at.loop-step-preserved c).In-Ok-Step in
    let narrow = here_narrow w g in
    let did = past_is _ _ g.row c.past.result c.past.ensures c.unwrap.result c.unwrap.ensures in
    turn w g did.1 (step_most _ _ (omega (arith, w.number, at_most w)) narrow.frame narrow.step) c.put_step-end.ensures

pub put_end-requires : goal.put_end-requires
put_end-requires c =
    let w = c.loop-step.invariant in
    let read = read_is (goal.at.put_end-requires c).After-read in
    let none : w.steps ≡ [] = elim c.match-read.branch [
      | in_default b ↦ none_left w.going.left c.read.result read (λ t d e. cc)
      | in_default-2 b ↦ none_left w.going.left c.read.result read (λ t d e. cc)
    ] in
    (end_narrow w none, omega (arith, w.small, at_most w))

pub returns : goal.returns
returns c =
    let w = c.loop-step.invariant in
    let read = read_is (goal.at.returns c).After-read in
    let none : w.steps ≡ [] = elim c.match-read.branch [
      | in_default b ↦ none_left w.going.left c.read.result read (λ t d e. cc)
      | in_default-2 b ↦ none_left w.going.left c.read.result read (λ t d e. cc)
    ] in
    over w none c.put_end.ensures
