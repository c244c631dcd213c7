-- the walk behind the step that was read
-- the step that is left behind, and the Pauli then
-- the walk is behind the last step
use mathlib.Core.Path.{◌≡◌, sym}
use mathlib.Core.List.{[]}
use Rattle.activepauli.specs.Active.{active_of}
use Rattle.passing.specs.Accepted.{past_unrefused, past_is}
use Rattle.runlaws.specs.Going.{Gone, going_step}
use Rattle.callers.specs.Meaning.{limits_of}
use Rattle.steps.proofs.Ended.{none_left}
use Rattle.steps.specs.Meaning.{cursor_of, step_of}
use Rattle.framelog.proofs.Writing.{outset, flag_fits, turn, pauli_fits, last_long, all_written}
use borrow.Author.Rules.{rules}
use Rattle.framelog.proofs.walk.write_log.Goals as goal
use Rattle.framelog.proofs.walk.write_log.Goals.{In-Ok-Step, Joined-read, in_default, in_default-2}

pub loop-step-init : goal.loop-step-init
loop-step-init c = outset _ _ _ _ c.requires.on_start c.requires.pauli_in_bounds

gone : (c : In-Ok-Step) → let a = c.args in
    let w = c.loop-step.invariant in
    let t = step_of c.in-Ok-Step.step in
    let next = cursor_of c.in-Ok-Step.next in
    Gone (limits_of a.limits) a.run.now (cursor_of c.loop-step.cursor) (active_of c.loop-step.held) w.steps t next
gone c =
    going_step c.loop-step.invariant.going _ _ (sym (rw c.in-Ok-Step.field-0-is at c.in-Ok-Step.ensures))

pub unwrap-past-requires : goal.unwrap-past-requires
unwrap-past-requires c = past_unrefused _ _ (gone (goal.at.unwrap-past-requires c).In-Ok-Step).row _ c.past.ensures

pub put_flag-to-requires : goal.put_flag-to-requires
put_flag-to-requires c = flag_fits c.loop-step.invariant _

pub loop-step-smaller : goal.loop-step-smaller
loop-step-smaller c = (gone (goal.at.loop-step-smaller c).In-Ok-Step).less

pub loop-step-preserved : goal.loop-step-preserved
loop-step-preserved c =
    let g = gone (goal.at.loop-step-preserved c).In-Ok-Step in
    let passes = past_is _ _ g.row _ c.past.ensures _ c.unwrap-past.ensures in
    turn c.loop-step.invariant g _ _ _ _ passes.0 passes.1 c.put_flag-to.ensures.out_after c.put_flag-to.ensures.value

ended : (c : Joined-read) → c.loop-step.invariant.steps ≡ []
ended c = elim c.match-read.branch [
  | in_default w ↦ none_left c.loop-step.invariant.going.left c.read.result c.read.ensures (λ t d h. search rules)
  | in_default-2 w ↦ none_left c.loop-step.invariant.going.left c.read.result c.read.ensures (λ t d h. search rules)
]

pub put-requires : goal.put-requires
put-requires c = pauli_fits c.loop-step.invariant (ended (goal.at.put-requires c).Joined-read)

pub shape_of-out : goal.shape_of-out
shape_of-out c =
    last_long c.loop-step.invariant (ended (goal.at.shape_of-out c).Joined-read) _ c.put.ensures

pub returns : goal.returns
returns c =
    all_written c.loop-step.invariant (ended (goal.at.returns c).Joined-read) _ c.put.ensures
