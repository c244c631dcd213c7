-- the walk behind the step that was read
-- no steps are left
-- what is written in the end, over the output as it was lent
use mathlib.Core.Path.{◌≡◌, refl, sym, ap, ◌∙◌}
use mathlib.Core.List.{[], ◌++◌}
use native.Mathlib.Omega.{arith}
use lib.ListN.{length, drop, length-take}
use Rattle.paulilaws.specs.Pauli as pauli
use Rattle.activepauli.specs.Active.{active_of}
use Rattle.callers.specs.Meaning.{limits_of}
use Rattle.framelaws.specs.Folding.{folded_end}
use Rattle.runlaws.specs.FoldedRun.{folded_run}
use Rattle.runlaws.specs.Going.{Gone, going_step}
use Rattle.runlaws.specs.OnStart.{run_in}
use Rattle.runlaws.specs.WholeRun.{run_allowed}
use Rattle.steps.proofs.Ended.{none_left}
use Rattle.steps.specs.Meaning.{cursor_of, step_of}
use Rattle.folder.proofs.Turn.{outset, start_fits, copied_tail, put_back, left_room, left_small, turn, rest_room, all_written, all_long}
use borrow.Author.Rules.{rules, Fits-under}
use Rattle.folder.proofs.fold_steps.Goals as goal
use Rattle.folder.proofs.fold_steps.Goals.{After-copy, In-Ok-Step, Joined-read, in_default, in_default-2}

pub slice_bounds-copy-end : goal.slice_bounds-copy-end
slice_bounds-copy-end c = (run_allowed _ _ _ c.requires.foldable.read).begins

pub copy-to-requires : goal.copy-to-requires
copy-to-requires c =
    let a = c.args in
    let four = start_fits (limits_of a.limits) a.run.now a.width c.requires.foldable a.out.now c.requires.run_in_bounds in
    simp length-take (omega (arith, four))

pub loop-step-init : goal.loop-step-init
loop-step-init c =
    outset _ _ _ c.requires.foldable c.args.out.now _ _ _ _ c.requires.run_in_bounds c.identity-held.ensures refl c.copy-to.ensures.0 c.copy-to.ensures.1

gone : (c : In-Ok-Step) → let w = c.loop-step.invariant in
    let a = c.args in
    let t = step_of c.in-Ok-Step.step in
    let next = cursor_of c.in-Ok-Step.next in
    Gone (limits_of a.limits) a.run.now (cursor_of c.loop-step.cursor) (active_of c.loop-step.held) w.steps t next
gone c =
    going_step c.loop-step.invariant.going _ _ (sym (rw c.in-Ok-Step.field-0-is at c.in-Ok-Step.ensures))

pub slice_bounds-write_left-count : goal.slice_bounds-write_left-count
slice_bounds-write_left-count c = let g = gone (goal.at.slice_bounds-write_left-count c).In-Ok-Step in omega (arith, g.read.next)

pub slice_bounds-write_left-start : goal.slice_bounds-write_left-start
slice_bounds-write_left-start c = let g = gone (goal.at.slice_bounds-write_left-start c).In-Ok-Step in omega (arith, g.read.next)

pub slice_bounds-write_left-end : goal.slice_bounds-write_left-end
slice_bounds-write_left-end c = let g = gone (goal.at.slice_bounds-write_left-end c).In-Ok-Step in g.read.inside

pub write_left-count-requires : goal.write_left-count-requires
write_left-count-requires c =
    let g = gone (goal.at.write_left-count-requires c).In-Ok-Step in
    record { step_value = g.row; field_in_bounds = left_room c.loop-step.invariant g }

pub overflow_add-to : goal.overflow_add-to
overflow_add-to c =
    let small = left_small c.loop-step.invariant (gone (goal.at.overflow_add-to c).In-Ok-Step) in
    Fits-under _ _ 65537 (omega (arith, small, c.write_left-count.ensures.0)) tt

pub folded-held-requires : goal.folded-held-requires
folded-held-requires c = (gone (goal.at.folded-held-requires c).In-Ok-Step).row

pub loop-step-smaller : goal.loop-step-smaller
loop-step-smaller c = (gone (goal.at.loop-step-smaller c).In-Ok-Step).less

pub loop-step-preserved : goal.loop-step-preserved
loop-step-preserved c =
    turn c.loop-step.invariant (gone (goal.at.loop-step-preserved c).In-Ok-Step) _ _ _ _ c.write_left-count.ensures.0 c.write_left-count.ensures.1 refl c.folded-held.ensures

ended : (c : Joined-read) → c.loop-step.invariant.steps ≡ []
ended c = elim c.match-read.branch [
  | in_default w ↦ none_left c.loop-step.invariant.going.left c.read.result c.read.ensures (λ t d h. search rules)
  | in_default-2 w ↦ none_left c.loop-step.invariant.going.left c.read.result c.read.ensures (λ t d h. search rules)
]

pub slice_bounds-copy-count-2 : goal.slice_bounds-copy-count-2
slice_bounds-copy-count-2 c = c.loop-step.invariant.going.left.inside

pub slice_bounds-copy-start-2 : goal.slice_bounds-copy-start-2
slice_bounds-copy-start-2 c = c.loop-step.invariant.going.left.inside

pub slice_bounds-copy-count-3 : goal.slice_bounds-copy-count-3
slice_bounds-copy-count-3 c = c.loop-step.invariant.inside

pub slice_bounds-copy-start-3 : goal.slice_bounds-copy-start-3
slice_bounds-copy-start-3 c = c.loop-step.invariant.inside

pub copy-requires : goal.copy-requires
copy-requires c = rest_room c.loop-step.invariant (ended (goal.at.copy-requires c).Joined-read)

done : (c : After-copy) → c.loop-step.invariant.steps ≡ [] → let R = run_in (limits_of c.args.limits) c.args.run.now in
    let left = folded_run R c.args.run.now in
    (active_of c.loop-step.held ≡ folded_end (pauli.identity R.width) R.steps)
    × (put_back c.loop-step.out c.loop-step.to c.copy.new.to ≡ left ++ drop (length left) c.args.out.now)
done c none =
    let end = all_written c.loop-step.invariant none _ _ c.copy.ensures.1 refl in
    let tail = copied_tail _ _ _ c.requires.foldable c.args.out.now _ _ refl c.copy-to.ensures.1 in
    (end.0, end.1 ∙ ap (λ l. folded_run (run_in (limits_of c.args.limits) c.args.run.now) c.args.run.now ++ l) tail)

pub shape_of-out : goal.shape_of-out
shape_of-out c =
    let run = c.args.run.now in
    ap length (done (goal.at.shape_of-out c).After-copy (ended (goal.at.shape_of-out c).Joined-read)).1 ∙ all_long (folded_run (run_in (limits_of c.args.limits) run) run) c.args.out.now c.requires.run_in_bounds

pub returns : goal.returns
returns c =
    let did = done (goal.at.returns c).After-copy (ended (goal.at.returns c).Joined-read) in
    record { result_value = did.0; out_after = did.1 }
