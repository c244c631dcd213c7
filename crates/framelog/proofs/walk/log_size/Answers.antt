-- behind the step that was read
use mathlib.Core.Path.{◌≡◌, sym, ap}
use mathlib.Core.List.{[]}
use Prim.Native.Nat.{◌+◌}
use native.Mathlib.Omega.{arith}
use Rattle.steps.proofs.Ended.{none_left}
use Rattle.steps.specs.Meaning.{cursor_of, step_of}
use Rattle.framelog.proofs.Counting.{Counted, counting_outset, counted, all_counted}
use borrow.Author.Rules.{rules}
use Rattle.framelog.proofs.walk.log_size.Goals as goal
use Rattle.framelog.proofs.walk.log_size.Goals.{After-flag_count-count, Joined-read, in_default, in_default-2}

pub loop-step-init : goal.loop-step-init
loop-step-init c = counting_outset _ _ _ c.requires

behind : (c : After-flag_count-count) → let w = c.loop-step.invariant in
    Counted w (step_of c.in-Ok-Step.step) (cursor_of c.in-Ok-Step.next) c.flag_count-count.result
behind c =
    counted c.loop-step.invariant _ _ _ (sym (rw c.in-Ok-Step.field-0-is at c.in-Ok-Step.ensures)) c.flag_count-count.ensures

pub overflow_add-count : goal.overflow_add-count
overflow_add-count c = omega (arith, (behind c).few)

pub loop-step-smaller : goal.loop-step-smaller
loop-step-smaller c = (behind c).less

pub loop-step-preserved : goal.loop-step-preserved
loop-step-preserved c = (behind c).next

pub overflow_add-result : goal.overflow_add-result
overflow_add-result c = let w = c.loop-step.invariant in omega (arith, w.counts, w.few)

ended : (c : Joined-read) → c.loop-step.invariant.steps ≡ []
ended c = elim c.match-read.branch [
  | in_default w ↦ none_left c.loop-step.invariant.left c.read.result c.read.ensures (λ t d h. search rules)
  | in_default-2 w ↦ none_left c.loop-step.invariant.left c.read.result c.read.ensures (λ t d h. search rules)
]

pub returns : goal.returns
returns c = ap (λ n. n + 17) (all_counted c.loop-step.invariant (ended (goal.at.returns c).Joined-read))
