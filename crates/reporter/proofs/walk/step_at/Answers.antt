-- The walk behind the step that was read, and what no step is: the end.
use Rattle.std.proofs.Common.{◌≡◌, refl, List, [], ℕ, suc, ◌-◌, sym, ap, arith}
use Rattle.std.specs.Prelude.{Float}
use Rattle.std.proofs.Math.Option.{Option, none, some}
use Rattle.activepauli.specs.Active.{active_of}
use Rattle.paulilaws.specs.Pauli.{Pauli}
use Rattle.amplitudelaws.specs.Step.{Step}
use Rattle.framelaws.specs.Caller.{Caller}
use Rattle.framelaws.specs.Carrying.{passed}
use Rattle.framelaws.specs.Reporting.{Framed, framed_steps}
use Rattle.callers.specs.Meaning.{limits_of}
use Rattle.passing.specs.Accepted.{past_unrefused, past_is}
use Rattle.runlaws.specs.Calls.{found}
use Rattle.runlaws.specs.Going.{Gone, going_outset, going_step}
use Rattle.runlaws.specs.Reading as run
use Rattle.steps.proofs.Ended.{none_left}
use Rattle.steps.specs.Meaning.{cursor_of, step_of}
use Rattle.reporter.proofs.walk.step_at.Invariants.{Underway}
use Rattle.reporter.proofs.walk.step_at.Goals as goal
use Rattle.reporter.proofs.walk.step_at.Goals.{In-Ok-Step}

module _ {caller : Caller} {s : List ℕ} {asked : Option (Framed Float)} {c : run.Cursor} {Q : Pauli} {left : ℕ} (w : Underway caller s asked c Q left) where
  module _ {t : Step Float} {d : run.Cursor} (g : Gone caller s c Q w.steps t d) where
    here : left ≡ 0 → some (record { frame = Q; step = t }) ≡ asked
    unfolding framed_steps
    here e = rw (g.steps_are, e) at w.is

    next : (k : ℕ) → left ≡ suc k → Underway caller s asked d (passed Q t) k
    unfolding framed_steps
    next k e = record { steps = g.after; going = g.going; is = rw (g.steps_are, e) at w.is }

  over : w.steps ≡ [] → none ≡ asked
  unfolding framed_steps
  over e = rw e at w.is

pub loop-i-init : goal.loop-i-init
loop-i-init c =
    let b = c.requires in
    let all : c.args.number - 0 ≡ c.args.number = omega arith in
    rw all (record { steps = _; going = going_outset _ _ _ _ b.read b.admitted b.width; is = refl })

gone : (c : In-Ok-Step) → let a = c.args in
    Gone (limits_of a.limits) a.run.now (cursor_of c.loop-i.cursor) (active_of c.loop-i.frame) c.loop-i.invariant.steps
    (step_of c.in-Ok-Step.step) (cursor_of c.in-Ok-Step.next)
gone c =
    going_step c.loop-i.invariant.going _ _ (sym (rw c.in-Ok-Step.field-0-is at c.in-Ok-Step.ensures))

pub unwrap-requires : goal.unwrap-requires
unwrap-requires c =
    past_unrefused _ _ (gone (goal.at.unwrap-requires c).In-Ok-Step).row c.past.result c.past.ensures

pub loop-i-preserved : goal.loop-i-preserved
loop-i-preserved c =
    let g = gone (goal.at.loop-i-preserved c).In-Ok-Step in
    let did = past_is _ _ g.row c.past.result c.past.ensures c.unwrap.result c.unwrap.ensures in
    rw did.1 (next c.loop-i.invariant g _ (omega arith))

pub returns-in_default : goal.returns-in_default
unfolding found
returns-in_default c =
    let w = c.loop-i.invariant in
    ap found (over w (none_left w.going.left c.read.result c.read.ensures (λ t d e. cc)))

pub returns-in_default-2 : goal.returns-in_default-2
unfolding found
returns-in_default-2 c =
    let w = c.loop-i.invariant in
    ap found (over w (none_left w.going.left c.read.result c.read.ensures (λ t d e. cc)))

pub returns-in_default-read : goal.returns-in_default-read
unfolding found
returns-in_default-read c =
    let w = c.loop-i.invariant in
    ap found (over w (none_left w.going.left c.read-2.result c.read-2.ensures (λ t d e. cc)))

pub returns-in_default-read-2 : goal.returns-in_default-read-2
unfolding found
returns-in_default-read-2 c =
    let w = c.loop-i.invariant in
    ap found (over w (none_left w.going.left c.read-2.result c.read-2.ensures (λ t d e. cc)))

pub returns : goal.returns
unfolding found
returns c =
    let w = c.loop-i.invariant in
    let g = going_step w.going _ _ (sym (rw c.in-Ok-Step-read.field-0-is at c.in-Ok-Step-read.ensures)) in
    ap found (here w g (omega arith))
