use Prim.Native.Nat.{◌-◌}
use lib.ListN.{length}
use Rattle.framelaws.specs.Memory.{memory_of}
use Rattle.callers.specs.Meaning.{limits_of}
use Rattle.steps.specs.Meaning.{cursor_of}
use Rattle.runner.proofs.Underway.{Underway}
use Rattle.runner.proofs.run_steps.Given as goal

abbrev pub invariant-loop-step : goal.invariant-loop-step
invariant-loop-step l =
    Underway (limits_of l.limits) l.run (memory_of l.initial.re l.initial.im l.initial.scratch_re l.initial.scratch_im) (cursor_of l.cursor) (memory_of l.re l.im l.scratch_re l.scratch_im)

abbrev pub decreases-loop-step : goal.decreases-loop-step
decreases-loop-step l =
    length l.run - l.cursor.at
