use Prim.Native.Nat.{◌-◌}
use lib.ListN.{length}
use Rattle.callers.specs.Meaning.{limits_of}
use Rattle.runlaws.specs.FoldedRun.{folded_run}
use Rattle.runlaws.specs.OnStart.{run_in}
use Rattle.steps.specs.Meaning.{cursor_of}
use Rattle.folder.proofs.Turn.{Sizing}
use Rattle.folder.proofs.left_size.Given as goal

abbrev pub invariant-loop-step : goal.invariant-loop-step
invariant-loop-step l =
    Sizing (limits_of l.limits) l.run (length (folded_run (run_in (limits_of l.limits) l.run) l.run)) (cursor_of l.cursor) l.size

abbrev pub decreases-loop-step : goal.decreases-loop-step
decreases-loop-step l = length l.run - l.cursor.at
