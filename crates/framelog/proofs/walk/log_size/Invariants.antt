use Prim.Native.Nat.{◌-◌}
use lib.ListN.{length}
use Rattle.callers.specs.Meaning.{limits_of}
use Rattle.runlaws.specs.FrameLog.{flags_of}
use Rattle.runlaws.specs.OnStart.{run_in}
use Rattle.steps.specs.Meaning.{cursor_of}
use Rattle.framelog.proofs.Counting.{Counting}
use Rattle.framelog.proofs.walk.log_size.Given as goal

abbrev pub invariant-loop-step : goal.invariant-loop-step
invariant-loop-step l =
    Counting (limits_of l.limits) l.run (length (flags_of (run_in (limits_of l.limits) l.run).steps)) (cursor_of l.cursor) l.count

abbrev pub decreases-loop-step : goal.decreases-loop-step
decreases-loop-step l = length l.run - l.cursor.at
