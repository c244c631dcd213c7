use mathlib.Core.List.{◌++◌}
use Prim.Native.Nat.{◌-◌}
use lib.ListN.{length, drop}
use Rattle.activepauli.specs.Active.{active_of}
use Rattle.callers.specs.Meaning.{limits_of}
use Rattle.steps.specs.Meaning.{cursor_of}
use Rattle.framelog.specs.LogIn.{log_in}
use Rattle.framelog.proofs.Writing.{Writing}
use Rattle.framelog.proofs.walk.write_log.Given as goal

abbrev pub invariant-loop-step : goal.invariant-loop-step
invariant-loop-step l =
    let log = log_in (limits_of l.limits) l.run (active_of l.initial.held) in
    Writing (limits_of l.limits) l.run (log ++ drop (length log) l.initial.out) l.initial.out (cursor_of l.cursor) (active_of l.held) l.to l.out

abbrev pub decreases-loop-step : goal.decreases-loop-step
decreases-loop-step l = length l.run - l.cursor.at
