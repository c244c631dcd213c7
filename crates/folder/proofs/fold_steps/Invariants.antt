use Prim.Native.Nat.{◌-◌}
use lib.ListN.{length}
use Rattle.paulilaws.specs.Pauli as pauli
use Rattle.activepauli.specs.Active.{active_of}
use Rattle.callers.specs.Meaning.{limits_of}
use Rattle.framelaws.specs.Folding.{folded_end}
use Rattle.runlaws.specs.FoldedRun.{folded_run}
use Rattle.runlaws.specs.OnStart.{run_in}
use Rattle.steps.specs.Meaning.{cursor_of}
use Rattle.folder.proofs.Turn.{Writing}
use Rattle.folder.proofs.fold_steps.Given as goal

abbrev pub invariant-loop-step : goal.invariant-loop-step
invariant-loop-step l =
    let R = run_in (limits_of l.limits) l.run in
    Writing (limits_of l.limits) l.run (folded_end (pauli.identity R.width) R.steps) (folded_run R l.run) l.initial.out (cursor_of l.cursor) (active_of l.held) l.to l.out

abbrev pub decreases-loop-step : goal.decreases-loop-step
decreases-loop-step l = length l.run - l.cursor.at
