use Rattle.std.proofs.Common.{◌-◌, length}
use Rattle.activepauli.specs.Active.{active_of}
use Rattle.callers.specs.Meaning.{limits_of}
use Rattle.framelaws.specs.Carrying.{carried_steps, end_pauli}
use Rattle.runlaws.specs.Flags.{flagged}
use Rattle.runlaws.specs.OnStart.{run_in}
use Rattle.steps.specs.Meaning.{cursor_of}
use Rattle.carrier.proofs.Turn.{Carrying}
use Rattle.carrier.proofs.carry_steps.Given as goal

abbrev pub invariant-loop-step : goal.invariant-loop-step
invariant-loop-step l =
    let Q = active_of l.initial.held in
    let steps = (run_in (limits_of l.limits) l.run).steps in
    Carrying (limits_of l.limits) l.run (end_pauli Q steps) (flagged 4 (carried_steps Q steps) l.initial.out) (cursor_of l.cursor) (active_of l.held) l.out

abbrev pub decreases-loop-step : goal.decreases-loop-step
decreases-loop-step l = length l.run - l.cursor.at
