use Rattle.std.proofs.Common.{List, ℕ, ◌-◌, length}
use Rattle.std.specs.Prelude.{Float}
use Rattle.activepauli.specs.Active.{active_of}
use Rattle.paulilaws.specs.Pauli.{Pauli}
use Rattle.amplitudelaws.specs.Step.{Step}
use Rattle.framelaws.specs.Caller.{Caller}
use Rattle.framelaws.specs.Carrying.{end_pauli}
use Rattle.runlaws.specs.Going.{Passing}
use Rattle.runlaws.specs.Reading as run
use Rattle.callers.specs.Meaning.{limits_of}
use Rattle.steps.specs.Meaning.{cursor_of}
use Rattle.seeker.specs.Steps.{steps_of}
use Rattle.seeker.proofs.search.Search.end_pauli.Given as goal

-- at a cursor, with the Pauli as it is there
pub record Underway (caller : Caller) (s : List ℕ) (last : Pauli) (c : run.Cursor) (Q : Pauli) : Type 0 where
  pub steps : List (Step Float)
  pub passing : Passing caller s last c Q steps

abbrev pub invariant-loop-step : goal.invariant-loop-step
invariant-loop-step l =
    Underway (limits_of l.self.limits) l.self.run.now (end_pauli (active_of l.initial.held) (steps_of l.self)) (cursor_of l.cursor) (active_of l.held)

abbrev pub decreases-loop-step : goal.decreases-loop-step
decreases-loop-step l = length l.self.run.now - l.cursor.at
