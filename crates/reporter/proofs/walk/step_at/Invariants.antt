use Rattle.std.proofs.Common.{◌≡◌, List, ℕ, ◌-◌}
use Rattle.std.specs.Prelude.{Float}
use Rattle.std.proofs.Math.Option.{Option}
use Rattle.std.proofs.Math.ListN.{get_elem?}
use Rattle.activepauli.specs.Active.{active_of}
use Rattle.paulilaws.specs.Pauli.{Pauli}
use Rattle.amplitudelaws.specs.Step.{Step}
use Rattle.framelaws.specs.Caller.{Caller}
use Rattle.framelaws.specs.Reporting.{Framed, framed_steps}
use Rattle.runlaws.specs.Going.{Going}
use Rattle.runlaws.specs.Reading as run
use Rattle.runlaws.specs.OnStart.{run_in}
use Rattle.callers.specs.Meaning.{limits_of}
use Rattle.steps.specs.Meaning.{cursor_of}
use Rattle.reporter.proofs.walk.step_at.Given as goal

-- at a cursor, with the frame there: the step that is `left` steps on is the one that was asked for
pub record Underway (caller : Caller) (s : List ℕ) (asked : Option (Framed Float)) (c : run.Cursor) (Q : Pauli) (left : ℕ) : Type 0 where
  pub steps : List (Step Float)
  pub going : Going caller s c Q steps
  pub is : get_elem? (framed_steps Q steps) left ≡ asked

abbrev pub invariant-loop-i : goal.invariant-loop-i
invariant-loop-i l =
    let steps = (run_in (limits_of l.limits) l.run).steps in
    Underway (limits_of l.limits) l.run (get_elem? (framed_steps (active_of l.initial.frame) steps) l.number) (cursor_of l.cursor) (active_of l.frame) (l.number - l._i)
