-- What the runner's steps need: that no row refuses them, and room for the states on the way.
use Rattle.std.specs.Prelude.{◌≡◌, true, List, ℕ, Float}
use Rattle.answers.specs.Answer.Answer.{accepted}
use Rattle.amplitudelaws.specs.State.{room_for, room}
use Rattle.amplitudelaws.specs.Step.{Step, width_after}
use Rattle.framelaws.specs.Caller.{Caller}
use Rattle.framelaws.specs.Rows.{step_row}
use Rattle.framelaws.specs.Survey.{mixed_amplitudes}
use Rattle.framelaws.specs.Memory.{Memory}
use Rattle.framelaws.specs.Allowed.{Placed}
use Rattle.runlaws.specs.Run.{Run, run_of}
use Rattle.runlaws.specs.Calls.{survey_of, memory_row}

-- a step at width n, whoever calls
pub record StepReady (n : ℕ) (t : Step Float) (m : Memory) : Type 0 where
  pub caller : Caller
  pub placed : Placed n t
  pub row : step_row caller n t ≡ 0
  pub before : room n m.state ≡ true
  pub behind : room (width_after n t) m.state ≡ true
  pub scratch : room_for (mixed_amplitudes n t) m.scratch ≡ true

-- a whole run that starts at this width, row 13 passed
pub record RunReady (caller : Caller) (s : List ℕ) (width : ℕ) (m : Memory) : Type 0 where
  pub run : Run
  pub is : run_of caller s ≡ accepted run
  pub start : width ≡ run.width
  pub row : memory_row (survey_of run) m ≡ 0
