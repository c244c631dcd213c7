-- The step of a number in a run's bytes.
use Rattle.std.specs.Prelude.{◌≡◌, List, ℕ, ◌+◌, Float}
use Rattle.answers.specs.Answer.Answer.{accepted}
use Rattle.amplitudelaws.specs.Step.{Step}
use Rattle.framelaws.specs.Caller.{Caller}
use Rattle.framelaws.specs.Reported.{StepAt}
use Rattle.runlaws.specs.Flags.{fields_size}
use Rattle.runlaws.specs.Reading.{Cursor, read_at}
use Rattle.runlaws.specs.Reading.Read.{step_read}
use Rattle.runlaws.specs.Run.{Run, run_of}

-- Step number i of the run s is t: there are i steps before it, so that 0 is the first field behind start. Its field begins behind the start field's four bytes and the fields of
-- those before it, and is read there as t.
pub record StepOf (caller : Caller) (s : List ℕ) (i : ℕ) (t : Step Float) : Type 0 where
  pub run : Run
  pub is : run_of caller s ≡ accepted run
  pub at : StepAt run.steps i t
  pub place : ℕ
  pub begins : place ≡ 4 + fields_size at.before
  pub width : ℕ
  pub behind : Cursor
  pub read : read_at caller s (record { at = place; width = width }) ≡ step_read t behind
