use Prim.Native.Nat.{◌-◌}
use lib.ListN.{length}
use Rattle.framelaws.specs.Survey as frame
use Rattle.runlaws.specs.Run.{mapped, walk}
use Rattle.callers.specs.Meaning.{limits_of}
use Rattle.steps.specs.Meaning.{cursor_of}
use Rattle.checker.specs.Meaning.{survey_fields_of}
use Rattle.checker.proofs.Surveying.{Surveying}
use Rattle.checker.proofs.survey_steps.Given as goal

abbrev pub invariant-loop-step : goal.invariant-loop-step
invariant-loop-step l =
    Surveying (limits_of l.limits) l.run (mapped (frame.survey l.width) (walk (limits_of l.limits) (length l.run) l.run (record { at = 4; width = l.width })))
    (cursor_of l.cursor) (survey_fields_of l.survey)

abbrev pub decreases-loop-step : goal.decreases-loop-step
decreases-loop-step l = length l.run - l.cursor.at
