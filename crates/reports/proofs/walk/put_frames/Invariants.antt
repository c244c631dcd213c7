use Rattle.std.proofs.Common.{◌-◌, length}
use Rattle.activepauli.specs.Active.{active_of}
use Rattle.framelaws.specs.Caller.{service}
use Rattle.runlaws.specs.Calls.{frames_of}
use Rattle.runlaws.specs.OnStart.{run_in}
use Rattle.steps.specs.Meaning.{cursor_of}
use Rattle.reports.specs.Listing.{frames_text}
use Rattle.reports.proofs.Underway.{Underway}
use Rattle.reports.proofs.walk.put_frames.Given as goal

abbrev pub invariant-loop-step : goal.invariant-loop-step
invariant-loop-step l =
    Underway l.run (frames_text (frames_of (active_of l.initial.frame) (run_in service l.run))) l.initial.out (cursor_of l.cursor) (active_of l.frame) l.number l.end l.out

abbrev pub decreases-loop-step : goal.decreases-loop-step
decreases-loop-step l = length l.run - l.cursor.at
