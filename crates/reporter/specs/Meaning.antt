-- What the reporter's declared types mean.
use Rattle.std.specs.Prelude.{Float, Option, Some, None}
use Rattle.activepauli.specs.Active.{active_of}
use Rattle.framelaws.specs.Reporting as frame
use Rattle.steps.specs.Meaning.{step_of}
use Rattle.reporter.specs.declared.Flag.{Flag}
use Rattle.reporter.specs.declared.Framed.{Framed}

abbrev pub flag_of : Flag → frame.Report
flag_of f = frame.Report.flagged f.changed f.mask

abbrev pub told_of : Option Flag → frame.Report
told_of (Some f) = flag_of f
told_of None = frame.Report.no_flag

abbrev pub framed_of : Framed → frame.Framed Float
framed_of f = record { frame = active_of f.frame; step = step_of f.step }
