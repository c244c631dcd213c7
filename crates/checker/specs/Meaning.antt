-- What the checker's declared types mean.
use Rattle.framelaws.specs.Survey as frame
use Rattle.runlaws.specs.Calls.{CheckedRun}
use Rattle.checker.specs.declared.Survey.{Survey}
use Rattle.checker.specs.declared.Checked.{Checked}

abbrev pub survey_fields_of : Survey → frame.Survey
survey_fields_of v = record { width = v.width; steps = v.steps; greatest = v.greatest; scratch = v.scratch }

abbrev pub checked_of : Checked → CheckedRun
checked_of k = record { start = k.start; survey = survey_fields_of k.survey }
