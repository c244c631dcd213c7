-- The survey, the ending, the folding and the report that stand beside a refusal: every number of theirs is 0, the Pauli the identity on no qubits.
use Rattle.framelaws.specs.Survey.{Survey}
use Rattle.paulilaws.specs.Pauli.{identity}
use Rattle.runlaws.specs.Calls.{Ending, Folding}
use Rattle.run_exports.specs.Report.{ReportSeen}

abbrev pub no_survey : Survey
no_survey = record { width = 0; steps = 0; greatest = 0; scratch = 0 }

abbrev pub no_ending : Ending
no_ending = record { width = 0; steps = 0 }

abbrev pub no_folding : Folding
no_folding = record { end = identity 0; size = 0 }

abbrev pub no_report : ReportSeen
no_report = record { kind = 0; mask = 0 }
