use Rattle.std.proofs.Common.{ap}
use Rattle.runlaws.specs.Run.{mapped}
use Rattle.verdicts.specs.Verdict.{seen_as}
use Rattle.run_exports.specs.Report.{report_seen}
use Rattle.run_exports.proofs.emulated.naribhush_report_emulated.Goals as goal

pub returns : goal.returns
returns c = seen_as c.from.ensures (ap (mapped report_seen) c.report_step.ensures)
