use Rattle.std.specs.Prelude.{◌≡◌, refl, Option, Result, Ok, Err}
use Rattle.refusals.specs.declared.Refusal.{Refusal}
use Rattle.refusals.specs.declared.Refusal.TheVariants.{Whole, At}
use Rattle.refusals.specs.Refusal.{refusal_answer_of}
use Rattle.reporter.specs.declared.Flag.{Flag}
use Rattle.reporter.specs.Meaning.{told_of}
use Rattle.runlaws.specs.Run.{mapped}
use Rattle.verdicts.proofs.Seen.{meant, refusal_seen}
use Rattle.run_exports.specs.Report.{report_seen}
use Rattle.run_exports.proofs.seen.SeenReportFromResultOptionFlagRefusal.from.Goals as goal

seen_of : (x : Result (Option Flag) Refusal) → refusal_answer_of (λ r. report_seen (told_of r)) x ≡ mapped report_seen (refusal_answer_of told_of x)
unfolding mapped
seen_of (Ok r) = refl
seen_of (Err (Whole r)) = refl
seen_of (Err (At p)) = refl

pub returns : goal.returns
returns c = rw c.kind_and_mask-kind.ensures (refusal_seen (meant c.verdict_and_value-report.ensures (λ r. report_seen (told_of r))) (seen_of c.args.answer))
