use Rattle.std.proofs.Common.{◌≡◌, refl, ap, ◌∙◌}
use Rattle.std.specs.Prelude.{Float, Err}
use Rattle.answers.specs.Answer.{Answer}
use Rattle.answers.specs.Answer.Answer.{accepted}
use Rattle.framelaws.specs.Reporting.{report_of}
use Rattle.framelaws.specs.Reporting as frame
use Rattle.refusals.specs.declared.Refusal.{Refusal}
use Rattle.refusals.specs.declared.Refusal.TheVariants.{Whole, At}
use Rattle.refusals.specs.Refusal.{refusal_answer_of}
use Rattle.refusals.proofs.Asked.{refused_same}
use Rattle.runlaws.specs.Calls.{reporting}
use Rattle.runlaws.specs.Run.{mapped}
use Rattle.reporter.specs.Meaning.{framed_of, told_of}
use Rattle.reporter.proofs.report_step.Goals as goal

refused_mapped : (e : Refusal) → refusal_answer_of told_of (Err e) ≡ mapped report_of (refusal_answer_of framed_of (Err e))
unfolding mapped
refused_mapped (Whole r) = refl
refused_mapped (At p) = refl

pub returns-in_err-found : goal.returns-in_err-found
unfolding reporting
returns-in_err-found c =
    refused_same told_of _ _ c.from_residual.ensures.1 ∙ refused_mapped _ ∙ ap (λ (a : Answer (frame.Framed Float)). mapped report_of a) c.in_err-found.ensures

pub returns : goal.returns
unfolding reporting mapped
returns c =
    ap accepted c.report_of.ensures ∙ ap (λ (a : Answer (frame.Framed Float)). mapped report_of a) c.in_ok-found.ensures
