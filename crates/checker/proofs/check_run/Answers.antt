-- a checked run without its start
use mathlib.Core.Path.{◌≡◌, ap, ◌∙◌}
use mathlib.Core.List.{List}
use Prim.Native.Nat.{ℕ}
use Rattle.answers.specs.Answer.{Answer}
use Rattle.framelaws.specs.Caller.{Caller}
use Rattle.framelaws.specs.Survey.{Survey}
use Rattle.runlaws.specs.Calls.{CheckedRun, checking, checked_run_of, checking_with_start}
use Rattle.runlaws.specs.Mapped.{mapped_mapped}
use Rattle.runlaws.specs.Run.{mapped, run_of}
use Rattle.refusals.proofs.Asked.{refused_at_row}
use Rattle.checker.proofs.check_run.Goals as goal

surveyed : CheckedRun → Survey
surveyed k = k.survey

without_start : (caller : Caller) (s : List ℕ) (a : Answer CheckedRun) → a ≡ checking_with_start caller s → mapped surveyed a ≡ checking caller s
unfolding checking checking_with_start surveyed
without_start caller s a e = ap (mapped surveyed) e ∙ mapped_mapped surveyed checked_run_of (run_of caller s)

pub returns-in_err-checked : goal.returns-in_err-checked
unfolding mapped surveyed
returns-in_err-checked c = refused_at_row _ _ _ c.from_residual.ensures.1 ∙ without_start _ _ _ c.in_err-checked.ensures

pub returns : goal.returns
unfolding mapped surveyed
returns c = without_start _ _ _ c.in_ok-checked.ensures
