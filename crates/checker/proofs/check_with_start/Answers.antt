-- the start width beside the survey
use mathlib.Core.Path.{◌≡◌, sym, ap, ◌∙◌}
use mathlib.Core.List.{List}
use mathlib.Core.Option.{some}
use Prim.Native.Nat.{ℕ, ◌≤◌, ◌<◌}
use native.Mathlib.Omega.{arith}
use lib.Ieee.{Float}
use lib.ListN.{length}
use Rattle.answers.specs.Answer.{Answer}
use Rattle.answers.specs.Answer.Answer.{refused_at}
use Rattle.amplitudelaws.specs.Step.{Step}
use Rattle.framelaws.specs.Caller.{Caller}
use Rattle.framelaws.specs.Survey.{Survey, survey}
use Rattle.runlaws.specs.Calls.{survey_of, CheckedRun, checked_run_of, checking_with_start}
use Rattle.runlaws.specs.Field.{most_bytes, field_at}
use Rattle.runlaws.specs.Run.{Run, mapped, walk, start_width, run_of}
use Rattle.runlaws.specs.Mapped.{mapped_mapped}
use Rattle.runlaws.specs.WholeRun.{start_read, run_too_wide, run_begun}
use Rattle.fields.proofs.Started.{started, unstarted}
use Rattle.refusals.proofs.Asked.{refused_at_row}
use Rattle.checker.proofs.check_with_start.Goals as goal

unbegun : (caller : Caller) (s : List ℕ) {n i : ℕ} → run_of caller s ≡ refused_at n i → refused_at n i ≡ checking_with_start caller s
unfolding checking_with_start mapped
unbegun caller s e = sym (ap (mapped checked_run_of) e)

too_wide : (caller : Caller) (s : List ℕ) (n : ℕ) → length s ≤ most_bytes → start_width (field_at s 0) ≡ some n → caller.widest < n
    → refused_at caller.start_row 0 ≡ checking_with_start caller s
unfolding checking_with_start mapped
too_wide caller s n short e wide = sym (ap (mapped checked_run_of) (run_too_wide caller s short n e wide))

beside : ℕ → Survey → CheckedRun
beside n v = record { start = n; survey = v }

begun : (caller : Caller) (s : List ℕ) (n : ℕ) → length s ≤ most_bytes → start_width (field_at s 0) ≡ some n → n ≤ caller.widest
    → (a : Answer Survey) → a ≡ mapped (survey n) (walk caller (length s) s (record { at = 4; width = n }))
    → mapped (beside n) a ≡ checking_with_start caller s
unfolding checking_with_start survey_of beside
begun caller s n short e within a is =
    let steps = walk caller (length s) s (record { at = 4; width = n }) in
    let whole : List (Step Float) → Run = λ ts. record { width = n; steps = ts } in
    ap (mapped (beside n)) is
    ∙ mapped_mapped (beside n) (survey n) steps
    ∙ sym (ap (mapped checked_run_of) (run_begun caller s short n e within) ∙ mapped_mapped checked_run_of whole steps)

pub returns-in_err-width : goal.returns-in_err-width
returns-in_err-width c = refused_at_row _ _ _ c.from_residual.ensures.1 ∙ unbegun _ _ (unstarted _ c.in_err-width.ensures _)

pub returns-then-widest-width : goal.returns-then-widest-width
returns-then-widest-width c =
    let begins = started _ c.in_ok-width.ensures in
    rw c.start_row.ensures (too_wide _ _ _ begins.0 begins.1 (omega (arith, c.widest.ensures)))

pub survey_steps-requires : goal.survey_steps-requires
survey_steps-requires c =
    let begins = started _ c.in_ok-width.ensures in
    ((start_read _ _ begins.1).begins, begins.0)

pub returns-in_err-survey : goal.returns-in_err-survey
unfolding mapped beside
returns-in_err-survey c =
    let begins = started _ c.in_ok-width.ensures in
    refused_at_row _ _ _ c.from_residual-in_err-survey.ensures.1 ∙ begun _ _ _ begins.0 begins.1 (omega (arith, c.widest.ensures)) _ c.in_err-survey.ensures

pub returns : goal.returns
unfolding mapped beside
returns c =
    let begins = started _ c.in_ok-width.ensures in
    begun _ _ _ begins.0 begins.1 (omega (arith, c.widest.ensures)) _ c.in_ok-survey.ensures
