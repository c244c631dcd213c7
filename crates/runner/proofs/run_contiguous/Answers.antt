-- `runner::run_contiguous` meets its contract: what the check says, then row 13, then what the steps leave.
use Rattle.std.proofs.Common.{◌≡◌, sym, ap, ◌∙◌, arith}
use Rattle.answers.specs.Answer.Answer.{accepted}
use Rattle.refusals.proofs.Asked.{number_some, refused_whole, refused_there}
use Rattle.framelaws.specs.Caller.{Caller}
use Rattle.framelaws.specs.Memory.{Memory, memory_of}
use Rattle.runlaws.specs.Calls.{checking_with_start, memory_row, running}
use Rattle.callers.specs.Meaning.{caller_of, limits_of}
use Rattle.checker.specs.Meaning.{survey_fields_of, checked_of}
use Rattle.runner.specs.Meaning.{finished_of}
use Rattle.runner.proofs.Outcomes.{runs_refused, runs_short, runs_ready, runs_finished}
use Rattle.runner.proofs.run_contiguous.Goals as goal
use Rattle.runner.proofs.run_contiguous.Goals.{In_ok-checked}

-- the run as it was checked, under the caller's limits
checked : (c : In_ok-checked) → let v = c.in_ok-checked.checked in
    checking_with_start (caller_of c.args.caller) c.args.run.now ≡ accepted (checked_of v)
checked c = sym (c.in_ok-checked.ensures ∙ ap (λ (k : Caller). checking_with_start k c.args.run.now) c.limits-limits.ensures)

pub returns-in_err-checked : goal.returns-in_err-checked
returns-in_err-checked c =
    let a = c.args in
    let m : Memory = memory_of a.re.now a.im.now a.scratch_re.now a.scratch_im.now in
    let told = c.in_err-checked.ensures ∙ ap (λ (k : Caller). checking_with_start k a.run.now) c.limits-limits.ensures in
    let did = runs_refused (caller_of a.caller) a.run.now m _ _ (sym told) in
    (refused_there finished_of _ _ c.from_residual.ensures.1 ∙ did.0, did.1)

pub returns-in_err-memory_row : goal.returns-in_err-memory_row
unfolding memory_row
returns-in_err-memory_row c =
    let a = c.args in
    let m : Memory = memory_of a.re.now a.im.now a.scratch_re.now a.scratch_im.now in
    let short = runs_short (caller_of a.caller) a.run.now m _ _ (checked (goal.at.returns-in_err-memory_row c).In_ok-checked) _ c.in_err-memory_row.ensures
    (λ e. omega (arith, e, number_some c.in_err-memory_row.field-0.0)) in
    (refused_whole finished_of _ _ c.from_residual-in_err-memory_row.ensures.1 ∙ short.0, short.1)

pub run_steps-requires : goal.run_steps-requires
unfolding memory_row
run_steps-requires c =
    let a = c.args in
    let m : Memory = memory_of a.re.now a.im.now a.scratch_re.now a.scratch_im.now in
    runs_ready (limits_of c.limits-limits.result) a.run.now m _ (survey_fields_of c.in_ok-checked.checked.survey) (sym c.in_ok-checked.ensures)
    (sym c.in_ok-memory_row.ensures)

pub returns : goal.returns
unfolding memory_row
returns c =
    let a = c.args in
    let m : Memory = memory_of a.re.now a.im.now a.scratch_re.now a.scratch_im.now in
    runs_finished (caller_of a.caller) a.run.now m _ (survey_fields_of c.in_ok-checked.checked.survey) (checked (goal.at.returns c).In_ok-checked)
    (sym c.in_ok-memory_row.ensures) (c.run_steps.ensures ∙ ap (λ (k : Caller). (running k a.run.now m).lent) c.limits-limits.ensures)
