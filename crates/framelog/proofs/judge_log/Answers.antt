-- `framelog::judge_log` meets its contract: what the check says, then its rows, then whether the log is right.
use Rattle.std.proofs.Common.{◌≡◌, refl, sym, ap, ◌∙◌, arith}
use Rattle.refusals.proofs.Asked.{number_some, refused_whole, refused_there}
use Rattle.activepauli.specs.Active.{active_of}
use Rattle.callers.specs.Meaning.{caller_of, limits_of}
use Rattle.framelaws.specs.Caller.{Caller}
use Rattle.runlaws.specs.Calls.{judging}
use Rattle.framelog.proofs.Answered.{not_judged, started, judge_refused, judge_ready, judged}
use Rattle.framelog.proofs.judge_log.Goals as goal
use Rattle.framelog.proofs.judge_log.Goals.{After-limits-limits}

-- under the caller's limits the same is asked
under : (c : After-limits-limits) → let a = c.args in
    judging (limits_of c.limits-limits.result) a.run.now (active_of a.pauli) a.log.now ≡ judging (caller_of a.caller) a.run.now (active_of a.pauli) a.log.now
under c = ap (λ (k : Caller). judging k c.args.run.now (active_of c.args.pauli) c.args.log.now) c.limits-limits.ensures

pub returns-in_err-width : goal.returns-in_err-width
returns-in_err-width c =
    let a = c.args in
    refused_there (λ right. right) _ _ c.from_residual.ensures.1
    ∙ not_judged (limits_of c.limits-limits.result) a.run.now (active_of a.pauli) _ _ (sym c.in_err-width.ensures) a.log.now
    ∙ under (goal.at.returns-in_err-width c).After-limits-limits

pub log_size-size-requires : goal.log_size-size-requires
log_size-size-requires c = started (limits_of c.limits-limits.result) c.args.run.now (active_of c.args.pauli) (sym c.in_ok-width.ensures)

pub returns-in_err-log_row : goal.returns-in_err-log_row
returns-in_err-log_row c =
    let a = c.args in
    refused_whole (λ right. right) _ _ c.from_residual-in_err-log_row.ensures.1
    ∙ judge_refused (limits_of c.limits-limits.result) a.run.now (active_of a.pauli) (sym c.in_ok-width.ensures) c.log_size-size.ensures a.log.now
    c.in_err-log_row.ensures (λ none. omega (arith, none, number_some c.in_err-log_row.field-0.0))
    ∙ under (goal.at.returns-in_err-log_row c).After-limits-limits

pub is_right-requires : goal.is_right-requires
is_right-requires c =
    let a = c.args in
    let ready = judge_ready (limits_of c.limits-limits.result) a.run.now (active_of a.pauli) (sym c.in_ok-width.ensures) c.log_size-size.ensures a.log.now
    c.in_ok-log_row.ensures refl in
    record { on_start = ready.0; log_len = ready.1 }

pub returns : goal.returns
returns c =
    let a = c.args in
    judged (limits_of c.limits-limits.result) a.run.now (active_of a.pauli) (sym c.in_ok-width.ensures) c.log_size-size.ensures a.log.now
    c.in_ok-log_row.ensures refl _ c.is_right.ensures
    ∙ under (goal.at.returns c).After-limits-limits
