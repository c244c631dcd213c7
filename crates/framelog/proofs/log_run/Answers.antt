-- `framelog::log_run` meets its contract: what the check says, then its rows, then the log that is written.
use Rattle.std.proofs.Common.{refl, sym, ◌∙◌, arith}
use Rattle.refusals.proofs.Asked.{number_some, refused_whole, refused_there}
use Rattle.activepauli.specs.Active.{active_of}
use Rattle.callers.specs.Meaning.{limits_of}
use Rattle.framelog.proofs.Answered.{not_logged, started, log_refused, log_ready, logged, logs_under}
use Rattle.framelog.proofs.log_run.Goals as goal

pub returns-in_err-width : goal.returns-in_err-width
returns-in_err-width c =
    let a = c.args in
    let Q = active_of a.pauli in
    let did = logs_under a.run.now Q a.out.now c.limits-limits.ensures (not_logged (limits_of c.limits-limits.result) a.run.now Q _ _ (sym c.in_err-width.ensures) a.out.now) in
    (refused_there (λ size. size) _ _ c.from_residual.ensures.1 ∙ did.0, did.1)

pub log_size-size-requires : goal.log_size-size-requires
log_size-size-requires c = started (limits_of c.limits-limits.result) c.args.run.now (active_of c.args.pauli) (sym c.in_ok-width.ensures)

pub returns-in_err-log_row : goal.returns-in_err-log_row
returns-in_err-log_row c =
    let a = c.args in
    let Q = active_of a.pauli in
    let did = logs_under a.run.now Q a.out.now c.limits-limits.ensures
    (log_refused (limits_of c.limits-limits.result) a.run.now Q (sym c.in_ok-width.ensures) c.log_size-size.ensures a.out.now c.in_err-log_row.ensures
    (λ none. omega (arith, none, number_some c.in_err-log_row.field-0.0))) in
    (refused_whole (λ size. size) _ _ c.from_residual-in_err-log_row.ensures.1 ∙ did.0, did.1)

pub write_log-requires : goal.write_log-requires
write_log-requires c =
    let a = c.args in
    let ready = log_ready (limits_of c.limits-limits.result) a.run.now (active_of a.pauli) (sym c.in_ok-width.ensures) c.log_size-size.ensures a.out.now c.in_ok-log_row.ensures refl in
    record { on_start = ready.0; pauli_in_bounds = ready.1 }

pub returns : goal.returns
returns c =
    let a = c.args in
    let Q = active_of a.pauli in
    logs_under a.run.now Q a.out.now c.limits-limits.ensures
    (logged (limits_of c.limits-limits.result) a.run.now Q (sym c.in_ok-width.ensures) c.log_size-size.ensures a.out.now c.in_ok-log_row.ensures refl _ c.write_log.ensures)
