use Rattle.std.proofs.Common.{refl, sym, ◌∙◌, arith}
use Rattle.activepauli.specs.Active.{active_of}
use Rattle.callers.specs.Meaning.{limits_of}
use Rattle.refusals.proofs.Asked.{number_some, refused_there, refused_whole}
use Rattle.reporter.proofs.Answered.{run_refused, row_refused, ready, walked}
use Rattle.reporter.specs.Meaning.{framed_of}
use Rattle.reporter.proofs.find_step.Goals as goal

pub returns-in_err-checked : goal.returns-in_err-checked
returns-in_err-checked c =
    let a = c.args in
    rw (← c.limits-limits.ensures)
    (refused_there framed_of _ _ c.from_residual.ensures.1 ∙ run_refused (limits_of c.limits-limits.result) a.run.now (active_of a.pauli) a.number _ _ (sym c.in_err-checked.ensures))

pub returns-in_err-placed_row : goal.returns-in_err-placed_row
returns-in_err-placed_row c =
    let a = c.args in
    rw (← c.limits-limits.ensures)
    (refused_whole framed_of _ _ c.from_residual-in_err-placed_row.ensures.1
    ∙ row_refused (limits_of c.limits-limits.result) a.run.now (active_of a.pauli) a.number (sym c.in_ok-checked.ensures) c.in_err-placed_row.ensures (λ none. omega (arith, none, number_some)))

pub step_at-requires : goal.step_at-requires
step_at-requires c =
    let a = c.args in
    ready (limits_of c.limits-limits.result) a.run.now (active_of a.pauli) a.number (sym c.in_ok-checked.ensures) c.in_ok-placed_row.ensures refl

pub returns-in_err-step_at : goal.returns-in_err-step_at
returns-in_err-step_at c =
    let a = c.args in
    rw (← c.limits-limits.ensures)
    (refused_whole framed_of _ _ c.from_residual-in_err-step_at.ensures.1
    ∙ walked (limits_of c.limits-limits.result) a.run.now (active_of a.pauli) a.number (sym c.in_ok-checked.ensures) c.in_ok-placed_row.ensures refl c.in_err-step_at.ensures)

pub returns : goal.returns
returns c =
    let a = c.args in
    rw (← c.limits-limits.ensures)
    (walked (limits_of c.limits-limits.result) a.run.now (active_of a.pauli) a.number (sym c.in_ok-checked.ensures) c.in_ok-placed_row.ensures refl c.in_ok-step_at.ensures)
