-- `list_asked`: the byte 32 that is found in the line decides what is listed.
use Rattle.activepauli.specs.Active.{active_of}
use Rattle.reports.proofs.Asking.{written, one_asked, all_asked}
use Rattle.reports.proofs.list_asked.Goals as goal

pub returns-then-space-line : goal.returns-then-space-line
returns-then-space-line c =
    let a = c.args in
    written (one_asked a.line.now a.run.now (active_of a.pauli) c.find-space.result c.find-space.ensures.0 c.number.result
    c.if-space-line.true c.number.ensures) c.list_step.ensures

pub returns : goal.returns
returns c =
    let a = c.args in
    written (all_asked a.line.now a.run.now (active_of a.pauli) c.find-space.result c.find-space.ensures.0 c.if-space-line.false)
    c.list_steps.ensures
