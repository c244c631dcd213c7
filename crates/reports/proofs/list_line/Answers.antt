-- `list_line`: by its cases, what is read of the line makes the text.
use Rattle.std.proofs.Common.{sym}
use Rattle.std.proofs.Math.Seq.{length-take-le}
use Rattle.reports.proofs.Asking.{written, read_done, read_refused}
use Rattle.reports.proofs.list_line.Goals as goal

pub slice_bounds-pauli_string-end : goal.slice_bounds-pauli_string-end
slice_bounds-pauli_string-end c = sym (length-take-le c.find-space.result c.args.line.now c.find-space.ensures.1)

pub returns-in-Ok : goal.returns-in-Ok
returns-in-Ok c =
    let a = c.args in
    written (read_done a.line.now a.run.now c.find-space.result c.find-space.ensures.0 c.in-Ok.ensures c.lowest_words.ensures) c.list_asked.ensures

pub returns-in-Err : goal.returns-in-Err
returns-in-Err c =
    let a = c.args in
    written (read_refused a.line.now a.run.now c.find-space.result c.find-space.ensures.0 c.in-Err.refusal c.in-Err.ensures) c.list_refused.ensures
