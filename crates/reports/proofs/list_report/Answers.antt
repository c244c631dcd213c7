-- `list_report`: the byte 10 that is found parts the line from the run.
use mathlib.Core.Path.{sym}
use lib.Seq.{length-take-le}
use Rattle.reports.proofs.Asking.{written, input_parts}
use Rattle.reports.proofs.list_report.Goals as goal

pub slice_bounds-list_line-end : goal.slice_bounds-list_line-end
slice_bounds-list_line-end c = sym (length-take-le c.find-end.result c.args.input.now c.find-end.ensures.1)

pub returns : goal.returns
returns c =
    let a = c.args in
    written (input_parts a.input.now c.find-end.result c.find-end.ensures.0 c.min-from.result c.min-from.ensures) c.list_line.ensures
