use Rattle.std.proofs.Common.{sym, ap, ◌∙◌, arith}
use borrow.Author.Tests.{not-false}
use Rattle.answers.specs.Row.{first_none, row_passed}
use Rattle.paulilaws.proofs.Fitting.{fits_admitted}
use Rattle.refusals.proofs.Asked.{asked_first}
use Rattle.activepauli.specs.Active.{active_of}
use Rattle.activepauli.specs.Rows.{pauli_row}
use Rattle.passing.proofs.Rows.{widened_asked}
use Rattle.passing.proofs.row.widened_row.Goals as goal

pub returns-in_err-pauli_row : goal.returns-in_err-pauli_row
returns-in_err-pauli_row c =
    asked_first _ _ (pauli_row (active_of c.args.pauli)) _ c.from_residual.ensures.1 c.in_err-pauli_row.ensures ∙ widened_asked _

pub widened-requires : goal.widened-requires
unfolding pauli_row
widened-requires c = (fits_admitted _ (not-false _ (row_passed _ 3 0 (omega arith) (sym c.in_ok-pauli_row.ensures)).0)).width

pub returns : goal.returns
returns c =
    let Q = active_of c.args.pauli in
    c.pauli_row-2.ensures ∙ ap pauli_row c.widened.ensures ∙ sym (first_none (pauli_row Q) _ (sym c.in_ok-pauli_row.ensures)) ∙ widened_asked Q
