use Rattle.std.proofs.Common.{sym, ◌∙◌}
use Rattle.answers.specs.Row.{first_none}
use Rattle.refusals.proofs.Asked.{asked_first}
use Rattle.activepauli.specs.Active.{active_of}
use Rattle.activepauli.specs.Rows.{pauli_row}
use Rattle.passing.proofs.Rows.{pair_asked}
use Rattle.passing.proofs.row.pair_row.Goals as goal

pub returns-in_err-pauli_row : goal.returns-in_err-pauli_row
returns-in_err-pauli_row c =
    asked_first _ _ (pauli_row (active_of c.args.pauli)) _ c.from_residual.ensures.1 c.in_err-pauli_row.ensures ∙ pair_asked _ _

pub returns-in_err-pauli_row-2 : goal.returns-in_err-pauli_row-2
returns-in_err-pauli_row-2 c =
    let Q = active_of c.args.pauli in
    let P = active_of c.args.other in
    asked_first _ _ (pauli_row P) _ c.from_residual-in_err-pauli_row-2.ensures.1 c.in_err-pauli_row-2.ensures
    ∙ sym (first_none (pauli_row Q) _ (sym c.in_ok-pauli_row.ensures)) ∙ pair_asked Q P

pub returns : goal.returns
returns c =
    let Q = active_of c.args.pauli in
    let P = active_of c.args.other in
    c.refuse_if.ensures ∙ sym (first_none (pauli_row P) _ (sym c.in_ok-pauli_row-2.ensures))
    ∙ sym (first_none (pauli_row Q) _ (sym c.in_ok-pauli_row.ensures)) ∙ pair_asked Q P
