use mathlib.Core.Path.{sym, ◌∙◌}
use Rattle.answers.specs.Row.{first_none}
use Rattle.refusals.proofs.Asked.{asked_first}
use Rattle.activepauli.specs.Active.{active_of}
use Rattle.activepauli.specs.Rows.{pauli_row, pair_row}
use Rattle.activepauli.proofs.ActivePauli.pair_row.Goals as goal

pub returns-in_err-pauli_row : goal.returns-in_err-pauli_row
unfolding pair_row
returns-in_err-pauli_row c = asked_first _ _ (pauli_row (active_of c.args.self)) _ c.from_residual.ensures.1 c.in_err-pauli_row.ensures

pub returns-in_err-pauli_row-2 : goal.returns-in_err-pauli_row-2
unfolding pair_row
returns-in_err-pauli_row-2 c =
    let second
    = asked_first _ _ (pauli_row (active_of c.args.other)) _ c.from_residual-in_err-pauli_row-2.ensures.1 c.in_err-pauli_row-2.ensures in
    second ∙ sym (first_none (pauli_row (active_of c.args.self)) _ (sym c.in_ok-pauli_row.ensures))

pub returns : goal.returns
unfolding pair_row
returns c =
    let second = sym (first_none (pauli_row (active_of c.args.other)) _ (sym c.in_ok-pauli_row-2.ensures)) in
    c.refuse_if.ensures ∙ second ∙ sym (first_none (pauli_row (active_of c.args.self)) _ (sym c.in_ok-pauli_row.ensures))
