use Rattle.std.proofs.Common.{sym, ◌∙◌}
use Rattle.answers.specs.Row.{first_none}
use Rattle.refusals.proofs.Asked.{asked_first}
use Rattle.activepauli.specs.Active.{active_of}
use Rattle.activepauli.specs.Rows.{pauli_row}
use Rattle.passing.proofs.Rows.{placed_asked}
use Rattle.passing.proofs.placed_row.Goals as goal

pub returns-in_err-pauli_row : goal.returns-in_err-pauli_row
returns-in_err-pauli_row c =
    asked_first _ _ (pauli_row (active_of c.args.pauli)) _ c.from_residual.ensures.1 c.in_err-pauli_row.ensures ∙ placed_asked _ _

pub returns : goal.returns
returns c =
    let Q = active_of c.args.pauli in
    c.refuse_if.ensures ∙ sym (first_none (pauli_row Q) _ (sym c.in_ok-pauli_row.ensures)) ∙ placed_asked Q c.args.width
