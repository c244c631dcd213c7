use mathlib.Core.Path.{sym, ◌∙◌}
use Rattle.answers.specs.Row.{answered}
use Rattle.paulis.specs.Strings.{pauli_of}
use Rattle.refusals.proofs.Asked.{asked, refused_by}
use Rattle.verdicts.specs.Flag.{behind}
use Rattle.pauli_exports.proofs.set.Goals as goal

pub returns-in_err-set : goal.returns-in_err-set
unfolding behind
returns-in_err-set c = rw (← c.letter.ensures, ← c.in_err-set.ensures) (refused_by pauli_of _ _ c.from_residual.ensures.1)

pub returns-in_err-flag_row : goal.returns-in_err-flag_row
unfolding behind
returns-in_err-flag_row c =
    let step = c.from_residual-in_err-flag_row in
    let a = asked step.result _ _ pauli_of (pauli_of c.in_ok-set.set) step.ensures.1 c.in_err-flag_row.ensures in
    let b = refused_by pauli_of step.result _ step.ensures.1 in
    rw (← c.letter.ensures, ← c.in_ok-set.ensures, sym a ∙ b) b

pub returns-in_err-flag_row-2 : goal.returns-in_err-flag_row-2
unfolding behind answered
returns-in_err-flag_row-2 c =
    let step = c.from_residual-in_err-flag_row-2 in
    rw (← c.letter.ensures, ← c.in_ok-set.ensures, ← c.in_ok-flag_row.ensures) (asked step.result _ _ pauli_of _ step.ensures.1 c.in_err-flag_row-2.ensures)

pub returns : goal.returns
unfolding behind answered
returns c = rw (← c.letter.ensures, ← c.in_ok-set.ensures, ← c.in_ok-flag_row.ensures, ← c.in_ok-flag_row-2.ensures)
