use mathlib.Core.Path.{refl, sym, ap, ◌∙◌}
use native.Mathlib.Nat.{add-mod}
use Rattle.answers.specs.Answer.Answer.{accepted}
use Rattle.paulilaws.specs.Pauli.{same}
use Rattle.paulilaws.specs.Frame.{raised}
use Rattle.refusals.proofs.Asked.{asked}
use Rattle.activepauli.specs.Active.{active_of}
use Rattle.activepauli.specs.Rows.{pauli_row, pauli_answered, pauli_value}
use Rattle.activepauli.specs.Calls.{raised_call}
use Rattle.activepauli.proofs.ActivePauli.raised.Goals as goal

pub returns-in_err-pauli_row : goal.returns-in_err-pauli_row
unfolding raised_call
returns-in_err-pauli_row c =
    let a = c.args in
    let P = active_of a.self in
    asked _ _ (pauli_row P) active_of (raised a.exponent P) c.from_residual.ensures.1 c.in_err-pauli_row.ensures
    ∙ pauli_answered (raised a.exponent P) P

pub returns : goal.returns
unfolding raised_call raised
returns c =
    let a = c.args in
    let P = active_of a.self in
    ap accepted (same refl (sym (add-mod P.k a.exponent 4)) refl refl) ∙ pauli_value (raised a.exponent P) P c.in_ok-pauli_row.ensures
