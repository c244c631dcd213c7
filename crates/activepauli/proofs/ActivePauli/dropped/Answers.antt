use mathlib.Core.Path.{refl, sym, ap, ◌∙◌}
use native.Mathlib.Omega.{arith}
use Rattle.answers.specs.Answer.Answer.{accepted}
use Rattle.paulilaws.specs.Pauli.{same}
use Rattle.paulilaws.specs.Frame.{dropped}
use Rattle.refusals.proofs.Asked.{asked}
use Rattle.activepauli.specs.Active.{active_of}
use Rattle.activepauli.specs.Rows.{qubit_row, qubit_answered, qubit_value, qubit_passed}
use Rattle.activepauli.specs.Calls.{dropped_call}
use Rattle.activepauli.proofs.ActivePauli.dropped.Goals as goal

pub returns-in_err-qubit_row : goal.returns-in_err-qubit_row
unfolding dropped_call
returns-in_err-qubit_row c =
    let a = c.args in
    let P = active_of a.self in
    asked _ _ (qubit_row P a.q) active_of (dropped a.q P) c.from_residual.ensures.1 c.in_err-qubit_row.ensures
    ∙ qubit_answered (dropped a.q P) P a.q

pub overflow_sub-result : goal.overflow_sub-result
overflow_sub-result c = omega (arith, qubit_passed (active_of c.args.self) c.args.q (sym c.in_ok-qubit_row.ensures))

pub returns : goal.returns
unfolding dropped_call dropped
returns c =
    let a = c.args in
    let P = active_of a.self in
    ap accepted (same refl refl c.drop_bit.ensures c.drop_bit-2.ensures) ∙ qubit_value (dropped a.q P) P a.q c.in_ok-qubit_row.ensures
