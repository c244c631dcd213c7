use mathlib.Core.Path.{ap, ◌∙◌}
use mathlib.Core.Bool.{Bool}
use lib.Dec.{eqb}
use Rattle.answers.specs.Answer.Answer.{accepted}
use Rattle.bitlaws.specs.Digit.{digit}
use Rattle.paulis.specs.Calls.{bit_call}
use Rattle.refusals.proofs.Asked.{asked}
use Rattle.activepauli.specs.Active.{active_of}
use Rattle.activepauli.specs.Rows.{qubit_row, qubit_answered, qubit_value}
use Rattle.activepauli.proofs.ActivePauli.mask_bit.Goals as goal

pub returns-in_err-qubit_row : goal.returns-in_err-qubit_row
unfolding bit_call
returns-in_err-qubit_row c =
    let a = c.args in
    let P = active_of a.self in
    let bit = eqb (digit a.q a.mask) 1 in
    asked _ _ (qubit_row P a.q) (λ (b : Bool). b) bit c.from_residual.ensures.1 c.in_err-qubit_row.ensures ∙ qubit_answered bit P a.q

pub returns : goal.returns
unfolding bit_call
returns c =
    let a = c.args in
    let P = active_of a.self in
    ap accepted c.word_bit.ensures ∙ qubit_value (eqb (digit a.q a.mask) 1) P a.q c.in_ok-qubit_row.ensures
