use mathlib.Core.Path.{◌≡◌, sym, ap, ◌∙◌}
use mathlib.Core.Bool.{Bool, true, false, not}
use lib.Dec.{ltb, lit<}
use Rattle.answers.specs.Row.{row, row_passed}
use Rattle.paulilaws.specs.Pauli.{fits}
use Rattle.amplitudelaws.specs.Rows.{width_row, hermitian_row}
use Rattle.refusals.proofs.Asked.{asked_first}
use Rattle.activepauli.specs.Active.{active_of}
use Rattle.activepauli.specs.Accepted.{squares_answered, squares_refused}
use Rattle.rows.proofs.Behind.{behind}
use Rattle.rows.proofs.hermitian_row.Goals as goal

pub returns-in_err-width_row : goal.returns-in_err-width_row
unfolding hermitian_row
returns-in_err-width_row c = asked_first _ _ _ _ c.from_residual.ensures.1 c.in_err-width_row.ensures

-- never: its width has been looked at, so that it is a Pauli
pub returns-in_err-is_hermitian : goal.returns-in_err-is_hermitian
unfolding width_row
returns-in_err-is_hermitian c =
    let P = active_of c.args.pauli in
    let none = row_passed (not (fits P)) 3 (row (ltb c.args.widest P.n) 6 0) (lit< tt) (sym c.in_ok-width_row.ensures) in
    let clash : true ≡ false = ap not (sym (squares_refused P _ c.in_err-is_hermitian.ensures)) ∙ none.0 in
    cc

pub returns : goal.returns
unfolding hermitian_row
returns c =
    let is = squares_answered (active_of c.args.pauli) _ c.in_ok-is_hermitian.ensures in
    behind c.in_ok-width_row.ensures (c.refuse_if.ensures ∙ ap (λ (t : Bool). row (not t) 7 0) is)
