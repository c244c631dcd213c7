use mathlib.Core.Path.{sym, ap, ◌∙◌}
use Prim.Native.Nat.{ℕ}
use native.Mathlib.Numerals.{add-one}
use native.Mathlib.Omega.{arith}
use Rattle.amplitudelaws.specs.Passed.{promoted_width_passed}
use Rattle.amplitudelaws.specs.Rows.{room_row, promotion_row}
use Rattle.amplitudelaws.specs.State.{state_of, room}
use Rattle.refusals.proofs.Asked.{asked_first}
use Rattle.rows.proofs.Behind.{behind}
use Rattle.promotion.proofs.promotion_row.Goals as goal

pub returns-in_err-promoted_width_row : goal.returns-in_err-promoted_width_row
unfolding promotion_row
returns-in_err-promoted_width_row c = asked_first _ _ _ _ c.from_residual.ensures.1 c.in_err-promoted_width_row.ensures

pub returns-in_err-unit_row : goal.returns-in_err-unit_row
unfolding promotion_row
returns-in_err-unit_row c =
    behind c.in_ok-promoted_width_row.ensures (asked_first _ _ _ _ c.from_residual-in_err-unit_row.ensures.1 c.in_err-unit_row.ensures)

pub overflow_add-nqubits : goal.overflow_add-nqubits
overflow_add-nqubits c = omega (arith, promoted_width_passed c.args.nqubits (sym c.in_ok-promoted_width_row.ensures))

pub returns : goal.returns
unfolding promotion_row
returns c =
    let a = c.args in
    let enough = c.has_room.ensures ∙ ap (λ (m : ℕ). room m (state_of a.re.now a.im.now)) (add-one a.nqubits) in
    behind c.in_ok-promoted_width_row.ensures (behind c.in_ok-unit_row.ensures (c.room_row.ensures ∙ ap room_row enough))
