use Rattle.std.proofs.Common.{sym, ◌∙◌}
use Rattle.answers.specs.Row.{first_none}
use Rattle.amplitudelaws.specs.Rows.{projection_row}
use Rattle.refusals.proofs.Asked.{asked_first}
use Rattle.kernel_exports.proofs.own.projection_row.Goals as goal

pub returns-in_err-measurement_row : goal.returns-in_err-measurement_row
unfolding projection_row
returns-in_err-measurement_row c = rw (← c.is_finite.ensures) (asked_first c.from_residual.result _ _ _ c.from_residual.ensures.1 c.in_err-measurement_row.ensures)

pub returns : goal.returns
unfolding projection_row
returns c =
    rw (← c.is_finite.ensures, ← c.has_room.ensures, ← c.saturating_sub-left.ensures, ← c.has_room-2.ensures)
    (c.room_row.ensures ∙ sym (first_none _ _ (sym c.in_ok-measurement_row.ensures)))
