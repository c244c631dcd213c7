use mathlib.Core.Path.{ap, ◌∙◌}
use Rattle.amplitudelaws.specs.Rows.{room_row, correction_row}
use Rattle.refusals.proofs.Asked.{asked_first}
use Rattle.rows.proofs.Behind.{behind}
use Rattle.correction.proofs.correction_row.Goals as goal

pub returns-in_err-width_row : goal.returns-in_err-width_row
unfolding correction_row
returns-in_err-width_row c = asked_first _ _ _ _ c.from_residual.ensures.1 c.in_err-width_row.ensures

pub returns : goal.returns
unfolding correction_row
returns c = behind c.in_ok-width_row.ensures (c.room_row.ensures ∙ ap room_row c.has_room.ensures)
