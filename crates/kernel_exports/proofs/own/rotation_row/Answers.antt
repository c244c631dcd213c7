use Rattle.std.proofs.Common.{ap, sym, ◌∙◌}
use Rattle.answers.specs.Row.{first_none}
use Rattle.amplitudelaws.specs.Rows.{rotation_row, room_row}
use Rattle.refusals.proofs.Asked.{asked_first}
use Rattle.kernel_exports.proofs.own.rotation_row.Goals as goal

pub returns-in_err-rotation_row : goal.returns-in_err-rotation_row
unfolding rotation_row
returns-in_err-rotation_row c = asked_first c.from_residual.result _ _ _ c.from_residual.ensures.1 c.in_err-rotation_row.ensures

pub returns : goal.returns
unfolding rotation_row
returns c = c.room_row.ensures ∙ ap room_row c.has_room.ensures ∙ sym (first_none _ _ (sym c.in_ok-rotation_row.ensures))
