use native.Mathlib.Omega.{arith}
use Rattle.refusals.proofs.Asked.{asked_first}
use Rattle.rows.proofs.Behind.{behind}
use Rattle.measurement.specs.Rows.{kernel_row}
use Rattle.measurement.proofs.Leaving.{wide}
use Rattle.measurement.proofs.Measured.kernel_row.Goals as goal

pub returns-in_err-refuse_if : goal.returns-in_err-refuse_if
unfolding kernel_row
returns-in_err-refuse_if c =
    rw (← c.is_finite.ensures) (asked_first _ _ _ _ c.from_residual.ensures.1 c.in_err-refuse_if.ensures)

pub overflow_sub-n : goal.overflow_sub-n
overflow_sub-n c = omega (arith, wide c.args.self.projectable)

pub returns : goal.returns
unfolding kernel_row
returns c =
    rw (← c.has_room.ensures, ← c.has_room-2.ensures, ← c.is_finite.ensures) (behind c.in_ok-refuse_if.ensures c.room_row.ensures)
