-- The rows of a projection, from those that its kernel passed or was refused by.
use Rattle.std.specs.Prelude.{cond, not, ◌&&◌, ◌||◌, ℕ, ◌-◌, ltb, Float}
use Rattle.std.specs.Float.Ieee.Scale.{finite}
use Rattle.answers.specs.Row.{row, first}
use Rattle.amplitudelaws.specs.Memory.{Memory}
use Rattle.amplitudelaws.specs.Rows.{room_row}
use Rattle.amplitudelaws.specs.State.{room}
use Rattle.kernels.specs.Kernel.{MeasurementKernel}

-- the row that refuses the kernel, 8 before those from 9 on
unfoldable pub with_eight : ℕ → Float → ℕ
with_eight r invnorm = cond (ltb 8 r && not (finite invnorm)) 8 r

-- 8 and 13, where there is a kernel
unfoldable pub kernel_row : MeasurementKernel → Float → Memory → ℕ
kernel_row K invnorm m =
    let n = K.action.n in
    first (row (not (finite invnorm)) 8 0) (room_row (room n m.state && (K.diagonal || room (n - 1) m.scratch)))
