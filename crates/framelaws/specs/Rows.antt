-- Which row of the table refuses a step, lowest number first; 0 where none does.
use Rattle.std.specs.Prelude.{not, ℕ, leb, ltb, Float}
use Rattle.std.specs.Float.Ieee.Scale.{finite}
use Rattle.answers.specs.Row.{row, first}
use Rattle.paulilaws.specs.Pauli.{Pauli}
use Rattle.framelaws.specs.Caller.{Caller}
use Rattle.amplitudelaws.specs.Rows.{width_row, hermitian_row, unit_row, rotation_kernel_row, measurement_row, promoted_width_row, widest_kernel}
use Rattle.amplitudelaws.specs.Step.{Step}
use Rattle.amplitudelaws.specs.Step.Step.{rotation, promotion, projection, correction, quarter_turn}

-- the kernel's own rows, then 14 for a sign or a branch over 1
unfoldable pub rotation_step_row : Pauli → ℕ → Float → Float → ℕ
rotation_step_row P sign c s = first (rotation_kernel_row P c s) (row (ltb 1 sign) 14 0)

unfoldable pub projection_step_row : Pauli → ℕ → ℕ → Float → ℕ
projection_step_row M p v invnorm = first (measurement_row M p (not (finite invnorm))) (row (ltb 1 v) 14 0)

-- the kernel's own rows, 13 apart, then the caller's at its greatest width
unfoldable pub promotion_step_row : Caller → ℕ → Float → Float → ℕ
promotion_step_row caller n c q = first (promoted_width_row n) (first (unit_row c q) (row (leb caller.widest n) caller.promotion_row 0))

-- a step at width n
unfoldable pub step_row : Caller → ℕ → Step Float → ℕ
step_row caller n (rotation P sign c s) = rotation_step_row P sign c s
step_row caller n (promotion c q) = promotion_step_row caller n c q
step_row caller n (projection M p v invnorm) = projection_step_row M p v invnorm
step_row caller n (correction P) = width_row widest_kernel P
step_row caller n (quarter_turn P) = hermitian_row widest_kernel P
