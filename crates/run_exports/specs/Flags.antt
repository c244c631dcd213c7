-- A sign or a branch that another language hands over is looked at as one that stands in a run: by the same row, behind the others.
use Rattle.std.specs.Prelude.{◌≡◌, refl, not, ℕ, Float}
use Rattle.std.specs.Float.Ieee.Scale.{finite}
use Rattle.answers.specs.Row.{first}
use Rattle.amplitudelaws.specs.Rows.{rotation_kernel_row, measurement_row}
use Rattle.framelaws.specs.Rows.{rotation_step_row, projection_step_row}
use Rattle.paulilaws.specs.Pauli.{Pauli}
use Rattle.verdicts.specs.Flag.{flag_row}

rotation_flag : (P : Pauli) (sign : ℕ) (c s : Float) → rotation_step_row P sign c s ≡ first (rotation_kernel_row P c s) (flag_row sign)
unfolding rotation_step_row flag_row
rotation_flag P sign c s = refl

projection_flag : (M : Pauli) (p v : ℕ) (invnorm : Float)
    → projection_step_row M p v invnorm ≡ first (measurement_row M p (not (finite invnorm))) (flag_row v)
unfolding projection_step_row flag_row
projection_flag M p v invnorm = refl
