-- The action and the kernels that stand beside a refusal: every number of theirs is 0.
use Rattle.std.specs.Prelude.{false}
use Rattle.amplitudelaws.specs.Binary.{Point}
use Rattle.kernels.specs.Kernel.{Action, RotationKernel, MeasurementKernel}
use Rattle.verdicts.specs.Nothing.{no_float}

abbrev pub no_point : Point
no_point = record { re = no_float; im = no_float }

abbrev pub no_action : Action
no_action = record { n = 0; x = 0; z = 0; even = no_point; odd = no_point; crossed = false }

abbrev pub no_rotation : RotationKernel
no_rotation = record { action = no_action; diagonal = false; imaginary = false; pair_bit = 0; cosine = no_float; sine = no_float; m = no_point }

abbrev pub no_measurement : MeasurementKernel
no_measurement = record { action = no_action; pivot = 0; diagonal = false; minus = false; outputs = 0; coefficient = no_point }
