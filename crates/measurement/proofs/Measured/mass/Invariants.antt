use mathlib.Core.Path.{◌≡◌}
use Rattle.bitlaws.specs.Digit.{bit_of}
use Rattle.amplitudelaws.specs.State.{state_of}
use Rattle.kernels.specs.Kernel.{measurement_kernel_of}
use Rattle.measurement.specs.Measured.{kernel_mass}
use Rattle.measurement.proofs.Measured.mass.Given as goal

abbrev pub invariant-loop-j : goal.invariant-loop-j
invariant-loop-j l =
    l.sum ≡ kernel_mass (measurement_kernel_of l.self.kernel) (bit_of l.self.branch) l.j (state_of l.re l.im)
