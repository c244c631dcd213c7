-- What a measurement kernel leaves of a state, and what such a kernel has.
use Rattle.std.specs.Prelude.{◌≡◌, cond, ℕ, ◌-◌, ◌^◌, ◌≤◌, Float}
use Rattle.bitlaws.specs.Digit.{bit_of}
use Rattle.statelaws.specs.Pairs.{Pivoted}
use Rattle.amplitudelaws.specs.Arithmetic.{scaled}
use Rattle.amplitudelaws.specs.Binary.{binary, Point}
use Rattle.amplitudelaws.specs.Projection.{remaining_by}
use Rattle.amplitudelaws.specs.Probability.{squared, total}
use Rattle.amplitudelaws.specs.Memory.{Memory}
use Rattle.amplitudelaws.specs.Rows.{widest_kernel}
use Rattle.amplitudelaws.specs.State.{State, point, written}
use Rattle.kernels.specs.Kernel.{MeasurementKernel}

-- what branch v leaves at j, before invnorm
unfoldable pub kernel_remaining : MeasurementKernel → ℕ → (ℕ → Point) → ℕ → Point
kernel_remaining K = remaining_by binary K.diagonal K.action.x K.action.z (bit_of K.minus) K.coefficient K.pivot

-- the amplitude at j after the projection on branch v
unfoldable pub kernel_projected : MeasurementKernel → ℕ → Float → State → ℕ → Point
kernel_projected K v invnorm S j = scaled binary (kernel_remaining K v (point S) j) invnorm

-- what the projection leaves in the scratch: where it mixes its result, else what was there
unfoldable pub kernel_scratch : MeasurementKernel → ℕ → Float → State → State → State
kernel_scratch K v invnorm S scratch = cond K.diagonal scratch (written (K.action.n - 1) (kernel_projected K v invnorm S) scratch)

-- both
abbrev pub kernel_memory : MeasurementKernel → ℕ → Float → Memory → Memory
kernel_memory K v invnorm m = record {
  state = written (K.action.n - 1) (kernel_projected K v invnorm m.state) m.state;
  scratch = kernel_scratch K v invnorm m.state m.scratch;
}

-- the squares of the first `count` that branch v leaves, added
unfoldable pub kernel_mass : MeasurementKernel → ℕ → ℕ → State → Float
kernel_mass K v count S = total binary count (λ j. squared binary (kernel_remaining K v (point S) j))

-- what the loops need of a kernel: its width, the outputs that it counts, and a pivot that is in its mask
pub record Projectable (K : MeasurementKernel) : Type 0 where
  pub narrow : K.action.n ≤ widest_kernel
  pub outputs : K.outputs ≡ 2 ^ (K.action.n - 1)
  pub pivoted : Pivoted K.action.n K.pivot (cond K.diagonal K.action.z K.action.x)
