use mathlib.Core.Path.{◌≡◌, refl, ap, ap₂, ◌∙◌}
use Prim.Native.Nat.{ℕ, ◌+◌, ◌-◌, ◌^◌}
use native.Mathlib.Numerals.{add-one}
use native.Mathlib.Omega.{arith}
use lib.Ieee.{Float, add, binary64}
use Rattle.bitlaws.specs.Digit.{bit_of}
use Rattle.amplitudelaws.specs.Binary.{binary, Point}
use Rattle.amplitudelaws.specs.Probability.{squared, total}
use Rattle.amplitudelaws.specs.State.{State, state_of, point}
use Rattle.kernels.specs.Kernel.{MeasurementKernel, measurement_kernel_of}
use Rattle.measurement.specs.Measured.{kernel_remaining, kernel_mass}
use Rattle.measurement.proofs.Measured.mass.Goals as goal

module _ (K : MeasurementKernel) (v : ℕ) (S : State) where
  none : binary.nought ≡ kernel_mass K v 0 S
  unfolding kernel_mass total
  none = refl

  more : (j : ℕ) (sum square : Float) (p : Point) → sum ≡ kernel_mass K v j S → p ≡ kernel_remaining K v (point S) j → square ≡ squared binary p
      → add binary64 sum square ≡ kernel_mass K v (j + 1) S
  unfolding kernel_mass total
  more j sum square p es ep eq = rw (add-one) (ap₂ (add binary64) es (eq ∙ ap (squared binary) ep))

pub loop-j-init : goal.loop-j-init
loop-j-init c =
    let a = c.args in
    none (measurement_kernel_of a.self.kernel) (bit_of a.self.branch) (state_of a.re.now a.im.now)

pub loop-j-preserved : goal.loop-j-preserved
loop-j-preserved c =
    let a = c.args in
    more (measurement_kernel_of a.self.kernel) (bit_of a.self.branch) (state_of a.re.now a.im.now) c.loop-j.j _ _ _ c.loop-j.invariant c.remaining.ensures c.squared-sum.ensures

pub returns : goal.returns
returns c =
    let a = c.args in
    let end : c.loop-j.j ≡ 2 ^ (a.self.kernel.action.nqubits - 1) = omega (arith, a.self.projectable.outputs) in
    c.loop-j.invariant ∙ ap (λ (k : ℕ). kernel_mass (measurement_kernel_of a.self.kernel) (bit_of a.self.branch) k (state_of a.re.now a.im.now)) end
