use mathlib.Core.Path.{◌≡◌, ap, ◌∙◌}
use Prim.Native.Nat.{ℕ, ◌-◌, ◌^◌, ◌<◌}
use native.Mathlib.Omega.{arith}
use lib.Ieee.{Float}
use Rattle.bitlaws.specs.Digit.{bit_of}
use Rattle.amplitudelaws.specs.Arithmetic.{scaled}
use Rattle.amplitudelaws.specs.Binary.{binary, Point}
use Rattle.amplitudelaws.specs.State.{State, state_of, point}
use Rattle.amplitudelaws.specs.Sweeping.{one_more}
use Rattle.amplitudelaws.proofs.Sweeping.{one_all}
use Rattle.kernels.specs.Kernel.{MeasurementKernel, measurement_kernel_of}
use Rattle.measurement.specs.Measured.{kernel_remaining, kernel_projected}
use Rattle.measurement.proofs.Measured.project_to_scratch.Goals as goal

made : (K : MeasurementKernel) (v : ℕ) (invnorm : Float) (S : State) (j : ℕ) (p a : Point)
    → p ≡ kernel_remaining K v (point S) j → a ≡ scaled binary p invnorm → a ≡ kernel_projected K v invnorm S j
unfolding kernel_projected
made K v invnorm S j p a ep ea = ea ∙ ap (λ (q : Point). scaled binary q invnorm) ep

pub loop-j-preserved : goal.loop-j-preserved
loop-j-preserved c =
    let a = c.args in
    let under : c.loop-j.j < 2 ^ (a.self.kernel.action.nqubits - 1) = omega (arith, c.args.self.projectable.outputs) in
    one_more c.loop-j.invariant _ _ c.write.ensures under
    (made (measurement_kernel_of a.self.kernel) (bit_of a.self.branch) a.invnorm (state_of a.re.now a.im.now) c.loop-j.j _ _ c.mixture.ensures c.scaled-a.ensures)

pub returns : goal.returns
returns c =
    let m = c.args.self.projectable in
    one_all c.loop-j.invariant (omega (arith, m.outputs))
