-- what a turn gathers, of a state that still has the basis read as it was
-- and it is not yet written
use mathlib.Core.Path.{◌≡◌, sym, ap, ◌∙◌}
use mathlib.Core.Bool.{Bool, true}
use Prim.Native.Nat.{ℕ, ◌-◌, ◌^◌, ◌≤◌, ◌<◌}
use native.Mathlib.Omega.{arith}
use lib.Ieee.{Float, unlike}
use Rattle.bitlaws.specs.Digit.{bit_of}
use Rattle.bitlaws.specs.Source.{source}
use Rattle.bitlaws.proofs.Source.{source_ge}
use Rattle.amplitudelaws.specs.Arithmetic.{scaled}
use Rattle.amplitudelaws.specs.Binary.{binary, Point}
use Rattle.amplitudelaws.specs.State.{State, state_of, point}
use Rattle.amplitudelaws.specs.Sweeping.{one_ahead, one_more}
use Rattle.amplitudelaws.proofs.Sweeping.{one_all}
use Rattle.kernels.specs.Kernel.{MeasurementKernel, measurement_kernel_of}
use Rattle.measurement.specs.Measured.{kernel_projected}
use Rattle.measurement.proofs.Leaving.{source_inside, diagonal_left}
use Rattle.measurement.proofs.Measured.project_diagonal.Goals as goal

module _ (K : MeasurementKernel) (v : Bool) (invnorm : Float) (j from : ℕ) (diagonal : K.diagonal ≡ true)
    (e : from ≡ source K.pivot K.action.z (bit_of (unlike K.minus v)) j) where
  gathered : (S₀ S : State) → point S from ≡ point S₀ from → scaled binary (point S from) invnorm ≡ kernel_projected K (bit_of v) invnorm S₀ j
  unfolding kernel_projected
  gathered S₀ S ahead =
      ap (λ (p : Point). scaled binary p invnorm) (ahead ∙ ap (point S₀) e ∙ sym (diagonal_left K v (point S₀) j diagonal))

not_behind : (p z e j from : ℕ) → from ≡ source p z e j → j ≤ from
not_behind p z e j from q = omega (arith, source_ge p z e j)

pub read-a-requires : goal.read-a-requires
read-a-requires c =
    let m = c.args.self.projectable in
    let swept = c.loop-j.invariant in
    let inside = source_inside m c.loop-j.j (omega (arith, m.outputs)) _ _ c.source-from.ensures in
    omega (arith, inside, swept.re.len, swept.im.len, c.requires.1)

pub loop-j-preserved : goal.loop-j-preserved
loop-j-preserved c =
    let a = c.args in
    let m = a.self.projectable in
    let swept = c.loop-j.invariant in
    let j : ℕ = c.loop-j.j in
    let from : ℕ = c.source-from.result in
    let K = measurement_kernel_of a.self.kernel in
    let under : j < 2 ^ (a.self.kernel.action.nqubits - 1) = omega (arith, m.outputs) in
    let ahead = one_ahead swept from (not_behind _ _ _ j from c.source-from.ensures) in
    one_more swept _ _ c.write.ensures under
    (c.scaled.ensures ∙ ap (λ (p : Point). scaled binary p a.invnorm) c.read-a.ensures
    ∙ gathered K a.self.branch a.invnorm j from c.requires.0 c.source-from.ensures (state_of a.re.now a.im.now) _ ahead)

pub returns : goal.returns
returns c = one_all c.loop-j.invariant (omega (arith, c.args.self.projectable.outputs))
