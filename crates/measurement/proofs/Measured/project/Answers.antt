-- F written to T: the room is kept, and copied to S it is F written there
-- the scratch still has room once it is written
use mathlib.Core.Path.{◌≡◌, sym, ap, ◌∙◌, subst}
use mathlib.Core.Bool.{Bool, false, cond}
use Prim.Native.Nat.{ℕ, ◌-◌, ◌^◌}
use native.Mathlib.Omega.{arith}
use lib.Ieee.{Float, nan}
use Rattle.statelaws.specs.Over.{length_over}
use Rattle.statelaws.proofs.Over.{over_at, over_ext}
use Rattle.amplitudelaws.specs.Binary.{Point}
use Rattle.amplitudelaws.specs.State.{State, state_of, point, written, HasRoom}
use Rattle.amplitudelaws.specs.Sweeping.{state_same}
use Rattle.kernels.specs.Kernel.{MeasurementKernel}
use Rattle.measurement.specs.Measured.{kernel_projected, kernel_scratch}
use Rattle.measurement.proofs.Leaving.{room_half}
use Rattle.measurement.proofs.Passing.{memory_same}
use Rattle.measurement.proofs.Measured.project.Goals as goal
use Rattle.measurement.proofs.Measured.project.Goals.{After-project_to_scratch}

module _ (n : ℕ) (F : ℕ → Point) (T T' : State) (e : T' ≡ written n F T) (h : HasRoom n T) where
  room_written : HasRoom n T'
  unfolding written
  room_written =
      let re = length_over (2 ^ n) (λ b. (F b).re) T.re in
      let im = length_over (2 ^ n) (λ b. (F b).im) T.im in
      subst (HasRoom n) (sym e) (rw re h.0, rw im h.1)

  copied : (S : State) → written n (point T') S ≡ written n F S
  unfolding written point
  copied S =
      ap (λ (U : State). written n (point U) S) e
      ∙ state_same
      (over_ext (2 ^ n) _ (λ b. (F b).re) S.re (λ k b. over_at (2 ^ n) (λ b. (F b).re) T.re k nan b (omega (arith, h.0))))
      (over_ext (2 ^ n) _ (λ b. (F b).im) S.im (λ k b. over_at (2 ^ n) (λ b. (F b).im) T.im k nan b (omega (arith, h.1))))

scratch_mixed : (K : MeasurementKernel) (v : ℕ) (invnorm : Float) (S scratch : State) → K.diagonal ≡ false
    → kernel_scratch K v invnorm S scratch ≡ written (K.action.n - 1) (kernel_projected K v invnorm S) scratch
unfolding kernel_scratch
scratch_mixed K v invnorm S scratch d = ap (λ (t : Bool). cond t scratch (written (K.action.n - 1) (kernel_projected K v invnorm S) scratch)) d

pub returns-then-self : goal.returns-then-self
unfolding kernel_scratch
returns-then-self c =
    memory_same c.project_diagonal.ensures (rw c.if-self.true)

made_room : (c : After-project_to_scratch) → let n = c.args.self.kernel.action.nqubits in
    HasRoom (n - 1) (state_of c.project_to_scratch.new.scratch_re c.project_to_scratch.new.scratch_im)
made_room c = room_written _ _ _ _ c.project_to_scratch.ensures (c.requires.1 c.if-self.false)

pub copy_back-requires : goal.copy_back-requires
copy_back-requires c =
    let a = c.args in
    let half = room_half a.self.kernel.action.nqubits (state_of a.re.now a.im.now) c.requires.0 in
    (omega (arith, a.self.projectable.narrow), half, made_room (goal.at.copy_back-requires c).After-project_to_scratch)

pub returns-else-self : goal.returns-else-self
returns-else-self c =
    memory_same
    (c.copy_back.ensures ∙ copied _ _ _ _ c.project_to_scratch.ensures (c.requires.1 c.if-self.false) _)
    (c.project_to_scratch.ensures ∙ sym (scratch_mixed _ _ _ _ _ c.if-self.false))
