use Prim.Native.Nat.{◌-◌}
use Rattle.bitlaws.specs.Digit.{bit_of}
use Rattle.amplitudelaws.specs.State.{state_of}
use Rattle.amplitudelaws.specs.Sweeping.{Sweeping}
use Rattle.kernels.specs.Kernel.{measurement_kernel_of}
use Rattle.measurement.specs.Measured.{kernel_projected}
use Rattle.measurement.proofs.Measured.project_to_scratch.Given as goal

abbrev pub invariant-loop-j : goal.invariant-loop-j
invariant-loop-j l =
    let n = l.self.kernel.action.nqubits - 1 in
    Sweeping (λ b. b) (kernel_projected (measurement_kernel_of l.self.kernel) (bit_of l.self.branch) l.invnorm (state_of l.re l.im)) n (state_of l.initial.scratch_re l.initial.scratch_im) l.j (state_of l.scratch_re l.scratch_im)
