use mathlib.Core.Path.{◌≡◌}
use Prim.Native.Nat.{◌^◌}
use Rattle.bitlaws.specs.Digit.{bit_of}
use Rattle.amplitudelaws.specs.Binary.{binary}
use Rattle.amplitudelaws.specs.Rotation.{rotated_diagonal}
use Rattle.amplitudelaws.specs.State.{state_of, point}
use Rattle.amplitudelaws.specs.Sweeping.{Sweeping}
use Rattle.kernels.specs.Kernel.{rotation_kernel_of}
use Rattle.rotation.proofs.Rotation.rotate_diagonal.Given as goal

abbrev pub invariant-loop-b : goal.invariant-loop-b
invariant-loop-b l =
    let S = state_of l.initial.re l.initial.im in
    let K = rotation_kernel_of l.self.kernel in
    (l.dim ≡ 2 ^ l.self.kernel.action.nqubits)
    × Sweeping (λ j. j) (rotated_diagonal binary K.action.z (bit_of l.self.sign) K.cosine K.m (point S)) K.action.n S l.b (state_of l.re l.im)
