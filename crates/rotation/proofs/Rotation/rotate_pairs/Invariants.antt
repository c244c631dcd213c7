use mathlib.Core.Path.{◌≡◌}
use Prim.Native.Nat.{◌-◌, ◌^◌}
use Rattle.bitlaws.specs.Digit.{bit_of}
use Rattle.bitlaws.specs.Pairs.{pair_of}
use Rattle.amplitudelaws.specs.Binary.{binary}
use Rattle.amplitudelaws.specs.Rotation.{rotated_pairs}
use Rattle.amplitudelaws.specs.State.{state_of, point}
use Rattle.amplitudelaws.specs.Sweeping.{Sweeping}
use Rattle.kernels.specs.Kernel.{rotation_kernel_of}
use Rattle.rotation.proofs.Rotation.rotate_pairs.Given as goal

abbrev pub invariant-loop-k : goal.invariant-loop-k
invariant-loop-k l =
    let S = state_of l.initial.re l.initial.im in
    let K = rotation_kernel_of l.self.kernel in
    (l.half ≡ 2 ^ (l.self.kernel.action.nqubits - 1))
    × Sweeping (pair_of K.pair_bit K.action.x) (rotated_pairs binary K.action.x K.action.z (bit_of l.self.sign) K.cosine K.m (point S)) K.action.n S l.k (state_of l.re l.im)
