use mathlib.Core.Path.{◌≡◌}
use Prim.Native.Nat.{◌-◌, ◌^◌}
use Rattle.bitlaws.specs.Pairs.{pair_of}
use Rattle.amplitudelaws.specs.Binary.{binary}
use Rattle.amplitudelaws.specs.Rotation.{rotated_with}
use Rattle.amplitudelaws.specs.State.{state_of}
use Rattle.amplitudelaws.specs.Sweeping.{Sweeping}
use Rattle.complex.specs.Complex.{complex_of}
use Rattle.kernels.specs.Kernel.{rotation_kernel_of}
use Rattle.amplitudelaws.specs.Pairing.{paired}
use Rattle.rotation.proofs.Rotation.rotate_uniform_imag_pairs.Given as goal

abbrev pub invariant-loop-k : goal.invariant-loop-k
invariant-loop-k l =
    let S = state_of l.initial.re l.initial.im in
    let K = rotation_kernel_of l.fn.self.kernel in
    (l.half ≡ 2 ^ (K.action.n - 1))
    × Sweeping (pair_of K.pair_bit K.action.x) (paired (λ o. rotated_with binary K.cosine (complex_of l.t)) K.action.x S) K.action.n S l.k (state_of l.re l.im)
