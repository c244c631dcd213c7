use Rattle.std.proofs.Common.{◌<◌, length}
use Prim.Native.Nat.{ℕ, ◌+◌}
use native.Mathlib.Omega.{arith}
use lib.Bits.{bit_xor}
use Rattle.bitlaws.specs.Digit.{bit_of}
use Rattle.bitlaws.specs.Parity.{overlap}
use Rattle.amplitudelaws.specs.Arithmetic.{direction, scale, mixed}
use Rattle.amplitudelaws.specs.Binary.{binary}
use Rattle.amplitudelaws.specs.State.{state_of}
use Rattle.amplitudelaws.proofs.Sweeping.{pair_all}
use Rattle.complex.specs.Complex.{complex_of}
use Rattle.kernels.specs.Kernel.{rotation_kernel_of}
use Rattle.amplitudelaws.specs.Pairing.{turn_inside, turn_more}
use Rattle.rotation.proofs.Rotation.rotate_pairs.Goals as goal
use Rattle.rotation.proofs.Rotation.rotate_pairs.Goals.{After-open_bit-left}

inside : (c : After-open_bit-left) → let left = c.open_bit-left.result in
    let right = bit_xor left c.args.self.kernel.action.xmask in
    ((left < length c.loop-k.re) × (left < length c.loop-k.im)) × ((right < length c.loop-k.re) × (right < length c.loop-k.im))
inside c =
    let m = c.args.self.rotatable in
    turn_inside (m.pivot c.requires.0) m.narrow (omega arith) c.open_bit-left.ensures c.loop-k.invariant.1

pub read-p-requires : goal.read-p-requires
read-p-requires c = (inside (goal.at.read-p-requires c).After-open_bit-left).0

pub read-q-requires : goal.read-q-requires
read-q-requires c = (inside (goal.at.read-q-requires c).After-open_bit-left).1

pub write-requires : goal.write-requires
write-requires c = (inside (goal.at.write-requires c).After-open_bit-left).0

pub write-requires-in-loop-k : goal.write-requires-in-loop-k
write-requires-in-loop-k c = omega (arith, inside (goal.at.write-requires-in-loop-k c).After-open_bit-left)

pub loop-k-preserved : goal.loop-k-preserved
loop-k-preserved c =
    let m = c.args.self.rotatable in
    let K = rotation_kernel_of c.args.self.kernel in
    let inv = c.loop-k.invariant in
    let swept = turn_more (m.pivot c.requires.0) m.narrow (omega arith) c.open_bit-left.ensures (λ (o : ℕ). mixed binary K.cosine (scale binary (direction binary (bit_of c.args.self.sign + overlap o K.action.z)) K.m)) inv.1
    (state_of c.write-in-loop-k.new.re c.write-in-loop-k.new.im) (complex_of c.mixed.result) (complex_of c.mixed-in-loop-k.result) (cc) (cc) (cc) in
    (inv.0, swept)

pub returns : goal.returns
returns c = pair_all (c.args.self.rotatable.pivot c.requires.0) c.loop-k.invariant.1 (omega arith)
