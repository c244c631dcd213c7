use mathlib.Core.Path.{ap, ap₂, ◌∙◌}
use Prim.Native.Nat.{ℕ, ◌+◌, ◌*◌, ◌%◌}
use native.Mathlib.Nat.{mod-mod}
use native.Mathlib.Omega.{arith}
use lib.Bits.{bit_xor}
use Rattle.bitlaws.specs.Parity.{overlap}
use Rattle.amplitudelaws.specs.Arithmetic.{times_power}
use Rattle.amplitudelaws.specs.Binary.{binary, Point}
use Rattle.amplitudelaws.specs.Correction.{corrected}
use Rattle.amplitudelaws.specs.Pairing.{turn_inside, turn_more}
use Rattle.amplitudelaws.specs.State.{state_of}
use Rattle.amplitudelaws.proofs.Sweeping.{pair_all}
use Rattle.correction.proofs.Pulse.correct_pairs.Goals as goal
use Rattle.std.proofs.Common.{◌<◌, length}
use Rattle.correction.proofs.Pulse.correct_pairs.Goals.{After-open_bit-left}

inside : (c : After-open_bit-left) → let left = c.open_bit-left.result in
    let right = bit_xor left c.args.self.pauli.x in
    ((left < length c.loop-k.re) × (left < length c.loop-k.im)) × ((right < length c.loop-k.re) × (right < length c.loop-k.im))
inside c = turn_inside c.requires.0 c.args.self.narrow (omega arith) c.open_bit-left.ensures c.loop-k.invariant.1

pub read-p-requires : goal.read-p-requires
read-p-requires c = (inside (goal.at.read-p-requires c).After-open_bit-left).0

pub read-q-requires : goal.read-q-requires
read-q-requires c = (inside (goal.at.read-q-requires c).After-open_bit-left).1

pub write-requires : goal.write-requires
write-requires c = (inside (goal.at.write-requires c).After-open_bit-left).0

pub write-requires-in-loop-k : goal.write-requires-in-loop-k
write-requires-in-loop-k c = omega (arith, inside (goal.at.write-requires-in-loop-k c).After-open_bit-left)

pub loop-k-preserved : goal.loop-k-preserved
unfolding corrected
loop-k-preserved c =
    let P = c.args.self.pauli in
    let inv = c.loop-k.invariant in
    let left = c.open_bit-left.result in
    let to_left = ap (λ (e : ℕ). e % 4) c.exponent-to_left.ensures ∙ mod-mod _ 4 in
    let to_right = ap (λ (e : ℕ). e % 4) c.exponent-to_right.ensures ∙ mod-mod _ 4 in (
      inv.0,
      turn_more c.requires.0 c.args.self.narrow (omega arith) c.open_bit-left.ensures
          (λ (o : ℕ) (p q : Point). times_power binary ((P.phase + 2 * overlap o P.z) % 4) q) inv.1
          (state_of c.write-in-loop-k.new.re c.write-in-loop-k.new.im) _ _ (cc)
          (c.times_power.ensures ∙ ap₂ (times_power binary) to_left c.read-q.ensures)
          (c.times_power-in-loop-k.ensures ∙ ap₂ (times_power binary) to_right c.read-p.ensures),
    )

pub returns : goal.returns
returns c = pair_all c.requires.0 c.loop-k.invariant.1 (omega arith)
