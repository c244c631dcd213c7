-- No bit of either mask stands from word `word` on.
use Rattle.std.specs.Prelude.{◌*◌, ◌^◌, ◌<◌}
use Rattle.std.specs.Int.Bits.{bit_or}
use Rattle.masks.specs.Mask.{mask}
use Rattle.paulis.proofs.support.highest_bit.Given as goal

abbrev pub invariant-loop-word : goal.invariant-loop-word
invariant-loop-word l = bit_or (mask l.x) (mask l.z) < 2 ^ (l.word * 64)
