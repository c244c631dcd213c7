-- the number of amplitudes that are copied
use mathlib.Core.Path.{◌≡◌}
use Prim.Native.Nat.{◌*◌, ◌%◌, ◌^◌}
use native.Mathlib.Omega.{arith}
use Rattle.bitlaws.specs.Digit.{one_shifted}
use Rattle.amplitudelaws.specs.Sweeping.{sweeping_none, one_more}
use Rattle.amplitudelaws.proofs.Sweeping.{one_all}
use Rattle.measurement.proofs.mixing.copy_back.Goals as goal
use Rattle.measurement.proofs.mixing.copy_back.Goals.{At-loop-j}

size : (c : At-loop-j) → let n = c.args.nqubits in (1 * 2 ^ n) % 2 ^ 64 ≡ 2 ^ n
size c = one_shifted 64 c.args.nqubits (omega (arith, c.requires.0))

pub loop-j-init : goal.loop-j-init
loop-j-init c = sweeping_none c.requires.1.0 c.requires.1.1

pub read-requires : goal.read-requires
read-requires c =
    let pre = c.requires in
    omega (arith, size (goal.at.read-requires c).At-loop-j, pre.2.0, pre.2.1)

pub write-requires : goal.write-requires
write-requires c =
    let swept = c.loop-j.invariant in
    omega (arith, size (goal.at.write-requires c).At-loop-j, swept.re.room, swept.im.room, swept.re.len, swept.im.len)

pub loop-j-preserved : goal.loop-j-preserved
loop-j-preserved c =
    one_more c.loop-j.invariant _ _ c.write.ensures (omega (arith, size (goal.at.loop-j-preserved c).At-loop-j)) c.read.ensures

pub returns : goal.returns
returns c = one_all c.loop-j.invariant (omega (arith, size (goal.at.returns c).At-loop-j))
