use native.Mathlib.Nat.{le_refl}
use native.Mathlib.Omega.{arith}
use Rattle.amplitudelaws.specs.Sweeping.{one_ahead, one_more}
use Rattle.amplitudelaws.proofs.Sweeping.{one_all}
use Rattle.rotation.proofs.Rotation.rotate_diagonal.Goals as goal

pub loop-b-preserved : goal.loop-b-preserved
loop-b-preserved c =
    let inv = c.loop-b.invariant in
    let ahead = one_ahead inv.1 c.loop-b.b (le_refl c.loop-b.b) in
    (inv.0, one_more inv.1 _ _ c.write.ensures (omega arith) cc)

pub returns : goal.returns
returns c = one_all c.loop-b.invariant.1 (omega arith)
