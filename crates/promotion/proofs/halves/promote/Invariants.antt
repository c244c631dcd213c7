use mathlib.Core.Path.{◌≡◌}
use Prim.Native.Nat.{suc, ◌^◌}
use Rattle.bitlaws.specs.Pairs.{pair_of}
use Rattle.amplitudelaws.specs.Binary.{binary}
use Rattle.amplitudelaws.specs.Promotion.{promoted}
use Rattle.amplitudelaws.specs.State.{state_of, point}
use Rattle.amplitudelaws.specs.Sweeping.{Sweeping}
use Rattle.promotion.proofs.halves.promote.Given as goal

abbrev pub invariant-loop-b : goal.invariant-loop-b
invariant-loop-b l =
    (l.dim ≡ 2 ^ l.nqubits)
    × Sweeping (pair_of l.nqubits (2 ^ l.nqubits)) (promoted binary l.nqubits l.c l.q (point (state_of l.initial.re l.initial.im))) (suc l.nqubits) (state_of l.initial.re l.initial.im) l.b (state_of l.re l.im)
