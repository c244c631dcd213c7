use mathlib.Core.Path.{◌≡◌}
use Prim.Native.Nat.{◌-◌, ◌^◌}
use Rattle.bitlaws.specs.Pairs.{pair_of}
use Rattle.amplitudelaws.specs.Binary.{binary}
use Rattle.amplitudelaws.specs.Correction.{corrected}
use Rattle.amplitudelaws.specs.State.{state_of, point}
use Rattle.amplitudelaws.specs.Sweeping.{Sweeping}
use Rattle.activepauli.specs.Active.{active_of}
use Rattle.correction.proofs.Pulse.correct_pairs.Given as goal

abbrev pub invariant-loop-k : goal.invariant-loop-k
invariant-loop-k l =
    (l.half ≡ 2 ^ (l.fn.self.pauli.nqubits - 1))
    × Sweeping (pair_of l.pair_bit l.fn.self.pauli.x) (corrected binary (active_of l.fn.self.pauli) (point (state_of l.initial.re l.initial.im))) l.fn.self.pauli.nqubits (state_of l.initial.re l.initial.im) l.k (state_of l.re l.im)
