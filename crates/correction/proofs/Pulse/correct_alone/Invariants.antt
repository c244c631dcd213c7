use mathlib.Core.Path.{◌≡◌}
use Prim.Native.Nat.{◌^◌}
use Rattle.amplitudelaws.specs.Binary.{binary}
use Rattle.amplitudelaws.specs.Correction.{corrected}
use Rattle.amplitudelaws.specs.State.{state_of, point}
use Rattle.amplitudelaws.specs.Sweeping.{Sweeping}
use Rattle.activepauli.specs.Active.{active_of}
use Rattle.correction.proofs.Pulse.correct_alone.Given as goal

abbrev pub invariant-loop-b : goal.invariant-loop-b
invariant-loop-b l =
    (l.dim ≡ 2 ^ l.fn.self.pauli.nqubits)
    × Sweeping (λ j. j) (corrected binary (active_of l.fn.self.pauli) (point (state_of l.initial.re l.initial.im))) l.fn.self.pauli.nqubits (state_of l.initial.re l.initial.im) l.b (state_of l.re l.im)
