use Rattle.amplitudelaws.specs.State.{state_of, point}
use Rattle.amplitudelaws.specs.Sweeping.{Sweeping}
use Rattle.measurement.proofs.mixing.copy_back.Given as goal

abbrev pub invariant-loop-j : goal.invariant-loop-j
invariant-loop-j l =
    Sweeping (λ b. b) (point (state_of l.scratch_re l.scratch_im)) l.nqubits (state_of l.initial.re l.initial.im) l.j (state_of l.re l.im)
