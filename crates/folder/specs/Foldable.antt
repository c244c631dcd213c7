-- What folding asks for once a run is checked: that it is accepted, and the width that it starts at, which a Pauli may have.
use Rattle.std.specs.Prelude.{◌≡◌, List, ℕ, ◌≤◌}
use Rattle.answers.specs.Answer.Answer.{accepted}
use Rattle.paulilaws.specs.Pauli.{Pauli, identity, most_qubits}
use Rattle.framelaws.specs.Caller.{Caller}
use Rattle.framelaws.specs.Folding.{folded_end}
use Rattle.runlaws.specs.FoldedRun.{folded_run}
use Rattle.runlaws.specs.OnStart.{run_in}
use Rattle.runlaws.specs.Run.{run_of}

-- what is left of the run that the bytes are, and the Pauli at its end
abbrev pub left_in : Caller → List ℕ → List ℕ
left_in caller s = folded_run (run_in caller s) s

abbrev pub end_in : Caller → List ℕ → Pauli
end_in caller s = let R = run_in caller s in folded_end (identity R.width) R.steps

-- an accepted run that starts on so many qubits
pub record Foldable (caller : Caller) (s : List ℕ) (width : ℕ) : Type 0 where
  pub read : run_of caller s ≡ accepted (run_in caller s)
  pub start : width ≡ (run_in caller s).width
  pub narrow : width ≤ most_qubits
