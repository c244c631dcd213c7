-- The identity times a phase, carried through steps: they stay as they were, and so does it, on the qubits that there are then.
use Rattle.std.specs.Prelude.{◌≡◌, List, ℕ, Float}
use Rattle.paulilaws.specs.Pauli.{Pauli}
use Rattle.amplitudelaws.specs.Step.{Step, last_width}
use Rattle.framelaws.specs.Carrying.{carried_steps, end_pauli}

-- i^e times the identity on n qubits
abbrev pub phase_on : ℕ → ℕ → Pauli
phase_on n e = record { n = n; k = e; x = 0; z = 0 }

-- ---- all steps

pub record Unchanged (n e : ℕ) (ts : List (Step Float)) : Type 0 where
  pub steps : carried_steps (phase_on n e) ts ≡ ts
  pub end : end_pauli (phase_on n e) ts ≡ phase_on (last_width n ts) e
