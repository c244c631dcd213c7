-- What is told of a step that a Pauli is carried past (E7 of the change requests): whether its sign or branch is changed, and on which qubits the frame before it, the Pauli
-- carried so far, and the step's own Pauli anticommute.
use Rattle.std.specs.Prelude.{Bool, List, [], ◌∷◌, ℕ, eqb}
use Rattle.paulilaws.specs.Pauli.{Pauli, anti}
use Rattle.paulilaws.specs.AntiMask.{anti_mask}
use Rattle.amplitudelaws.specs.Step.{Step}
use Rattle.amplitudelaws.specs.Step.Step.{rotation, promotion, projection, correction, quarter_turn}
use Rattle.framelaws.specs.Carrying.{passed}

-- a step without a sign or a branch; or whether it is changed, and the mask of qubits
pub data Report : Type 0 where
  no_flag : Report
  flagged : Bool → ℕ → Report

-- of two Paulis, the frame and the step's
unfoldable pub pair_report : Pauli → Pauli → Report
pair_report Q P = flagged (eqb (anti Q P) 1) (anti_mask Q P)

-- a step, and the frame before it
pub record Framed (R : Type 0) : Type 0 where
  pub frame : Pauli
  pub step : Step R

module _ {R : Type 0} where
  unfoldable pub step_report : Pauli → Step R → Report
  step_report Q (rotation P sign c s) = pair_report Q P
  step_report Q (promotion c q) = no_flag
  step_report Q (projection M p v invnorm) = pair_report Q M
  step_report Q (correction P) = no_flag
  step_report Q (quarter_turn P) = no_flag

  abbrev pub report_of : Framed R → Report
  report_of f = step_report f.frame f.step

  -- every step that Q is carried past, in order
  unfoldable pub framed_steps : Pauli → List (Step R) → List (Framed R)
  framed_steps Q [] = []
  framed_steps Q (t ∷ ts) = record { frame = Q; step = t } ∷ framed_steps (passed Q t) ts
