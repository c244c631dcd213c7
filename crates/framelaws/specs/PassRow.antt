-- Any Pauli taken past any step: which row of the table refuses it, lowest number first, and else what is behind the step. And which rows refuse a Pauli that is to be
-- on so many qubits.
use Rattle.std.specs.Prelude.{◌≡◌, not, ◌&&◌, ℕ, ◌^◌, leb, eqb}
use Rattle.answers.specs.Answer.{Answer}
use Rattle.answers.specs.Row.{row, first, answered}
use Rattle.paulilaws.specs.Pauli.{Pauli, fits, identity}
use Rattle.amplitudelaws.specs.Step.{Step}
use Rattle.amplitudelaws.specs.Step.Step.{rotation, promotion, projection, correction, quarter_turn}
use Rattle.framelaws.specs.Carrying.{widened, carried_step, passed}

-- 3: no Pauli, 4: not on n qubits
unfoldable pub placed_row : Pauli → ℕ → ℕ
placed_row Q n = row (not (fits Q)) 3 (row (not (eqb Q.n n)) 4 0)

-- 3: one of the two is no Pauli, 4: they are not on the same number of qubits
unfoldable pub pair_row : Pauli → Pauli → ℕ
pair_row Q P = row (not (fits Q && fits P)) 3 (row (not (eqb Q.n P.n)) 4 0)

-- 3: no Pauli, or none with a qubit more, since it has the most already
unfoldable pub widened_row : Pauli → ℕ
widened_row Q = row (not (fits Q && fits (widened Q))) 3 0

module _ {R : Type 0} where
  -- 10 too: no pivot of this width
  unfoldable pub pass_row : Pauli → Step R → ℕ
  pass_row Q (rotation P sign c s) = pair_row Q P
  pass_row Q (promotion c q) = widened_row Q
  pass_row Q (projection M p v invnorm) = first (pair_row Q M) (row (leb Q.n p) 10 0)
  pass_row Q (correction P) = pair_row Q P
  pass_row Q (quarter_turn P) = pair_row Q P

-- the step that a Pauli leaves behind it, and the Pauli then
pub record Passage (R : Type 0) : Type 0 where
  pub step : Step R
  pub pauli : Pauli

unfoldable pub past_call : {R : Type 0} → Pauli → Step R → Answer (Passage R)
past_call Q t = answered (pass_row Q t) (record { step = carried_step Q t; pauli = passed Q t })

-- ---- the numbers by example: where two rows refuse it is the lower

-- on n qubits, with a phase that no Pauli has; with a mask bit at the width
abbrev phaseless : ℕ → Pauli
phaseless n = record { n = n; k = 4; x = 0; z = 0 }

abbrev overhanging : ℕ → Pauli
overhanging n = record { n = n; k = 0; x = 0; z = 2 ^ n }

pub record Examples {R : Type 0} (c : R) : Type 0 where
  pub carried_first : pass_row {R = R} (phaseless 1) (correction (identity 2)) ≡ 3
  pub step_second : pass_row (identity 1) (rotation (overhanging 2) 0 c c) ≡ 3
  pub too_wide : pass_row (identity 257) (projection (identity 257) 257 0 c) ≡ 3
  pub rotation_widths : pass_row (identity 2) (rotation (identity 3) 0 c c) ≡ 4
  pub projection_widths : pass_row (identity 2) (projection (identity 3) 2 0 c) ≡ 4
  pub correction_widths : pass_row {R = R} (identity 3) (correction (identity 2)) ≡ 4
  pub quarter_turn_widths : pass_row {R = R} (identity 3) (quarter_turn (identity 2)) ≡ 4
  pub pivot : pass_row (identity 2) (projection (identity 2) 2 0 c) ≡ 10
  pub no_qubit : pass_row (identity 0) (projection (identity 0) 0 0 c) ≡ 10
  pub not_promoted : pass_row (overhanging 1) (promotion c c) ≡ 3
  pub most : pass_row (identity 256) (promotion c c) ≡ 3
  pub one_less : pass_row (identity 255) (promotion c c) ≡ 0
