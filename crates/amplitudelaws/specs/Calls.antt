-- What the calls on amplitudes answer, and what they leave in what they were lent, refused or not.
use Rattle.std.specs.Prelude.{ℕ, Float}
use Rattle.answers.specs.Answer.{Answer}
use Rattle.answers.specs.Row.{answered}
use Rattle.answers.specs.Outcome.{Outcome, by_row, Finished, finished}
use Rattle.paulilaws.specs.Pauli.{Pauli}
use Rattle.amplitudelaws.specs.Rows.{rotation_row, promotion_row, probability_row, projection_row, correction_row}
use Rattle.amplitudelaws.specs.State.{State}
use Rattle.amplitudelaws.specs.Memory.{Memory}
use Rattle.amplitudelaws.specs.Steps.{rotation, promotion, projection, scratch_after, correction, probability}

abbrev pub rotating : Pauli → ℕ → Float → Float → State → Outcome Finished State
rotating P sign c s S = by_row (rotation_row P c s S) finished (rotation P sign c s S) S

abbrev pub promoting : ℕ → Float → Float → State → Outcome Finished State
promoting n c q S = by_row (promotion_row n c q S) finished (promotion n c q S) S

abbrev pub correcting : Pauli → State → Outcome Finished State
correcting P S = by_row (correction_row P S) finished (correction P S) S

-- the probability of a branch writes nothing
abbrev pub weighing : Pauli → ℕ → ℕ → State → Answer Float
weighing M p v S = answered (probability_row M p S) (probability M p v S)

-- the state and the scratch that a projection leaves
abbrev pub projected_memory : Pauli → ℕ → ℕ → Float → Memory → Memory
projected_memory M p v invnorm m = record {
  state = projection M p v invnorm m.state;
  scratch = scratch_after M p v invnorm m.state m.scratch;
}

abbrev pub projecting : Pauli → ℕ → ℕ → Float → Memory → Outcome Finished Memory
projecting M p v invnorm m = by_row (projection_row M p invnorm m.state m.scratch) finished (projected_memory M p v invnorm m) m
