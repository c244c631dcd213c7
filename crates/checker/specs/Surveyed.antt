-- What one step further of a survey asks for.
use Rattle.std.specs.Prelude.{◌≡◌, ℕ, ◌<◌, ◌≤◌, Float}
use Rattle.amplitudelaws.specs.Rows.{widest_kernel}
use Rattle.amplitudelaws.specs.Step.{Step, width_after}
use Rattle.amplitudelaws.specs.Step.Step.{rotation, promotion, projection, correction, quarter_turn}
use Rattle.framelaws.specs.Survey.{Survey}
use Rattle.runlaws.specs.Field.{most_bytes}

-- a projection has a qubit to measure, and no more qubits than a kernel has
abbrev pub Measured : ℕ → Step Float → Type 0
Measured n (rotation P sign c s) = Unit
Measured n (promotion c q) = Unit
Measured n (projection M p v invnorm) = (0 < n) × (n ≤ widest_kernel)
Measured n (correction P) = Unit
Measured n (quarter_turn P) = Unit

-- a step behind which the state has `width` qubits, in a run of fewer steps than bytes
pub record Surveyable (v : Survey) (t : Step Float) (width : ℕ) : Type 0 where
  pub few : v.steps < most_bytes
  pub behind : width ≡ width_after v.width t
  pub measured : Measured v.width t
