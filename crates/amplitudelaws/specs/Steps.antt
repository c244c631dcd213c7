-- What each step leaves of a state, at binary64. A Pauli's width is the state's.
use Rattle.std.specs.Prelude.{Bool, true, false, ℕ, suc, ◌-◌, ◌^◌, eqb, Float}
use Rattle.paulilaws.specs.Pauli.{Pauli}
use Rattle.amplitudelaws.specs.Binary.{binary, clamped}
use Rattle.amplitudelaws.specs.Rotation.{rotated}
use Rattle.amplitudelaws.specs.Promotion.{promoted}
use Rattle.amplitudelaws.specs.Projection.{projected}
use Rattle.amplitudelaws.specs.Correction.{corrected}
use Rattle.amplitudelaws.specs.Probability.{mass}
use Rattle.amplitudelaws.specs.State.{State, point, written}

unfoldable pub rotation : Pauli → ℕ → Float → Float → State → State
rotation P sign c s S = written P.n (rotated binary P sign c s (point S)) S

unfoldable pub promotion : ℕ → Float → Float → State → State
promotion n c q S = written (suc n) (promoted binary n c q (point S)) S

-- one qubit less: the upper half of what was there stays
unfoldable pub projection : Pauli → ℕ → ℕ → Float → State → State
projection M p v invnorm S = written (M.n - 1) (projected binary M p v invnorm (point S)) S

-- what a projection leaves in the scratch: with an X part its result, else what was there
unfoldable pub scratch_by : Bool → Pauli → ℕ → ℕ → Float → State → State → State
scratch_by true M p v invnorm S scratch = scratch
scratch_by false M p v invnorm S scratch = written (M.n - 1) (projected binary M p v invnorm (point S)) scratch

unfoldable pub scratch_after : Pauli → ℕ → ℕ → Float → State → State → State
scratch_after M = scratch_by (eqb M.x 0) M

unfoldable pub correction : Pauli → State → State
correction P S = written P.n (corrected binary P (point S)) S

unfoldable pub probability : Pauli → ℕ → ℕ → State → Float
probability M p v S = clamped (mass binary M p v (2 ^ (M.n - 1)) (point S))
