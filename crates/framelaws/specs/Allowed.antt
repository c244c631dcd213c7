-- A list of steps that no row refuses, and a list along which every amplitude is finite.
use Rattle.std.specs.Prelude.{◌≡◌, List, [], ◌∷◌, ℕ, ◌^◌, ◌<◌, Float}
use Rattle.amplitudelaws.specs.State.{State, point}
use Rattle.framelaws.specs.Caller.{Caller}
use Rattle.framelaws.specs.Alike.{Finite}
use Rattle.framelaws.specs.Memory.{Memory, stepped}
use Rattle.framelaws.specs.Rows.{step_row}
use Rattle.amplitudelaws.specs.Step.{Step, width_after}
use Rattle.amplitudelaws.specs.Step.Step.{rotation, promotion, projection, correction, quarter_turn}

-- a step's Pauli is on n qubits
abbrev pub Placed : ℕ → Step Float → Type 0
Placed n (rotation P sign c s) = P.n ≡ n
Placed n (promotion c q) = Unit
Placed n (projection M p v invnorm) = M.n ≡ n
Placed n (correction P) = P.n ≡ n
Placed n (quarter_turn P) = P.n ≡ n

-- each step at its width
abbrev pub Allowed : Caller → ℕ → List (Step Float) → Type 0
Allowed caller n [] = Unit
Allowed caller n (t ∷ ts) = Placed n t × (step_row caller n t ≡ 0) × Allowed caller (width_after n t) ts

-- every amplitude of the n qubits is finite
pub record FiniteState (n : ℕ) (S : State) : Type 0 where
  pub at : (b : ℕ) → b < 2 ^ n → Finite (point S b)

-- at the start and after each step
abbrev pub FiniteSteps : ℕ → List (Step Float) → Memory → Type 0
FiniteSteps n [] m = FiniteState n m.state
FiniteSteps n (t ∷ ts) m = FiniteState n m.state × FiniteSteps (width_after n t) ts (stepped n t m)
