-- A run is accepted exactly where it is not too long and its bytes are the start field's four, its steps' pieces and the end field.
use Rattle.std.specs.Prelude.{◌≡◌, List, [], ◌∷◌, ◌++◌, ℕ, ◌≤◌, length}
use Rattle.framelaws.specs.Caller.{Caller}
use Rattle.runlaws.specs.Field.{most_bytes}
use Rattle.runlaws.specs.Run.{Run}
use Rattle.runlaws.specs.Pieces.{Pieces}

-- the start field's bytes
abbrev pub start_bytes : ℕ → List ℕ
start_bytes n = 1 ∷ 1 ∷ 0 ∷ n ∷ []

pub record RunPieces (caller : Caller) (s : List ℕ) (R : Run) : Type 0 where
  pub short : length s ≤ most_bytes
  pub bytes : List ℕ
  pub whole : s ≡ start_bytes R.width ++ bytes
  pub pieces : Pieces caller R.width R.steps bytes
