-- A run's bytes without its corrections: their fields are left out, and what stands behind them is closed up.
use Rattle.std.specs.Prelude.{List, [], ◌∷◌, ◌++◌, ℕ, Float, take, drop}
use Rattle.std.proofs.Math.Option.{Option, none, some}
use Rattle.paulilaws.specs.Pauli.{Pauli, identity}
use Rattle.amplitudelaws.specs.Step.{Step}
use Rattle.framelaws.specs.Carrying.{carried_step}
use Rattle.framelaws.specs.Folding.{fires, folded_past}
use Rattle.runlaws.specs.Flags.{field_size, flag_at}
use Rattle.runlaws.specs.Run.{Run}

-- a step's field f where it stays: nothing of it where the step fires a Pauli
unfoldable pub kept_of : Option Pauli → List ℕ → List ℕ
kept_of none f = f
kept_of (some P) f = []

-- ---- the fields that stay, as they are

-- the bytes behind the start field; those of the end field stay
unfoldable pub kept_fields : List (Step Float) → List ℕ → List ℕ
kept_fields [] bytes = bytes
kept_fields (t ∷ ts) bytes = kept_of (fires t) (take (field_size t) bytes) ++ kept_fields ts (drop (field_size t) bytes)

-- the start field has four
unfoldable pub kept_run : Run → List ℕ → List ℕ
kept_run R s = take 4 s ++ kept_fields R.steps (drop 4 s)

-- ---- and with the signs and branches that the Pauli leaves

-- what Q leaves of a step's field f
unfoldable pub left_bytes : Pauli → Step Float → List ℕ → List ℕ
left_bytes Q t f = kept_of (fires t) (flag_at 0 (carried_step Q t) f)

unfoldable pub folded_fields : Pauli → List (Step Float) → List ℕ → List ℕ
folded_fields Q [] bytes = bytes
folded_fields Q (t ∷ ts) bytes = left_bytes Q t (take (field_size t) bytes) ++ folded_fields (folded_past Q t) ts (drop (field_size t) bytes)

-- the Pauli begins as the identity
unfoldable pub folded_run : Run → List ℕ → List ℕ
folded_run R s = take 4 s ++ folded_fields (identity R.width) R.steps (drop 4 s)
