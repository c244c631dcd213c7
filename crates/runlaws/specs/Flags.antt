-- The sign and branch bytes of a run's fields.
use Rattle.std.specs.Prelude.{◌≡◌, List, [], ◌∷◌, ◌⊎◌, ℕ, ◌+◌, set}
use Rattle.amplitudelaws.specs.Step.{Step}
use Rattle.amplitudelaws.specs.Step.Step.{rotation, promotion, projection, correction, quarter_turn}

module _ {R : Type 0} where
  -- the bytes of a step's field: three, and its body's
  unfoldable pub field_size : Step R → ℕ
  field_size (rotation P sign c s) = 37
  field_size (promotion c q) = 19
  field_size (projection M p v invnorm) = 30
  field_size (correction P) = 20
  field_size (quarter_turn P) = 20

  -- of several
  unfoldable pub fields_size : List (Step R) → ℕ
  fields_size [] = 0
  fields_size (t ∷ ts) = field_size t + fields_size ts

  -- the step's sign or branch, written where the field that begins at `at` has it
  unfoldable pub flag_at : ℕ → Step R → List ℕ → List ℕ
  flag_at at (rotation P sign c s) bytes = set bytes (at + 20) sign
  flag_at at (promotion c q) bytes = bytes
  flag_at at (projection M p v invnorm) bytes = set bytes (at + 21) v
  flag_at at (correction P) bytes = bytes
  flag_at at (quarter_turn P) bytes = bytes

  -- all of them, the first step's field beginning at `at`
  unfoldable pub flagged : ℕ → List (Step R) → List ℕ → List ℕ
  flagged at [] bytes = bytes
  flagged at (t ∷ ts) bytes = flagged (at + field_size t) ts (flag_at at t bytes)

  -- i is the place of a step's sign or branch, its field beginning at `at`
  abbrev pub FlagOf : ℕ → Step R → ℕ → Type 0
  FlagOf at (rotation P sign c s) i = i ≡ at + 20
  FlagOf at (promotion c q) i = ⊥
  FlagOf at (projection M p v invnorm) i = i ≡ at + 21
  FlagOf at (correction P) i = ⊥
  FlagOf at (quarter_turn P) i = ⊥

  -- or of one of the steps, the first step's field beginning at `at`
  abbrev pub FlagIn : ℕ → List (Step R) → ℕ → Type 0
  FlagIn at [] i = ⊥
  FlagIn at (t ∷ ts) i = FlagOf at t i ⊎ FlagIn (at + field_size t) ts i
