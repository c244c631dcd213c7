-- Where a step's field stands in a run, what its sign or branch byte is, and the run that is cut before it.
use Rattle.std.specs.Prelude.{◌≡◌, List, ◌++◌, ℕ, ◌+◌, ◌≤◌, ◌<◌, Float, length, take}
use Rattle.answers.specs.Answer.Answer.{accepted}
use Rattle.amplitudelaws.specs.Step.{Step}
use Rattle.amplitudelaws.specs.Step.Step.{rotation, promotion, projection, correction, quarter_turn}
use Rattle.framelaws.specs.Caller.{Caller}
use Rattle.runlaws.specs.Bytes.{byte_at}
use Rattle.runlaws.specs.Flags.{field_size, fields_size}
use Rattle.runlaws.specs.Pieces.{end_bytes}
use Rattle.runlaws.specs.Reading.{Cursor, read_at}
use Rattle.runlaws.specs.Reading.Read.{step_read}
use Rattle.runlaws.specs.Run.{run_of}

-- ---- the sign or the branch

-- where a step has a sign or a branch, it is this byte of its field
abbrev pub FlagByte : Step Float → List ℕ → Type 0
FlagByte (rotation P sign c q) field = byte_at field 20 ≡ sign
FlagByte (promotion c q) field = Unit
FlagByte (projection M p v invnorm) field = byte_at field 21 ≡ v
FlagByte (correction P) field = Unit
FlagByte (quarter_turn P) field = Unit

-- ---- in the whole run

-- The field of t, at its place in the run s; and the run cut there, which is one of the steps before t.
pub record FieldOf (caller : Caller) (s : List ℕ) (n : ℕ) (before : List (Step Float)) (t : Step Float) : Type 0 where
  pub width : ℕ
  pub behind : Cursor
  pub read : read_at caller s (record { at = 4 + fields_size before; width = width }) ≡ step_read t behind
  pub field : List ℕ
  pub flag : FlagByte t field
  pub own : (i : ℕ) → i < field_size t → byte_at s (4 + fields_size before + i) ≡ byte_at field i
  pub inside : 4 + fields_size before + field_size t ≤ length s
  pub cut_size : length (take (4 + fields_size before) s ++ end_bytes) ≡ 4 + fields_size before + 3
  pub cut_run : run_of caller (take (4 + fields_size before) s ++ end_bytes) ≡ accepted (record { width = n; steps = before })
