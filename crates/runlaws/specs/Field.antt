-- A field of a run: one byte of tag, two of the body's length, the body.
use Rattle.std.specs.Prelude.{Bool, cond, List, ℕ, ◌+◌, ◌*◌, leb, length}
use Rattle.std.proofs.Math.Option.{Option, none, some}
use Rattle.runlaws.specs.Bytes.{byte_at, part}

-- the most bytes of a run
abbrev pub most_bytes : ℕ
most_bytes = 65536

-- `next` is where the next field's tag stands
pub record Field : Type 0 where
  pub tag : ℕ
  pub body : List ℕ
  pub next : ℕ

-- the length that the field whose tag stands at `at` gives for its body
unfoldable pub body_length : List ℕ → ℕ → ℕ
body_length s at = byte_at s (at + 1) + 256 * byte_at s (at + 2)

-- whether the field at `at` stands whole in the run
unfoldable pub is_whole : List ℕ → ℕ → Bool
is_whole s at = leb (at + 3 + body_length s at) (length s)

-- the field at `at`, none where it is cut
unfoldable pub field_at : List ℕ → ℕ → Option Field
field_at s at = cond (is_whole s at) (some (record { tag = byte_at s at; body = part (at + 3) (body_length s at) s; next = at + 3 + body_length s at })) none
