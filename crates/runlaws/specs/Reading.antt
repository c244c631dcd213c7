-- What reading the field at a cursor gives.
use Rattle.std.specs.Prelude.{Bool, cond, ◌&&◌, List, ℕ, zero, suc, ltb, eqb, Float, length}
use Rattle.std.proofs.Math.Option.{Option, none, some}
use Rattle.amplitudelaws.specs.Step.{Step, width_after}
use Rattle.amplitudelaws.specs.Step.Step.{rotation, promotion, projection, correction, quarter_turn}
use Rattle.framelaws.specs.Caller.{Caller}
use Rattle.framelaws.specs.Rows.{step_row}
use Rattle.runlaws.specs.Bytes.{byte_at, float_at, pauli_at}
use Rattle.runlaws.specs.Field.{Field, most_bytes, field_at}

-- where the next field stands, and the width there
pub record Cursor : Type 0 where
  pub at : ℕ
  pub width : ℕ

-- a step and the cursor behind it, the end field and the cursor behind it, or a refusal with its place
pub data Read : Type 0 where
  step_read : Step Float → Cursor → Read
  end_read : Cursor → Read
  refused_read : ℕ → ℕ → Read

-- whether a field has this tag and a body of this length
abbrev pub is_field : ℕ → ℕ → Field → Bool
is_field tag size f = eqb f.tag tag && eqb (length f.body) size

-- the bytes of each kind of body: a Pauli has 17, a float 8
abbrev pub rotation_bytes : ℕ
rotation_bytes = 34

abbrev pub promotion_bytes : ℕ
promotion_bytes = 16

abbrev pub projection_bytes : ℕ
projection_bytes = 27

abbrev pub correction_bytes : ℕ
correction_bytes = 17

abbrev pub quarter_turn_bytes : ℕ
quarter_turn_bytes = 17

-- and its step, at width n
abbrev pub rotation_in : ℕ → List ℕ → Step Float
rotation_in n body = rotation (pauli_at n body) (byte_at body 17) (float_at body 18) (float_at body 26)

abbrev pub promotion_in : List ℕ → Step Float
promotion_in body = promotion (float_at body 0) (float_at body 8)

abbrev pub projection_in : ℕ → List ℕ → Step Float
projection_in n body = projection (pauli_at n body) (byte_at body 17) (byte_at body 18) (float_at body 19)

abbrev pub correction_in : ℕ → List ℕ → Step Float
correction_in n body = correction (pauli_at n body)

abbrev pub quarter_turn_in : ℕ → List ℕ → Step Float
quarter_turn_in n body = quarter_turn (pauli_at n body)

-- the step of a field at width n, none where no step has its tag and length
unfoldable pub decoded : ℕ → Field → Option (Step Float)
decoded n f =
    cond (is_field 2 rotation_bytes f) (some (rotation_in n f.body))
    (cond (is_field 3 promotion_bytes f) (some (promotion_in f.body))
    (cond (is_field 4 projection_bytes f) (some (projection_in n f.body))
    (cond (is_field 5 correction_bytes f) (some (correction_in n f.body))
    (cond (is_field 7 quarter_turn_bytes f) (some (quarter_turn_in n f.body)) none))))

-- refused by the number of a row at the place, or read where that is 0
unfoldable pub unless : ℕ → ℕ → Read → Read
unless zero at r = r
unless (suc row) at r = refused_read (suc row) at

-- a step of the field at c, the next field standing at `next`, if the number of its row is 0
unfoldable pub judged_by : ℕ → Cursor → ℕ → Step Float → Read
judged_by row c next t = unless row c.at (step_read t (record { at = next; width = width_after c.width t }))

-- none, a wrong tag or length, is 14
unfoldable pub judged : Caller → Cursor → ℕ → Option (Step Float) → Read
judged caller c next none = refused_read 14 c.at
judged caller c next (some t) = judged_by (step_row caller c.width t) c next t

-- a field, none where it is cut
unfoldable pub read_field : Caller → Cursor → Option Field → Read
read_field caller c none = refused_read 14 c.at
read_field caller c (some f) =
    cond (is_field 6 0 f) (end_read (record { at = f.next; width = c.width })) (judged caller c f.next (decoded c.width f))

-- The field at a cursor of the run. A run that is too long is 14 at 0 before its fields; a field at a width over the caller's greatest stands in
-- a wrong place, to which no run leads, and is 14 there.
unfoldable pub read_at : Caller → List ℕ → Cursor → Read
read_at caller s c =
    cond (ltb most_bytes (length s)) (refused_read 14 0)
    (cond (ltb caller.widest c.width) (refused_read 14 c.at) (read_field caller c (field_at s c.at)))
