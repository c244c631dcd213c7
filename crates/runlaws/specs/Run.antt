-- A whole run: its start width and its steps, or the first refusal with its place.
use Rattle.std.specs.Prelude.{cond, List, [], ◌∷◌, ℕ, zero, suc, ltb, Float, length}
use Rattle.std.proofs.Math.Option.{Option, none, some}
use Rattle.answers.specs.Answer.{Answer}
use Rattle.answers.specs.Answer.Answer.{accepted, refused, refused_at}
use Rattle.amplitudelaws.specs.Step.{Step}
use Rattle.framelaws.specs.Caller.{Caller}
use Rattle.runlaws.specs.Bytes.{byte_at}
use Rattle.runlaws.specs.Field.{Field, most_bytes, field_at}
use Rattle.runlaws.specs.Reading.{Cursor, Read, is_field, read_at}
use Rattle.runlaws.specs.Reading.Read.{step_read, end_read, refused_read}

pub record Run : Type 0 where
  pub width : ℕ
  pub steps : List (Step Float)

-- an accepted value, changed; a refusal as it was
unfoldable pub mapped : {A B : Type 0} → (A → B) → Answer A → Answer B
mapped f (accepted a) = accepted (f a)
mapped f (refused n) = refused n
mapped f (refused_at n i) = refused_at n i

-- an accepted value, asked on; a refusal as it was
unfoldable pub chained : {A B : Type 0} → Answer A → (A → Answer B) → Answer B
chained (accepted a) f = f a
chained (refused n) f = refused n
chained (refused_at n i) f = refused_at n i

-- the end field stands last: bytes past it are refused at the first of them
unfoldable pub ended : List ℕ → Cursor → Answer (List (Step Float))
ended s c = cond (ltb c.at (length s)) (refused_at 14 c.at) (accepted [])

-- what the steps from a cursor on are, by what is read there and, behind a step, by the rest
unfoldable pub follow : List ℕ → Read → (Cursor → Answer (List (Step Float))) → Answer (List (Step Float))
follow s (step_read t c) rest = mapped (λ ts. t ∷ ts) (rest c)
follow s (end_read c) rest = ended s c
follow s (refused_read n at) rest = refused_at n at

-- The steps from a cursor on, up to the end field. A field has three bytes or more, so that the run's length is fields enough;
-- a run that ends before its end field is refused at its length.
unfoldable pub walk : Caller → ℕ → List ℕ → Cursor → Answer (List (Step Float))
walk caller zero s c = refused_at 14 c.at
walk caller (suc fuel) s c = follow s (read_at caller s c) (walk caller fuel s)

-- the width that a field gives if it is a start field
unfoldable pub start_width : Option Field → Option ℕ
start_width none = none
start_width (some f) = cond (is_field 1 1 f) (some (byte_at f.body 0)) none

-- Without a start field 14, whoever calls; a start past the caller's greatest width is its own row. The steps begin behind the start field's four bytes.
unfoldable pub begun : Caller → List ℕ → Option ℕ → Answer Run
begun caller s none = refused_at 14 0
begun caller s (some n) =
    cond (ltb caller.widest n) (refused_at caller.start_row 0)
    (mapped (λ ts. record { width = n; steps = ts }) (walk caller (length s) s (record { at = 4; width = n })))

unfoldable pub run_of : Caller → List ℕ → Answer Run
run_of caller s = cond (ltb most_bytes (length s)) (refused_at 14 0) (begun caller s (start_width (field_at s 0)))
