-- What a declared head means, and the parts of a field that are handed out one by one.
use Rattle.std.specs.Prelude.{cond, List, [], ℕ, ltb, length}
use Rattle.std.proofs.Math.Option.{Option, none, some}
use Rattle.answers.specs.Answer.{Answer}
use Rattle.answers.specs.Answer.Answer.{accepted, refused_at}
use Rattle.runlaws.specs.Field.{Field, most_bytes, field_at}
use Rattle.fields.specs.declared.Head as declared

-- a field without its body
pub record Head : Type 0 where
  pub tag : ℕ
  pub next : ℕ

-- the field of a run that is asked for at `at`, none where it is cut or the run is too long
unfoldable pub field_in : List ℕ → ℕ → Option Field
field_in s at = cond (ltb most_bytes (length s)) none (field_at s at)

-- where it is refused then: at 0 where the run is too long
unfoldable pub place_in : List ℕ → ℕ → ℕ
place_in s at = cond (ltb most_bytes (length s)) 0 at

-- the head of a field, row 14 at this place where there is none
unfoldable pub head_call : ℕ → Option Field → Answer Head
head_call at none = refused_at 14 at
head_call at (some f) = accepted (record { tag = f.tag; next = f.next })

-- its body, nothing where there is none
unfoldable pub body_call : Option Field → List ℕ
body_call none = []
body_call (some f) = f.body

-- the width that the start field gives; it stands at 0, and row 14 is refused there where it gives none
unfoldable pub start_call : Option ℕ → Answer ℕ
start_call none = refused_at 14 0
start_call (some n) = accepted n

abbrev pub head_of : declared.Head → Head
head_of h = record { tag = h.tag; next = h.next }
