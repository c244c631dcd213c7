-- What the reader answers about a field before its refusals have a place.
use Rattle.std.specs.Prelude.{ℕ, ◌<◌, Float, Result, Ok, Err}
use Rattle.std.proofs.Math.Option.{Option, none, some}
use Rattle.answers.specs.Answer.{Answer}
use Rattle.answers.specs.Answer.Answer.{refused}
use Rattle.answers.specs.Row.{answered}
use Rattle.amplitudelaws.specs.Step.{Step}
use Rattle.amplitudelaws.specs.Step.Step.{rotation, promotion, projection, correction, quarter_turn}
use Rattle.framelaws.specs.Caller.{Caller}
use Rattle.framelaws.specs.Rows.{step_row}
use Rattle.refusals.specs.declared.Row.{Row}
use Rattle.refusals.specs.Refusal.{number_of}
use Rattle.runlaws.specs.Reading as run
use Rattle.runlaws.specs.Reading.Read.{step_read, end_read, refused_read}
use Rattle.steps.specs.Meaning.{cursor_of, step_of}
use Rattle.steps.specs.declared.Read.{Read}
use Rattle.steps.specs.declared.Read.TheVariants as read

-- the step of a field, refused by its row; 14 where the field has none
unfoldable pub step_call : Caller → ℕ → Option (Step Float) → Answer (Step Float)
step_call caller n none = refused 14
step_call caller n (some t) = answered (step_row caller n t) t

-- a read whose refusal is given its place
abbrev pub read_placed : ℕ → Result Read Row → run.Read
read_placed at (Ok (read.Step t c)) = step_read (step_of t) (cursor_of c)
read_placed at (Ok (read.End c)) = end_read (cursor_of c)
read_placed at (Err r) = refused_read (number_of r) at

-- the width behind a step is none of a machine's that has no room: a promotion's state is not the widest, a projection's has a qubit
abbrev pub Narrowable : ℕ → Step Float → Type 0
Narrowable n (rotation P sign c s) = Unit
Narrowable n (promotion c q) = n < 61
Narrowable n (projection M p v invnorm) = 0 < n
Narrowable n (correction P) = Unit
Narrowable n (quarter_turn P) = Unit
