-- What the declared types mean.
use Rattle.std.specs.Prelude.{Float, Result, Ok, Err}
use Rattle.bitlaws.specs.Digit.{bit_of}
use Rattle.activepauli.specs.Active.{active_of}
use Rattle.amplitudelaws.specs.Step as amplitudes
use Rattle.amplitudelaws.specs.Step.Step.{rotation, promotion, projection, correction, quarter_turn}
use Rattle.runlaws.specs.Reading as run
use Rattle.runlaws.specs.Reading.Read.{step_read, end_read, refused_read}
use Rattle.refusals.specs.declared.RowAt.{RowAt}
use Rattle.refusals.specs.Refusal.{number_of}
use Rattle.steps.specs.declared.Cursor.{Cursor}
use Rattle.steps.specs.declared.Step.{Step}
use Rattle.steps.specs.declared.Step.TheVariants.{Rotation, Promotion, Projection, Correction, QuarterTurn}
use Rattle.steps.specs.declared.Read.{Read}
use Rattle.steps.specs.declared.Read.TheVariants as read

abbrev pub cursor_of : Cursor → run.Cursor
cursor_of c = record { at = c.at; width = c.width }

abbrev pub step_of : Step → amplitudes.Step Float
step_of (Rotation P sign c s) = rotation (active_of P) (bit_of sign) c s
step_of (Promotion c q) = promotion c q
step_of (Projection M p v invnorm) = projection (active_of M) p (bit_of v) invnorm
step_of (Correction P) = correction (active_of P)
step_of (QuarterTurn P) = quarter_turn (active_of P)

-- a refusal stands at its place
abbrev pub read_of : Result Read RowAt → run.Read
read_of (Ok (read.Step t c)) = step_read (step_of t) (cursor_of c)
read_of (Ok (read.End c)) = end_read (cursor_of c)
read_of (Err p) = refused_read (number_of p.row) p.at
