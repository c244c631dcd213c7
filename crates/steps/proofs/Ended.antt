-- In a run that was accepted, a read that is no step is the end field: no steps are left.
use mathlib.Core.Path.{◌≡◌, refl, sym}
use mathlib.Core.List.{List, []}
use Prim.Native.Nat.{ℕ}
use lib.Ieee.{Float}
use Rattle.std.specs.Prelude.{Result, Ok, Err}
use Rattle.answers.specs.Answer.Answer.{accepted}
use Rattle.refusals.specs.declared.RowAt.{RowAt}
use Rattle.amplitudelaws.specs.Step.{Step}
use Rattle.runlaws.specs.Reading.{Cursor, read_at}
use Rattle.runlaws.specs.Walk.{Left, accepted_end, accepted_refused}
use Rattle.framelaws.specs.Caller.{Caller}
use Rattle.steps.specs.declared.Cursor as declared
use Rattle.steps.specs.declared.Read.{Read}
use Rattle.steps.specs.declared.Read.TheVariants as read
use Rattle.steps.specs.Meaning.{cursor_of, read_of}

module _ {caller : Caller} {s : List ℕ} {c : Cursor} {ts : List (Step Float)} (l : Left caller s c (accepted ts)) where
  pub none_left : (r : Result Read RowAt) → read_of r ≡ read_at caller s c → ((t : _) (d : declared.Cursor) → r ≡ Ok (read.Step t d) → ⊥) → ts ≡ []
  none_left (Ok (read.Step t d)) e k = absurd (k t d refl)
  none_left (Ok (read.End d)) e k = accepted_end l (cursor_of d) (sym e)
  none_left (Err p) e k = absurd (accepted_refused l _ p.at (sym e))
