-- What a run that is read whole is known by, and when it is refused at its start.
use Rattle.std.specs.Prelude.{◌≡◌, ℕ, ◌≤◌}
use mathlib.Core.List.{List}
use Rattle.std.proofs.Math.Option.{none}
use Rattle.std.proofs.Math.ListN.{length}
use borrow.Author.Tests.{le-ltb}
use Rattle.answers.specs.Answer.Answer.{refused_at}
use Rattle.framelaws.specs.Caller.{Caller}
use Rattle.runlaws.specs.Field.{most_bytes, field_at}
use Rattle.runlaws.specs.Run.{start_width, begun, run_of}

module _ (caller : Caller) (s : List ℕ) where
  module _ (short : length s ≤ most_bytes) where
    pub run_unbegun : start_width (field_at s 0) ≡ none → run_of caller s ≡ refused_at 14 0
    unfolding run_of begun
    run_unbegun e = rw (le-ltb most_bytes (length s) short, e)
