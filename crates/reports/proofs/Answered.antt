-- What list_steps lists, from what the check, the rows and the walk say.
use mathlib.Core.Path.{◌≡◌, sym, ap, subst, ◌∙◌}
use mathlib.Core.List.{List}
use Prim.Native.Nat.{ℕ}
use Rattle.answers.specs.Answer.{Answer}
use Rattle.answers.specs.Answer.Answer.{accepted, refused, refused_at}
use Rattle.framelaws.specs.Caller.{service}
use Rattle.framelaws.specs.PassRow.{placed_row}
use Rattle.framelaws.specs.Suited.{placed_passed}
use Rattle.framelaws.specs.Survey.{Survey}
use Rattle.lines.specs.Calls.{Lined}
use Rattle.paulilaws.specs.Pauli.{Pauli}
use Rattle.std.specs.Prelude.{Result}
use Rattle.refusals.specs.declared.Row.{Row}
use Rattle.refusals.specs.Refusal.{number_of}
use Rattle.refusals.proofs.Asked.{number_some}
use Rattle.runlaws.specs.Calls.{Frames, frames_of, checked_run_of, checking_with_start, framing}
use Rattle.runlaws.specs.Found.{framing_refused, framing_row, framing_is}
use Rattle.runlaws.specs.Mapped.{mapped_refused}
use Rattle.runlaws.specs.OnStart.{run_in, OnStart, checked_read, checked_start}
use Rattle.runlaws.specs.Run.{run_of}
use Rattle.reports.specs.Listing.{frames_text, answer_text, steps_listed}

-- a text that is written, by the answer that it is of
pub listed : (s : List ℕ) (Q : Pauli) {a : Answer Frames} {old left : List ℕ} {r : Result ℕ Row} → framing service s Q ≡ a → Lined (answer_text frames_text a) old r left
    → Lined (steps_listed s Q) old r left
unfolding steps_listed
listed s Q {a} {old} {left} {r} e l = subst (λ (x : Answer Frames). Lined (answer_text frames_text x) old r left) (sym e) l

module _ (s : List ℕ) (Q : Pauli) where
  pub run_refused : {n at : ℕ} → checking_with_start service s ≡ refused_at n at → framing service s Q ≡ refused_at n at
  unfolding checking_with_start
  run_refused {n} {at} e = framing_refused service s Q n at (mapped_refused checked_run_of (run_of service s) n at e)

  -- of a run that is checked: its start width, and the rows of Q there
  module _ {width : ℕ} {v : Survey} (e : checking_with_start service s ≡ accepted (record { start = width; survey = v })) where
    start_row : placed_row Q (run_in service s).width ≡ placed_row Q width
    start_row = ap (placed_row Q) (sym (checked_start service s e))

    pub row_refused : (r : Row) → number_of r ≡ placed_row Q width → framing service s Q ≡ refused (number_of r)
    row_refused r is = framing_row service s Q (run_in service s) (checked_read service s e) (number_of r) (start_row ∙ sym is) (number_some r)

    module _ (none : 0 ≡ placed_row Q width) where
      pub ready : OnStart service s Q
      ready =
          let known = placed_passed Q width (sym none) in
          record { read = checked_read service s e; admitted = known.0; width = known.1 ∙ checked_start service s e }

      pub walked : framing service s Q ≡ accepted (frames_of Q (run_in service s))
      walked = framing_is service s Q (run_in service s) (checked_read service s e) (start_row ∙ sym none)
