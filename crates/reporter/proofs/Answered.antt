-- What finding answers, from what the check, the rows and the walk say.
use mathlib.Core.Path.{◌≡◌, sym, ap, ◌∙◌}
use mathlib.Core.List.{List}
use Prim.Native.Nat.{ℕ}
use lib.Ieee.{Float}
use lib.ListN.{get_elem?}
use Rattle.answers.specs.Answer.{Answer}
use Rattle.answers.specs.Answer.Answer.{accepted, refused, refused_at}
use Rattle.answers.specs.Row.{some_row}
use Rattle.paulilaws.specs.Pauli.{Pauli}
use Rattle.framelaws.specs.Caller.{Caller}
use Rattle.framelaws.specs.PassRow.{placed_row}
use Rattle.framelaws.specs.Reporting.{Framed, framed_steps}
use Rattle.framelaws.specs.Suited.{placed_passed}
use Rattle.framelaws.specs.Survey.{Survey}
use Rattle.runlaws.specs.Run.{run_of}
use Rattle.runlaws.specs.Calls.{checked_run_of, checking_with_start, found, finding}
use Rattle.runlaws.specs.Found.{finding_refused, finding_row, finding_is}
use Rattle.runlaws.specs.Mapped.{mapped_refused}
use Rattle.runlaws.specs.OnStart.{run_in, OnStart, checked_read, checked_start}

module _ (caller : Caller) (s : List ℕ) (Q : Pauli) (i : ℕ) where
  pub run_refused : (n at : ℕ) → checking_with_start caller s ≡ refused_at n at → refused_at n at ≡ finding caller s Q i
  unfolding checking_with_start
  run_refused n at e = sym (finding_refused caller s Q i n at (mapped_refused checked_run_of (run_of caller s) n at e))

  -- of a run that is checked: its start width, and the rows of Q there
  module _ {width : ℕ} {v : Survey} (checked : checking_with_start caller s ≡ accepted (record { start = width; survey = v })) {r : ℕ} (is : r ≡ placed_row Q width) where
    row_is : placed_row Q (run_in caller s).width ≡ r
    row_is = ap (placed_row Q) (sym (checked_start caller s checked)) ∙ sym is

    pub row_refused : (r ≡ 0 → ⊥) → refused r ≡ finding caller s Q i
    row_refused ne = sym (finding_row caller s Q i (run_in caller s) (checked_read caller s checked) r row_is (some_row r ne))

    module _ (none : r ≡ 0) where
      pub ready : OnStart caller s Q
      ready =
          let known = placed_passed Q width (sym is ∙ none) in
          record { read = checked_read caller s checked; admitted = known.0; width = known.1 ∙ checked_start caller s checked }

      pub walked : {a : Answer (Framed Float)} → a ≡ found (get_elem? (framed_steps Q (run_in caller s).steps) i) → a ≡ finding caller s Q i
      walked e = e ∙ sym (finding_is caller s Q i (run_in caller s) (checked_read caller s checked) (row_is ∙ none))
