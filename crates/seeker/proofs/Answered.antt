-- What seeking answers, from what the check, the rows and the search say.
use mathlib.Core.Path.{◌≡◌, sym, ap, ◌∙◌}
use mathlib.Core.Bool.{not}
use mathlib.Core.List.{List}
use Prim.Native.Nat.{ℕ, ◌≤◌}
use native.Mathlib.Omega.{arith}
use mathlib.Core.Bool.{true}
use Rattle.answers.specs.Answer.{Answer, is_accepted}
use Rattle.answers.specs.Answer.Answer.{accepted, refused, refused_at}
use Rattle.answers.specs.Row.{row, first, answered, answered_some, first_some, first_none, some_row}
use Rattle.paulilaws.specs.Pauli.{Pauli}
use Rattle.amplitudelaws.specs.Step.{last_width}
use Rattle.framelaws.specs.Caller.{Caller, widest_run}
use Rattle.framelaws.specs.PassRow.{placed_row}
use Rattle.framelaws.specs.Seeking.{is_reached, start_for}
use Rattle.framelaws.specs.Suited.{placed_passed}
use Rattle.framelaws.specs.Survey.{Survey}
use Rattle.framelaws.specs.Surveyed.{survey_width}
use Rattle.runlaws.specs.Run.{run_of}
use Rattle.runlaws.specs.Calls.{checked_run_of, survey_of, checking_with_start, seeking_row, seeking}
use Rattle.runlaws.specs.Mapped.{mapped_refused}
use Rattle.runlaws.specs.OnStart.{run_in, checked_read, checked_start, checked_survey}
use Rattle.runlaws.specs.Outcomes.{last_within}
use Rattle.runlaws.proofs.Seeking.{seeking_is, seeking_refused}
use Rattle.runlaws.specs.WholeRun.{run_allowed}

module _ (caller : Caller) (s : List ℕ) (E : Pauli) where
  pub run_refused : (n at : ℕ) → checking_with_start caller s ≡ refused_at n at → refused_at n at ≡ seeking caller s E
  unfolding checking_with_start
  run_refused n at e = sym (seeking_refused caller s E n at (mapped_refused checked_run_of (run_of caller s) n at e))

  -- of a run that is checked: its widths, and the rows of E at the last
  module _ {width : ℕ} {v : Survey} (checked : checking_with_start caller s ≡ accepted (record { start = width; survey = v })) {r : ℕ} (is : r ≡ placed_row E v.width) where
    abbrev reached_row : ℕ
    reached_row = row (not (is_reached width (run_in caller s).steps E)) 25 0

    last_is : v.width ≡ last_width width (run_in caller s).steps
    unfolding survey_of
    last_is =
        ap (λ (v : Survey). v.width) (checked_survey caller s checked) ∙ survey_width (run_in caller s).width (run_in caller s).steps
        ∙ ap (λ (n : ℕ). last_width n (run_in caller s).steps) (sym (checked_start caller s checked))

    seeking_by : seeking caller s E ≡ answered (first r reached_row) (start_for width (run_in caller s).steps E)
    unfolding seeking_row
    seeking_by = seeking_is caller s E (run_in caller s) (checked_read caller s checked) ∙ rw (is, last_is, checked_start caller s checked)

    pub row_refused : (r ≡ 0 → ⊥) → refused r ≡ seeking caller s E
    row_refused ne =
        let some = some_row r ne in
        sym (seeking_by ∙ ap (λ (n : ℕ). answered n (start_for width (run_in caller s).steps E)) (first_some r reached_row some) ∙ answered_some r _ some)

    pub is_read : is_accepted (run_of caller s) ≡ true
    unfolding is_accepted
    is_read = rw (checked_read caller s checked)

    pub begins : width ≡ (run_in caller s).width
    begins = checked_start caller s checked

    pub width_narrow : caller.widest ≤ widest_run → width ≤ widest_run
    width_narrow narrow =
        let known = run_allowed caller s (run_in caller s) (checked_read caller s checked) in
        omega (arith, begins, known.width, narrow)

    module _ (none : r ≡ 0) where
      pub ends : E.n ≡ last_width width (run_in caller s).steps
      ends = (placed_passed E v.width (sym is ∙ none)).1 ∙ last_is

      pub last_narrow : caller.widest ≤ widest_run → E.n ≤ widest_run
      last_narrow narrow =
          let known = run_allowed caller s (run_in caller s) (checked_read caller s checked) in
          let within = last_within caller (run_in caller s).width (run_in caller s).steps known.width known.allowed in
          let same : last_width width (run_in caller s).steps ≡ last_width (run_in caller s).width (run_in caller s).steps = ap (λ (n : ℕ). last_width n (run_in caller s).steps) begins in
          omega (arith, ends, same, within, narrow)

      pub searched : {a : Answer Pauli} → a ≡ answered reached_row (start_for width (run_in caller s).steps E) → a ≡ seeking caller s E
      searched e = e ∙ sym (seeking_by ∙ ap (λ (n : ℕ). answered n (start_for width (run_in caller s).steps E)) (first_none r reached_row none))
