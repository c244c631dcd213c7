-- Which start gives this end, proved: StartForEnd.antt states it. For any caller whose states have at most 256 qubits, as many as a Pauli may have, and so for the
-- service and for the emulator.
use Rattle.std.specs.Prelude.{◌≡◌, refl, Bool, true, false, not, List, ◌⊎◌, ℕ, ◌≤◌}
use Rattle.std.proofs.Math.Path.{sym, subst}
use Rattle.std.proofs.Common.{ap, ◌∙◌, inl, arith, lit≤}
use Rattle.std.proofs.Math.Logic.{inr}
use Rattle.std.proofs.Math.Option.{some}
use borrow.Author.Tests.{ne_eqb}
use Rattle.answers.specs.Answer.{Answer, is_accepted}
use Rattle.answers.specs.Answer.Answer.{accepted, refused, refused_at}
use Rattle.answers.specs.Row.{row, first, answered, accepted_row, accepted_same, answered_none, first_passed, refused_accepted, refused_at_accepted}
use Rattle.paulilaws.specs.Pauli.{Pauli, most_qubits, fits}
use Rattle.paulilaws.specs.Fitting.{Admitted}
use Rattle.paulilaws.proofs.Fitting.{fits_admitted, admitted_fits}
use Rattle.amplitudelaws.specs.Step.{last_width}
use Rattle.framelaws.specs.Caller.{Caller, service, emulator}
use Rattle.framelaws.specs.Carrying.{end_pauli}
use Rattle.framelaws.proofs.Fitted.{fitting_end}
use Rattle.framelaws.specs.PassRow.{placed_row}
use Rattle.framelaws.specs.Seeking.{is_reached, start_for}
use Rattle.framelaws.proofs.Sought.{start_found, start_reached}
use Rattle.framelaws.specs.Suited.{placed_passed, placed_row_lem}
use Rattle.framelaws.specs.Survey.{Survey}
use Rattle.framelaws.specs.Surveyed.{survey_width}
use Rattle.runlaws.specs.Run.{Run, run_of}
use Rattle.runlaws.specs.Calls.{on_run, survey_of, checking, carrying, of_run, seeking_row, seeking}
use Rattle.runlaws.specs.Mapped.{From, mapped_accepted, mapped_refused}
use Rattle.runlaws.proofs.Sent.{sent_by, sent_accepted}
use Rattle.runlaws.specs.StartForEnd.{StartsFor, NoStart, SomeStart, StartForEnd}
use Rattle.runlaws.specs.WholeRun.{run_allowed}

-- what a call on a run answers with a value: the run that it read
record ReadFor {A : Type 0} (read : Answer Run) (f : Run → Answer A) (a : A) : Type 0 where
  run : Run
  was : read ≡ accepted run
  is : f run ≡ accepted a

read_for : {A : Type 0} (read : Answer Run) (f : Run → Answer A) (a : A) → of_run read f ≡ accepted a → ReadFor read f a
unfolding of_run on_run
read_for (accepted R) f a e = record { run = R; was = refl; is = e }
read_for (refused n) f a e = absurd (refused_accepted e)
read_for (refused_at n at) f a e = absurd (refused_at_accepted e)

-- ---- what seeking answers: of a run that reads as R, and of one that is refused

module _ (caller : Caller) (s : List ℕ) (E : Pauli) where
  pub seeking_is : (R : Run) → run_of caller s ≡ accepted R → seeking caller s E ≡ answered (seeking_row E R) (start_for R.width R.steps E)
  unfolding seeking of_run on_run
  seeking_is R read = rw read

  pub seeking_refused : (r at : ℕ) → run_of caller s ≡ refused_at r at → seeking caller s E ≡ refused_at r at
  unfolding seeking of_run on_run
  seeking_refused r at e = rw e

-- ---- the rows, of an end that can be placed

row_reached : (E : Pauli) (R : Run) → placed_row E (last_width R.width R.steps) ≡ 0 → is_reached R.width R.steps E ≡ true → seeking_row E R ≡ 0
unfolding seeking_row first row
row_reached E R placed reached = rw (placed, reached)

row_unreached : (E : Pauli) (R : Run) → placed_row E (last_width R.width R.steps) ≡ 0 → is_reached R.width R.steps E ≡ false → seeking_row E R ≡ 25
unfolding seeking_row first row
row_unreached E R placed reached = rw (placed, reached)

reached_row_lem : (t : Bool) → row (not t) 25 0 ≡ 0 → t ≡ true
unfolding row
reached_row_lem true e = refl
reached_row_lem false e = absurd (omega (arith, e))

-- Which of the rows stands first plays no part here: the claims on the rows, below, say it.
rows_passed : (E : Pauli) (R : Run) → seeking_row E R ≡ 0 → (placed_row E (last_width R.width R.steps) ≡ 0) × (is_reached R.width R.steps E ≡ true)
unfolding seeking_row
rows_passed E R e = let rows = first_passed _ _ e in (search rows, search (rows, reached_row_lem))

module _ (caller : Caller) (narrow : caller.widest ≤ most_qubits) (s : List ℕ) where
  -- ---- of a run that reads as R

  module _ (R : Run) (read : run_of caller s ≡ accepted R) where
    abbrev found : Pauli → Pauli
    found E = start_for R.width R.steps E

    serves : (E : Pauli) → seeking_row E R ≡ 0 → StartsFor caller s E (found E)
    serves E none =
        let known = run_allowed caller s R read in
        let rows = rows_passed E R none in
        let placed = placed_passed E (last_width R.width R.steps) rows.0 in
        let start = start_found caller R.width R.steps (omega (arith, known.width, narrow)) known.allowed known.width E placed.0.fitting placed.1 rows.1 in
        record {
          pauli = admitted_fits (found E) start.admitted;
          start = known.start ∙ ap some (sym start.on);
          ends = λ out room. (sent_by caller s (found E) out R read start.admitted start.on room).ends ∙ ap accepted start.ends;
        }

    some_start : (E : Pauli) → seeking_row E R ≡ 0 → SomeStart caller s E
    some_start E none = record { pauli = found E; answered = seeking_is caller s E R read ∙ answered_none (seeking_row E R) (found E) none; serves = serves E none }

    -- an end that a Pauli has is placed, and reached
    has_end : (Q : Pauli) → Admitted Q → Q.n ≡ R.width → seeking_row (end_pauli Q R.steps) R ≡ 0
    has_end Q admitted width =
        let E : Pauli = end_pauli Q R.steps in
        let known = run_allowed caller s R read in
        let end = fitting_end caller R.width Q R.steps known.width known.allowed admitted.fitting width in
        let placed = placed_row_lem E (last_width R.width R.steps) (record { fitting = end.fitting; width = omega (arith, end.width, end.within, narrow) }) end.width in
        row_reached E R placed
        (start_reached caller R.width R.steps (omega (arith, known.width, narrow)) known.allowed known.width E end.fitting end.width Q admitted.fitting width refl)

  -- ---- the claims

  serves_answered : (E Q : Pauli) → seeking caller s E ≡ accepted Q → StartsFor caller s E Q
  unfolding seeking
  serves_answered E Q e =
      let got = read_for (run_of caller s) _ Q e in
      let R : Run = got.run in
      let known = accepted_row (seeking_row E R) (start_for R.width R.steps E) Q (sym got.is) in
      subst (StartsFor caller s E) (sym known.1) (serves R got.was E known.0)

  found_for : (E Q : Pauli) (out : List ℕ) → (carrying caller s Q out).answer ≡ accepted E → SomeStart caller s E
  unfolding is_accepted
  found_for E Q out e =
      let sent = sent_accepted caller s Q out (rw e) in
      let known = sent.known in
      let is : end_pauli Q sent.run.steps ≡ E = accepted_same (sym known.ends ∙ e) in
      some_start sent.run known.read E (subst (λ (P : Pauli). seeking_row P sent.run ≡ 0) is (has_end sent.run known.read Q known.admitted known.width))

  none_starts : (E : Pauli) → seeking caller s E ≡ refused 25 → NoStart caller s E
  none_starts E e Q out carried = refused_accepted (sym e ∙ (found_for E Q out carried).answered)

  -- the rows, of a run that is checked
  checked : (v : Survey) → checking caller s ≡ accepted v → From survey_of (run_of caller s) v
  unfolding checking
  checked v e = mapped_accepted survey_of (run_of caller s) v e

  width_is : (v : Survey) (c : From survey_of (run_of caller s) v) → last_width c.value.width c.value.steps ≡ v.width
  unfolding survey_of
  width_is v c = sym (ap (λ (v : Survey). v.width) c.is ∙ survey_width c.value.width c.value.steps)

  run_refused : (E : Pauli) (r at : ℕ) → checking caller s ≡ refused_at r at → seeking caller s E ≡ refused_at r at
  unfolding checking
  run_refused E r at e = seeking_refused caller s E r at (mapped_refused survey_of (run_of caller s) r at e)

  no_pauli : (E : Pauli) (v : Survey) → checking caller s ≡ accepted v → fits E ≡ false → seeking caller s E ≡ refused 3
  unfolding seeking_row placed_row first row answered
  no_pauli E v e unfit = let c = checked v e in seeking_is caller s E c.value c.was ∙ rw unfit

  misplaced : (E : Pauli) (v : Survey) → checking caller s ≡ accepted v → fits E ≡ true → (E.n ≡ v.width → ⊥) → seeking caller s E ≡ refused 4
  unfolding seeking_row placed_row first row answered
  misplaced E v e fit other =
      let c = checked v e in
      seeking_is caller s E c.value c.was ∙ rw (fit, ne_eqb E.n (last_width c.value.width c.value.steps) (λ same. other (same ∙ width_is v c)))

  or_none : (E : Pauli) (v : Survey) → checking caller s ≡ accepted v → fits E ≡ true → E.n ≡ v.width
      → SomeStart caller s E ⊎ ((seeking caller s E ≡ refused 25) × NoStart caller s E)
  or_none E v e fit width =
      let c = checked v e in
      let R : Run = c.value in
      let placed = placed_row_lem E (last_width R.width R.steps) (fits_admitted E fit) (width ∙ sym (width_is v c)) in
      by (is_reached R.width R.steps E) R refl c.was placed
    where
      by : (t : Bool) (R : Run) → is_reached R.width R.steps E ≡ t → run_of caller s ≡ accepted R → placed_row E (last_width R.width R.steps) ≡ 0
          → SomeStart caller s E ⊎ ((seeking caller s E ≡ refused 25) × NoStart caller s E)
      by true R reached read placed = inl (some_start R read E (row_reached E R placed reached))
      by false R reached read placed =
          let is : seeking caller s E ≡ refused 25 = seeking_is caller s E R read ∙ (unfold answered in rw (row_unreached E R placed reached)) in
          inr (is, none_starts E is)

-- WHICH START GIVES THIS END
pub start_for_end : (caller : Caller) → caller.widest ≤ most_qubits → StartForEnd caller
start_for_end caller narrow = record {
  answers = serves_answered caller narrow;
  refuses = none_starts caller narrow;
  finds = found_for caller narrow;
  run_first = run_refused caller narrow;
  three = no_pauli caller narrow;
  four = misplaced caller narrow;
  last = or_none caller narrow;
}

-- and so of what seek_start and carry_run promise to the service, and to the emulator
pub start_for_end_at_the_service : StartForEnd service
start_for_end_at_the_service = start_for_end service (lit≤ tt)

pub start_for_end_at_the_emulator : StartForEnd emulator
start_for_end_at_the_emulator = start_for_end emulator (lit≤ tt)
