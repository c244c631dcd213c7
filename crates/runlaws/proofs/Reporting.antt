-- The proof of what StepReports says. The run and the carried run are read as the steps and as the carried steps, field by field at the same places; a step's flag is a byte of its field.
use Rattle.std.specs.Prelude.{◌≡◌, true, false, List, ◌∷◌, ◌++◌, ℕ, ◌+◌, ◌%◌, ◌≤◌, ◌<◌, ltb, Float, length}
use Rattle.std.proofs.Math.Path.{refl, sym, ap₂, subst}
use Rattle.std.proofs.Common.{ap, ◌∙◌, arith, lit<}
use Rattle.std.proofs.Math.Bool.{not}
use Rattle.std.proofs.Math.Dec.{eqb}
use borrow.Author.Tests.{ltb-false, ne_eqb, le-ltb}
use Rattle.answers.specs.Answer.{Answer}
use Rattle.answers.specs.Answer.Answer.{accepted, refused, refused_at}
use Rattle.answers.specs.Row.{row, first, answered, row_passed, first_passed, accepted_row, refused_accepted, refused_at_accepted}
use Rattle.bitlaws.specs.Digit.{bit_of, by_digit, mod_two}
use Rattle.paulilaws.specs.Pauli.{Pauli, anti, fits}
use Rattle.paulilaws.specs.AntiMask.{anti_mask}
use Rattle.paulilaws.proofs.AntiMask.{anti_mask_lem, mask_lt}
use Rattle.paulilaws.specs.Fitting.{Fitting}
use Rattle.paulilaws.proofs.Fitting.{fits_admitted}
use Rattle.amplitudelaws.specs.Step.{Step}
use Rattle.amplitudelaws.specs.Step.Step.{rotation, promotion, projection, correction, quarter_turn}
use Rattle.framelaws.specs.Caller.{Caller, service, emulator}
use Rattle.framelaws.specs.Carrying.{flipped, carried_step, carried_steps, end_pauli}
use Rattle.framelaws.proofs.Fitted.{fitting_end}
use Rattle.framelaws.specs.PassRow.{placed_row}
use Rattle.framelaws.specs.Reported.{framed_none}
use Rattle.framelaws.proofs.Reported.{framed_at, framed_some}
use Rattle.framelaws.specs.Reporting.{Framed, Report, pair_report, step_report, report_of}
use Rattle.framelaws.specs.Rows.{step_row, rotation_step_row, projection_step_row}
use Rattle.framelaws.specs.Suited.{placed_passed, placed_row_lem}
use Rattle.framelaws.specs.Surveyed.{survey_steps}
use Rattle.runlaws.specs.Bytes.{byte_at}
use Rattle.runlaws.specs.Calls.{CheckedRun, survey_of, checked_run_of, checking_with_start, carrying_row, carried_run, carrying, Frames, frames_of, on_run, of_run, framing, found, finding, reporting}
use Rattle.runlaws.proofs.CarriedFields.{step_of, carrying_passes, left_byte, carried_field, carried_byte}
use Rattle.runlaws.specs.CutRun.{FieldOf}
use Rattle.runlaws.proofs.CutRun.{field_of}
use Rattle.runlaws.specs.Fields.{step_read_lem}
use Rattle.runlaws.specs.Flags.{field_size, fields_size}
use Rattle.runlaws.specs.Found.{finding_refused, finding_row, finding_is, finding_found}
use Rattle.runlaws.specs.Mapped.{From, mapped_accepted, mapped_refused}
use Rattle.runlaws.specs.Outcomes.{carrying_answers}
use Rattle.runlaws.specs.Run.{Run, mapped, run_of}
use Rattle.runlaws.specs.WholeRun.{run_allowed}
use Rattle.runlaws.specs.StepReports.{Carried, SoFar, Flag, Reports, Told, SomeReport, StepReports}

-- ---- a bit, and the bit that a Pauli leaves of it

bit_changed : (a flag : ℕ) → a < 2 → flag < 2 → eqb a 1 ≡ not (eqb ((flag + a) % 2) flag)
bit_changed a flag ha hf =
    by_digit (λ a. eqb a 1 ≡ not (eqb ((flag + a) % 2) flag))
    (by_digit (λ flag. eqb 0 1 ≡ not (eqb ((flag + 0) % 2) flag)) refl refl flag hf)
    (by_digit (λ flag. eqb 1 1 ≡ not (eqb ((flag + 1) % 2) flag)) refl refl flag hf) a ha

bit_of_lem : (a : ℕ) → a < 2 → a ≡ bit_of (eqb a 1)
bit_of_lem a h = by_digit (λ a. a ≡ bit_of (eqb a 1)) refl refl a h

anti_lt : (Q P : Pauli) → anti Q P < 2
unfolding anti
anti_lt Q P = mod_two _

last_bit : (rows flag : ℕ) → first rows (row (ltb 1 flag) 14 0) ≡ 0 → flag < 2
last_bit rows flag e =
    let fourteen = (row_passed (ltb 1 flag) 14 0 (lit< tt) (first_passed rows (row (ltb 1 flag) 14 0) e).1).0 in
    omega (arith, ltb-false 1 flag fourteen)

-- ---- a step of the run

module _ (caller : Caller) (s : List ℕ) (Q : Pauli) (R : Run) (read : run_of caller s ≡ accepted R) (placed : placed_row Q R.width ≡ 0) where
  module _ (before : List (Step Float)) (t : Step Float) (after : List (Step Float)) (steps : R.steps ≡ before ++ t ∷ after) where
    abbrev place : ℕ
    place = 4 + fields_size before

    abbrev frame : Pauli
    frame = end_pauli Q before

    own : FieldOf caller s R.width before t
    own = field_of caller s R before after t read steps

    abbrev carried : FieldOf caller (carried_run Q R s) R.width (carried_steps Q before) (carried_step frame t)
    carried = carried_field caller s Q R read before t after steps

    -- a byte of the field, as it was and as it is carried
    module _ (i : ℕ) (h : i < field_size t) where
      was_byte : byte_at s (place + i) ≡ byte_at own.field i
      was_byte = own.own i h

      is_byte : byte_at (carried_run Q R s) (place + i) ≡ byte_at carried.field i
      is_byte = carried_byte caller s Q R read before t after steps i h

      -- the flag, `flag` before and changed where the Paulis anticommute
      flag_changed : (P : Pauli) (flag : ℕ) → flag < 2 → byte_at own.field i ≡ flag → byte_at carried.field i ≡ flipped frame P flag
          → (out : List ℕ) → length s ≤ length out → eqb (anti frame P) 1 ≡ not (eqb (byte_at (carrying caller s Q out).lent (place + i)) (byte_at s (place + i)))
      unfolding flipped
      flag_changed P flag bit was is out room =
          bit_changed (anti frame P) flag (anti_lt frame P) bit
          ∙ ap₂ (λ (a b : ℕ). not (eqb a b)) (sym (left_byte caller s Q R read placed out room (place + i) (omega (arith, h, own.inside)) ∙ is_byte ∙ is)) (sym (was_byte ∙ was))

      -- and what is reported of it
      told_flag : (P : Pauli) (flag : ℕ) → Fitting frame → flag < 2 → byte_at own.field i ≡ flag → byte_at carried.field i ≡ flipped frame P flag
          → Flag caller s Q (place + i) frame P (pair_report frame P)
      unfolding pair_report
      told_flag P flag f bit was is =
          let mask = anti_mask_lem frame.n frame P f.xs f.zs in
          record {
            changed = eqb (anti frame P) 1;
            mask = anti_mask frame P;
            is = refl;
            byte = flag_changed P flag bit was is;
            qubits = mask;
            inside = mask_lt frame.n frame P f.xs f.zs;
            odd = mask.odd ∙ bit_of_lem (anti frame P) (anti_lt frame P);
          }

    -- carrying through the run that is cut before the step
    so_far : SoFar caller s Q place frame
    unfolding carrying_row first row
    so_far out room =
        (carrying_answers caller _ Q out (record { width = R.width; steps = before }) own.cut_run (rw (placed, own.cut_size, le-ltb (length out) (place + 3) room))).0

    frame_fitting : Fitting frame
    frame_fitting =
        let known = run_allowed caller _ (record { width = R.width; steps = before }) own.cut_run in
        let at_start = placed_passed Q R.width placed in
        (fitting_end caller R.width Q before known.width known.allowed at_start.0.fitting at_start.1).fitting

    no_row : step_row caller own.width t ≡ 0
    no_row = (step_read_lem caller s _ _ t own.read).row

  -- what is reported of the step, by its kind
  told : (before : List (Step Float)) (t : Step Float) (after : List (Step Float)) → R.steps ≡ before ++ t ∷ after
      → Reports caller s Q (4 + fields_size before) (end_pauli Q before) t (step_report (end_pauli Q before) t)
  unfolding step_report step_row rotation_step_row projection_step_row field_size carried_step
  told before (rotation P sign c q) after e =
      told_flag before (rotation P sign c q) after e 20 (lit< tt) P sign (frame_fitting before _ after e) (last_bit _ sign (no_row before _ after e))
      (own before _ after e).flag (carried before _ after e).flag
  told before (promotion c q) after e = refl
  told before (projection M p v invnorm) after e =
      told_flag before (projection M p v invnorm) after e 21 (lit< tt) M v (frame_fitting before _ after e) (last_bit _ v (no_row before _ after e))
      (own before _ after e).flag (carried before _ after e).flag
  told before (correction P) after e = refl
  told before (quarter_turn P) after e = refl

-- ---- the answers

module _ (caller : Caller) (s : List ℕ) (Q : Pauli) (i : ℕ) where
  told_of : (f : Framed Float) → finding caller s Q i ≡ accepted f → Told caller s Q i (report_of f)
  told_of f e =
      let k = finding_found caller s Q i f e in
      let at = framed_at Q k.run.steps i f k.is in
      let w = at.at in
      subst (Told caller s Q i) (ap (λ (F : Pauli). step_report F f.step) (sym at.frame)) (record {
        step = f.step;
        number = step_of caller s k.run w.before f.step w.after k.read w.steps i w.number;
        frame = end_pauli Q w.before;
        so_far = so_far caller s Q k.run k.read k.placed w.before f.step w.after w.steps;
        reports = told caller s Q k.run k.read k.placed w.before f.step w.after w.steps;
      })

  finds : (f : Framed Float) → finding caller s Q i ≡ accepted f → Carried caller s Q i f
  finds f e =
      let k = finding_found caller s Q i f e in
      let at = framed_at Q k.run.steps i f k.is in
      let w = at.at in
      let place : ℕ = 4 + fields_size w.before in
      record {
        number = step_of caller s k.run w.before f.step w.after k.read w.steps i w.number;
        so_far = subst (SoFar caller s Q place) (sym at.frame) (so_far caller s Q k.run k.read k.placed w.before f.step w.after w.steps);
      }

  tells : (r : Report) → reporting caller s Q i ≡ accepted r → Told caller s Q i r
  unfolding reporting
  tells r e =
      let k = mapped_accepted report_of (finding caller s Q i) r e in
      subst (Told caller s Q i) (sym k.is) (told_of k.value k.was)

  run_refused : (r at : ℕ) → checking_with_start caller s ≡ refused_at r at → reporting caller s Q i ≡ refused_at r at
  unfolding reporting mapped checking_with_start
  run_refused r at e = rw (finding_refused caller s Q i r at (mapped_refused checked_run_of (run_of caller s) r at e))

  -- of a run that is checked
  module _ (C : CheckedRun) (checked : checking_with_start caller s ≡ accepted C) where
    from : From checked_run_of (run_of caller s) C
    unfolding checking_with_start
    from = mapped_accepted checked_run_of (run_of caller s) C checked

    start_is : from.value.width ≡ C.start
    start_is = sym (ap (λ (k : CheckedRun). k.start) from.is)

    count_is : length from.value.steps ≡ C.survey.steps
    unfolding survey_of
    count_is = sym (ap (λ (k : CheckedRun). k.survey.steps) from.is ∙ survey_steps from.value.width from.value.steps)

    no_pauli : fits Q ≡ false → reporting caller s Q i ≡ refused 3
    unfolding reporting mapped
    no_pauli unfit = rw (finding_row caller s Q i from.value from.was 3 (unfold placed_row row in rw unfit) (lit< tt))

    misplaced : fits Q ≡ true → (Q.n ≡ C.start → ⊥) → reporting caller s Q i ≡ refused 4
    unfolding reporting mapped
    misplaced fit other =
        let row : placed_row Q from.value.width ≡ 4 = unfold placed_row row in rw (fit, ne_eqb Q.n from.value.width (λ same. other (same ∙ start_is))) in
        rw (finding_row caller s Q i from.value from.was 4 row (lit< tt))

    module _ (fit : fits Q ≡ true) (start : Q.n ≡ C.start) where
      on_start : placed_row Q from.value.width ≡ 0
      on_start = placed_row_lem Q from.value.width (fits_admitted Q fit) (start ∙ sym start_is)

      no_step_lem : C.survey.steps ≤ i → reporting caller s Q i ≡ refused 20
      unfolding reporting mapped found
      no_step_lem h =
          rw (finding_is caller s Q i from.value from.was on_start, framed_none Q from.value.steps i (omega (arith, h, count_is)))

      some_report : i < C.survey.steps → SomeReport caller s Q i
      unfolding reporting mapped found
      some_report h =
          let k = framed_some Q from.value.steps i (omega (arith, h, count_is)) in
          record { report = report_of k.framed; answered = rw (finding_is caller s Q i from.value from.was on_start, k.is) }

ends : (caller : Caller) (s : List ℕ) (Q : Pauli) (F : Frames) → framing caller s Q ≡ accepted F
    → (out : List ℕ) → length s ≤ length out → (carrying caller s Q out).answer ≡ accepted F.last
unfolding framing of_run on_run
ends caller s Q F e out room = by (run_of caller s) refl e
  where
    by : (a : Answer Run) → run_of caller s ≡ a → of_run a (λ R. answered (placed_row Q R.width) (frames_of Q R)) ≡ accepted F → (carrying caller s Q out).answer ≡ accepted F.last
    by (accepted R) read e =
        let k = accepted_row (placed_row Q R.width) (frames_of Q R) F (sym e) in
        rw k.1 (carrying_answers caller s Q out R read (carrying_passes caller s Q R read k.0 out room)).0
    by (refused n) read e = absurd (refused_accepted e)
    by (refused_at n at) read e = absurd (refused_at_accepted e)

-- TELL ME ABOUT STEP 40
pub step_reports : (caller : Caller) → StepReports caller
step_reports caller = record {
  tells = tells caller;
  run_first = run_refused caller;
  three = no_pauli caller;
  four = misplaced caller;
  twenty = λ s Q i C checked fit start. no_step_lem caller s Q i C checked fit start;
  each = λ s Q i C checked fit start. some_report caller s Q i C checked fit start;
  finds = finds caller;
  ends = ends caller;
}

-- and so of what report_step and carry_run promise to the service, and to the emulator
pub step_reports_at_the_service : StepReports service
step_reports_at_the_service = step_reports service

pub step_reports_at_the_emulator : StepReports emulator
step_reports_at_the_emulator = step_reports emulator
