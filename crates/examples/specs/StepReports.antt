-- Reports on steps, by example, each worked by hand: every kind of step, masks of none, one and two qubits, the rows in their order, both callers. And closed instances of every
-- claim of the theorem on them.
use Rattle.std.specs.Prelude.{◌≡◌, refl, Bool, true, false, not, cond, List, [], ◌∷◌, ◌++◌, ℕ, suc, ◌+◌, ◌%◌, ◌^◌, ◌≤◌, ◌<◌, length, take, replicate, eqb, Float}
use Rattle.std.proofs.Common.{sym, ap, ◌∙◌, subst, le_refl, take_at, arith, lit≤, lit<}
use Rattle.std.specs.Int.Count.{ones, ones_in}
use Rattle.std.specs.Float.Ieee.{of_bits, neg, le}
use Rattle.answers.specs.Answer.{Answer}
use Rattle.answers.specs.Answer.Answer.{accepted, refused, refused_at}
use Rattle.answers.specs.Row.{row, first, answered, accepted_same}
use Rattle.bitlaws.specs.Digit.{digit, bit_of, digit_above}
use Rattle.bitlaws.specs.Opening.{drop_bit}
use Rattle.bitlaws.specs.Parity.{overlap, parity}
use Rattle.paulilaws.specs.AntiMask.{anti_mask, letters_anti, alone}
use Rattle.paulilaws.specs.Letter.{letter_at}
use Rattle.paulilaws.specs.Pauli.{Pauli, product, anti, fits, hermitian, coefficient, ys}
use Rattle.paulilaws.specs.Frame.{raised, dropped}
use Rattle.amplitudelaws.specs.Binary.{in_unit}
use Rattle.amplitudelaws.specs.Rows.{rotation_kernel_row, measurement_row, hermitian_row, width_row, unit_row, promoted_width_row, pivot_row, pivot_mask}
use Rattle.amplitudelaws.specs.Step.{Step, width_after}
use Rattle.amplitudelaws.specs.Step.Step.{rotation, promotion, projection, correction, quarter_turn}
use Rattle.framelaws.specs.Caller.{service, emulator}
use Rattle.framelaws.specs.Carrying.{flipped, deciding, meets, absorbed, widened, turned_by, turned_past, passed, end_pauli}
use Rattle.framelaws.specs.PassRow.{placed_row}
use Rattle.framelaws.specs.Reporting.{Framed, framed_steps, pair_report, step_report}
use Rattle.framelaws.specs.Reporting.Report.{no_flag, flagged}
use Rattle.framelaws.specs.Rows.{step_row, rotation_step_row, promotion_step_row, projection_step_row}
use Rattle.framelaws.specs.Survey.{mixed_amplitudes, surveyed, survey_from, survey}
use Rattle.runlaws.specs.Bytes.{byte_at, number, float_at, pauli_at}
use Rattle.runlaws.specs.Calls.{CheckedRun, Frames, survey_of, checking_with_start, carrying_row, carrying, on_run, of_run, framing, found, finding, reporting}
use Rattle.runlaws.specs.Flags.{field_size, fields_size}
use Rattle.runlaws.specs.Pieces.{end_bytes}
use Rattle.runlaws.specs.Field.{body_length, is_whole, field_at}
use Rattle.runlaws.specs.Reading.{decoded, unless, judged_by, judged, read_field, read_at}
use Rattle.runlaws.specs.Reading.Read.{step_read}
use Rattle.runlaws.proofs.Reporting.{step_reports_at_the_service, step_reports_at_the_emulator}
use Rattle.runlaws.specs.Run.{Run, mapped, chained, ended, follow, walk, start_width, begun, run_of}
use Rattle.runlaws.specs.StepReports.{SoFar, Reports, Told, Carried, SomeReport}
use Rattle.examples.specs.Runs as bytes
use Rattle.examples.specs.Runs.{run_from}

-- ---- by hand

-- on two qubits: i^k X^x Z^z
abbrev two : ℕ → ℕ → ℕ → Pauli
two k x z = record { n = 2; k = k; x = x; z = z }

-- XX is carried. Rotations by ZZ and by Z on qubit 0; a qubit promoted; a correction Z on qubit 0, behind which the frame is -XXI; a quarter turn of the same Pauli, behind
-- which it is -YXI; a projection of X on the new qubit; a rotation by YY.
abbrev run : List ℕ
run =
    run_from 2
    (λ rest.
    bytes.rotation 0 0 3 0 (bytes.rotation 0 0 1 1 (bytes.promotion (bytes.correction 0 0 1 (bytes.quarter_turn 0 0 1 (bytes.projection 0 4 0 2 1 (bytes.rotation 2 3 3 0 rest)))))))

abbrev XX : Pauli
XX = two 0 3 0

record ByHand : Type 0 where
  -- two qubits, and so the sign is kept; one, and it is changed
  first_step : reporting service run XX 0 ≡ accepted (flagged false 3)
  second : reporting service run XX 1 ≡ accepted (flagged true 1)
  -- no flag: the promotion, the correction, the quarter turn
  promoted : reporting service run XX 2 ≡ accepted no_flag
  corrected : reporting service run XX 3 ≡ accepted no_flag
  turned : reporting service run XX 4 ≡ accepted no_flag
  -- -YXI and IIX; -YX and YY, which have Y on qubit 0: the quarter turn's frame, not XX
  projected : reporting service run XX 5 ≡ accepted (flagged false 0)
  last_step : reporting service run XX 6 ≡ accepted (flagged true 2)
  -- seven steps have the numbers 0 to 6; a run of none has none
  seven : reporting service run XX 7 ≡ refused 20
  none : reporting service (run_from 2 (λ rest. rest)) XX 0 ≡ refused 20
  -- the rows: the run's own before 3, 3 before 4, 4 before 20, by the start width
  run_before_three : reporting service [] (two 4 0 0) 7 ≡ refused_at 14 0
  three_before_four : reporting service run (record { n = 3; k = 4; x = 0; z = 0 }) 7 ≡ refused 3
  four_before_20 : reporting service run (record { n = 3; k = 0; x = 0; z = 0 }) 7 ≡ refused 4
  -- the emulator
  by_the_emulator : reporting emulator run XX 6 ≡ accepted (flagged true 2)
  over_six : reporting emulator (run_from 7 (λ rest. rest)) XX 0 ≡ refused_at 21 0

by_hand : ByHand
unfolding reporting finding framing chained found framed_steps step_report pair_report anti_mask of_run on_run placed_row run_of begun start_width mapped walk follow ended read_at read_field judged judged_by unless decoded field_at is_whole body_length number float_at pauli_at fits hermitian coefficient ys passed flipped anti product deciding meets absorbed widened turned_by turned_past raised dropped drop_bit width_after step_row rotation_step_row promotion_step_row projection_step_row rotation_kernel_row measurement_row hermitian_row width_row unit_row promoted_width_row pivot_row pivot_mask in_unit row first answered le neg of_bits digit overlap parity ones ones_in
by_hand = record {
  first_step = refl;
  second = refl;
  promoted = refl;
  corrected = refl;
  turned = refl;
  projected = refl;
  last_step = refl;
  seven = refl;
  none = refl;
  run_before_three = refl;
  three_before_four = refl;
  four_before_20 = refl;
  by_the_emulator = refl;
  over_six = refl;
}

-- ---- the theorem on this run

abbrev checked : CheckedRun
checked = record { start = 2; survey = record { width = 2; steps = 7; greatest = 3; scratch = 4 } }

checks : checking_with_start service run ≡ accepted checked
unfolding checking_with_start survey_of survey survey_from surveyed mixed_amplitudes run_of begun start_width mapped walk follow ended read_at read_field judged judged_by unless decoded field_at is_whole body_length number float_at pauli_at fits hermitian coefficient ys width_after step_row rotation_step_row promotion_step_row projection_step_row rotation_kernel_row measurement_row hermitian_row width_row unit_row promoted_width_row pivot_row pivot_mask in_unit row first le neg of_bits digit overlap parity ones ones_in
checks = refl

fitting : fits XX ≡ true
unfolding fits
fitting = refl

unfit : fits (two 4 0 0) ≡ false
unfolding fits
unfit = refl

one_fits : fits (record { n = 1; k = 0; x = 0; z = 0 }) ≡ true
unfolding fits
one_fits = refl

none_checked : checking_with_start service [] ≡ refused_at 14 0
unfolding checking_with_start run_of begun start_width field_at is_whole body_length mapped
none_checked = refl

record Instance : Type 0 where
  -- what is told of the step whose sign is changed, of one whose branch is kept, and by the emulator
  changed : Told service run XX 1 (flagged true 1)
  kept : Told service run XX 5 (flagged false 0)
  emulated : Told emulator run XX 6 (flagged true 2)
  -- the rows
  fourteen : reporting service [] XX 0 ≡ refused_at 14 0
  three : reporting service run (two 4 0 0) 0 ≡ refused 3
  four : reporting service run (record { n = 1; k = 0; x = 0; z = 0 }) 0 ≡ refused 4
  twenty : reporting service run XX 7 ≡ refused 20
  each : SomeReport service run XX 6

instance : Instance
instance =
    let at-the-service = step_reports_at_the_service in
    record {
      changed = at-the-service.tells run XX 1 _ by_hand.second;
      kept = at-the-service.tells run XX 5 _ by_hand.projected;
      emulated = step_reports_at_the_emulator.tells run XX 6 _ by_hand.by_the_emulator;
      fourteen = at-the-service.run_first [] XX 0 14 0 none_checked;
      three = at-the-service.three run (two 4 0 0) 0 checked checks unfit;
      four = at-the-service.four run (record { n = 1; k = 0; x = 0; z = 0 }) 0 checked checks one_fits (λ e. omega arith);
      twenty = at-the-service.twenty run XX 7 checked checks fitting refl (lit≤ tt);
      each = at-the-service.each run XX 6 checked checks fitting refl (lit< tt);
    }

-- ---- what the theorem says of step 1, field by field

-- what comes first of two lists that are put together, by its length
front_is : {A : Type 0} (all before rest : List A) (i : ℕ) → all ≡ before ++ rest → length before ≡ i → before ≡ take i all
front_is all before rest i e n = sym (ap (take i) e ∙ take_at before rest i n)

abbrev steps_in : Answer Run → List (Step Float)
steps_in (accepted R) = R.steps
steps_in (refused n) = []
steps_in (refused_at n at) = []

abbrev told : Told service run XX 1 (flagged true 1)
told = instance.changed

-- behind the start field's four bytes and a rotation's 37
size_before : fields_size (take 1 (steps_in (run_of service run))) ≡ 37
unfolding fields_size field_size run_of begun start_width mapped walk follow ended read_at read_field judged judged_by unless decoded field_at is_whole body_length number float_at pauli_at fits hermitian coefficient ys width_after step_row rotation_step_row promotion_step_row projection_step_row rotation_kernel_row measurement_row hermitian_row width_row unit_row promoted_width_row pivot_row pivot_mask in_unit row first le neg of_bits digit overlap parity ones ones_in
size_before = refl

place_is : told.number.place ≡ 41
place_is =
    let k = told.number in
    let first = front_is k.run.steps k.at.before (told.step ∷ k.at.after) 1 k.at.steps k.at.number ∙ ap (λ (a : Answer Run). take 1 (steps_in a)) (sym k.is) in
    k.begins ∙ ap (λ (l : List (Step Float)). 4 + fields_size l) first ∙ ap (λ (n : ℕ). 4 + n) size_before

-- the Pauli carried so far: the run cut at 41 and ended there carries XX to it, and so it is XX
cut_carried : (carrying service (take 41 run ++ end_bytes) XX (replicate 44 0)).answer ≡ accepted XX
unfolding carrying carrying_row on_run placed_row end_pauli passed run_of begun start_width mapped walk follow ended read_at read_field judged judged_by unless decoded field_at is_whole body_length number float_at pauli_at fits hermitian coefficient ys width_after step_row rotation_step_row rotation_kernel_row hermitian_row width_row unit_row in_unit row first answered le neg of_bits digit overlap parity ones ones_in
cut_carried = refl

frame_is : told.frame ≡ XX
frame_is =
    let at = subst (λ (place : ℕ). SoFar service run XX place told.frame) place_is told.so_far in
    accepted_same (sym (at (replicate 44 0) (lit≤ tt)) ∙ cut_carried)

not_true : (t : Bool) → not t ≡ true → t ≡ false
not_true true e = absurd (let z : ◌≡◌ {A = ℕ} 0 1 = ap (λ (t : Bool). cond t 1 0) e in omega arith)
not_true false e = refl

-- its sign's byte in the carried run is another than the run's own
byte_of : (t : Step Float) (place : ℕ) (F : Pauli) → field_size t ≡ 37 → Reports service run XX place F t (flagged true 1)
    → (out : List ℕ) → length run ≤ length out → eqb (byte_at (carrying service run XX out).lent (place + 20)) (byte_at run (place + 20)) ≡ false
unfolding field_size
byte_of (rotation P sign c q) place F e w out room = by w.changed w.is (w.byte out room)
  where
    by : (t : Bool) → flagged true 1 ≡ flagged t w.mask → t ≡ not (eqb (byte_at (carrying service run XX out).lent (place + 20)) (byte_at run (place + 20)))
        → eqb (byte_at (carrying service run XX out).lent (place + 20)) (byte_at run (place + 20)) ≡ false
    by true s e = not_true _ (sym e)
    by false s e = absurd (let z : ◌≡◌ {A = ℕ} 0 1 = cc in omega arith)
byte_of (promotion c q) place F e w out room = absurd (omega (arith, e))
byte_of (projection M p v invnorm) place F e w out room = absurd (omega (arith, e))
byte_of (correction P) place F e w out room = absurd (omega (arith, e))
byte_of (quarter_turn P) place F e w out room = absurd (omega (arith, e))

-- what is read at its place is the step
read_is : read_at service run (record { at = 41; width = told.number.width }) ≡ step_read told.step told.number.behind
read_is = ap (λ (place : ℕ). read_at service run (record { at = place; width = told.number.width })) (sym place_is) ∙ told.number.read

-- and the cause: qubit 0 alone is one on which the two anticommute, and one is odd
record Cause (F : Pauli) : Type 0 where
  pauli : Pauli
  here : letters_anti (letter_at 0 F) (letter_at 0 pauli) ≡ 1
  nowhere_else : (q : ℕ) → letters_anti (letter_at (suc q) F) (letter_at (suc q) pauli) ≡ 0
  alone_here : anti (alone (letter_at 0 F)) (alone (letter_at 0 pauli)) ≡ 1
  whole : anti F pauli ≡ 1
  within : 1 < 2 ^ F.n
  odd : ones 1 % 2 ≡ 1

mask_zero : digit 0 1 ≡ 1
unfolding digit
mask_zero = refl

mask_above : (q : ℕ) → digit (suc q) 1 ≡ 0
mask_above q = digit_above 1 (suc q) 1 (lit< tt) (omega arith)

ones_one : ones 1 % 2 ≡ 1
unfolding ones
ones_one = refl

cause_of : (t : Step Float) (place : ℕ) (F : Pauli) → field_size t ≡ 37 → Reports service run XX place F t (flagged true 1) → Cause F
unfolding field_size
cause_of (rotation P sign c q) place F e w =
    let mask : 1 ≡ w.mask = let is = w.is in cc in
    let changed : true ≡ w.changed = let is = w.is in cc in
    let m = w.qubits in
    record {
      pauli = P;
      here = sym (m.letters 0) ∙ ap (digit 0) (sym mask) ∙ mask_zero;
      nowhere_else = λ q. sym (m.letters (suc q)) ∙ ap (digit (suc q)) (sym mask) ∙ mask_above q;
      alone_here = sym (m.qubit 0) ∙ ap (digit 0) (sym mask) ∙ mask_zero;
      whole = sym m.odd ∙ ap (λ (n : ℕ). ones n % 2) (sym mask) ∙ ones_one;
      within = omega (arith, mask, w.inside);
      odd = ap (λ (n : ℕ). ones n % 2) mask ∙ w.odd ∙ ap bit_of (sym changed);
    }
cause_of (promotion c q) place F e w = absurd (omega (arith, e))
cause_of (projection M p v invnorm) place F e w = absurd (omega (arith, e))
cause_of (correction P) place F e w = absurd (omega (arith, e))
cause_of (quarter_turn P) place F e w = absurd (omega (arith, e))

-- ---- the frames that are listed

-- the step that is found is told with its frame, and the last frame is the end Pauli
found_carried : (i : ℕ) (f : Framed Float) → finding service run XX i ≡ accepted f → Carried service run XX i f
found_carried i f e = step_reports_at_the_service.finds run XX i f e

last_carried : (F : Frames) → framing service run XX ≡ accepted F → (carrying service run XX run).answer ≡ accepted F.last
last_carried F e = step_reports_at_the_service.ends run XX F e run (le_refl (length run))
