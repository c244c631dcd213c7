-- Frame logs by example, each worked by hand: a byte of every kind damaged, the rows in their order, both callers. And closed instances of every claim of the theorem on them.
use Rattle.std.specs.Prelude.{◌≡◌, true, false, List, [], ◌∷◌, ◌++◌, ℕ, ◌+◌, ◌≤◌, ◌<◌, Float, length, take, drop, replicate}
use Rattle.std.proofs.Math.Path.{refl}
use Rattle.std.proofs.Common.{sym, ap, ◌∙◌, true≢false, le_refl, arith, lit≤, lit<}
use Rattle.std.specs.Int.Count.{ones, ones_in}
use Rattle.std.specs.Float.Ieee.{of_bits, neg, le}
use Rattle.answers.specs.Answer.{is_accepted}
use Rattle.answers.specs.Answer.Answer.{accepted, refused, refused_at}
use Rattle.answers.specs.Row.{row, first, answered, left, accepted_same}
use Rattle.bitlaws.specs.Digit.{digit}
use Rattle.bitlaws.specs.Opening.{drop_bit}
use Rattle.bitlaws.specs.Parity.{overlap, parity}
use Rattle.paulilaws.specs.Pauli.{Pauli, product, anti, fits, hermitian, coefficient, ys}
use Rattle.paulilaws.specs.Frame.{raised, dropped}
use Rattle.amplitudelaws.specs.Binary.{in_unit}
use Rattle.amplitudelaws.specs.Rows.{rotation_kernel_row, measurement_row, hermitian_row, width_row, unit_row, promoted_width_row, pivot_row, pivot_mask}
use Rattle.amplitudelaws.specs.Step.{Step, width_after, last_width}
use Rattle.amplitudelaws.specs.Step.Step.{rotation, promotion, projection, correction, quarter_turn}
use Rattle.framelaws.specs.Caller.{service, emulator}
use Rattle.framelaws.specs.Carrying.{flipped, deciding, meets, absorbed, widened, turned_by, turned_past, carried_step, passed, carried_steps, end_pauli}
use Rattle.framelaws.specs.PassRow.{placed_row}
use Rattle.framelaws.specs.Rows.{step_row, rotation_step_row, promotion_step_row, projection_step_row}
use Rattle.runlaws.specs.Bytes.{byte_at, number, float_at, pauli_at}
use Rattle.runlaws.specs.Calls.{Outcome, carrying_row, carrying, on_run, of_run, logging, judging_row, judging}
use Rattle.runlaws.proofs.CarriedFields.{step_of}
use Rattle.runlaws.specs.Field.{body_length, is_whole, field_at}
use Rattle.runlaws.specs.Flags.{field_size, fields_size}
use Rattle.runlaws.specs.FrameLog.{flag_of, flags_of, frame_log, is_same}
use Rattle.runlaws.specs.FrameLogs.{flag_count, Agrees, Asked, FrameLogs}
use Rattle.runlaws.proofs.Judging.{frame_logs_at_the_service, frame_logs_at_the_emulator}
use Rattle.runlaws.specs.NumberBytes.{bytes_of}
use Rattle.runlaws.specs.PauliBytes.{pauli_bytes}
use Rattle.runlaws.specs.Reading.{decoded, unless, judged_by, judged, read_field, read_at}
use Rattle.runlaws.specs.Run.{Run, mapped, ended, follow, walk, start_width, begun, run_of}
use Rattle.examples.specs.Runs as bytes
use Rattle.examples.specs.Runs.{run_from, zero, one}

-- ---- by hand

-- on two qubits: i^k X^x Z^z
abbrev two : ℕ → ℕ → ℕ → Pauli
two k x z = record { n = 2; k = k; x = x; z = z }

abbrev XX : Pauli
XX = two 0 3 0

-- XX is carried. A rotation by ZZ, of sign 0, is kept, and one by Z on qubit 0, of sign 1, is changed; a qubit is promoted; behind a correction Z on qubit 0 the frame is -XXI and behind a
-- quarter turn of the same Pauli -YXI. A projection of Y on qubit 1, its branch 0, is changed and, X being there, multiplies the frame, which is X times Z, negated, on qubit 0 of the two that are
-- left; so a rotation by Z on qubit 0, of sign 1, is changed. Another qubit is promoted, and a quarter turn of ZXI makes the frame -iXXI.
abbrev run : List ℕ
run =
    run_from 2
    (λ rest.
    bytes.rotation 0 0 3 0 (bytes.rotation 0 0 1 1 (bytes.promotion (bytes.correction 0 0 1 (bytes.quarter_turn 0 0 1 (bytes.projection 1 2 2 1 0 (bytes.rotation 0 0 1 1 (bytes.promotion (bytes.quarter_turn 0 2 1 rest)))))))))

-- a Pauli's bytes, its masks being below 256
abbrev seventeen : ℕ → ℕ → ℕ → List ℕ
seventeen k x z = k ∷ x ∷ (replicate 7 0 ++ z ∷ replicate 7 0)

abbrev log : List ℕ
log = 0 ∷ 0 ∷ 1 ∷ 0 ∷ seventeen 3 3 0

abbrev empty : ℕ → List ℕ
empty n = run_from n (λ rest. rest)

record ByHand : Type 0 where
  right : judging service run XX log ≡ accepted true
  by_the_emulator : judging emulator run XX log ≡ accepted true
  -- the run's own flags, one flag, one over 1
  own_flags : judging service run XX (0 ∷ 1 ∷ 0 ∷ 1 ∷ seventeen 3 3 0) ≡ accepted false
  one_flag : judging service run XX (0 ∷ 0 ∷ 0 ∷ 0 ∷ seventeen 3 3 0) ≡ accepted false
  two_for_nought : judging service run XX (2 ∷ 0 ∷ 1 ∷ 0 ∷ seventeen 3 3 0) ≡ accepted false
  -- another phase, the same modulo 4, masks exchanged or with a bit past the last width, the last byte
  phase : judging service run XX (0 ∷ 0 ∷ 1 ∷ 0 ∷ seventeen 1 3 0) ≡ accepted false
  phase_over : judging service run XX (0 ∷ 0 ∷ 1 ∷ 0 ∷ seventeen 7 3 0) ≡ accepted false
  exchanged : judging service run XX (0 ∷ 0 ∷ 1 ∷ 0 ∷ seventeen 3 0 3) ≡ accepted false
  x_past : judging service run XX (0 ∷ 0 ∷ 1 ∷ 0 ∷ seventeen 3 11 0) ≡ accepted false
  z_past : judging service run XX (0 ∷ 0 ∷ 1 ∷ 0 ∷ seventeen 3 3 8) ≡ accepted false
  last_byte : judging service run XX (0 ∷ 0 ∷ 1 ∷ 0 ∷ 3 ∷ 3 ∷ (replicate 14 0 ++ 1 ∷ [])) ≡ accepted false
  -- the Pauli before the flags; another Pauli's log
  turned_about : judging service run XX (seventeen 3 3 0 ++ 0 ∷ 0 ∷ 1 ∷ 0 ∷ []) ≡ accepted false
  another : judging service run (two 0 0 0) log ≡ accepted false
  -- a byte short, a byte long, a byte for each step, none
  one_short : judging service run XX (take 20 log) ≡ refused 24
  one_long : judging service run XX (log ++ 0 ∷ []) ≡ refused 24
  for_each_step : judging service run XX (replicate 26 0) ≡ refused 24
  noughts : judging service run XX (replicate 21 0) ≡ accepted false
  nothing : judging service run XX [] ≡ refused 24
  -- a run of no steps: the Pauli's bytes alone, at any width
  of_none : judging service (empty 2) (two 3 2 1) (seventeen 3 2 1) ≡ accepted true
  on_none : judging service (empty 0) (record { n = 0; k = 1; x = 0; z = 0 }) (seventeen 1 0 0) ≡ accepted true
  -- no byte: a promotion, a correction, a quarter turn
  no_flags : judging service (run_from 1 (λ rest. bytes.promotion (bytes.correction 0 0 1 (bytes.quarter_turn 0 0 1 rest)))) (record { n = 1; k = 0; x = 1; z = 0 }) (seventeen 3 1 1) ≡ accepted true
  -- the rows: the run's own before 3, 3 before 4, 4 before 24, by the start width
  run_before_three : judging service [] (two 4 0 0) [] ≡ refused_at 14 0
  over_six : judging emulator (empty 7) XX [] ≡ refused_at 21 0
  three_before_four : judging service run (record { n = 3; k = 4; x = 0; z = 0 }) [] ≡ refused 3
  four_before_24 : judging service run (record { n = 3; k = 0; x = 0; z = 0 }) [] ≡ refused 4

by_hand : ByHand
unfolding judging judging_row is_same frame_log flags_of flag_of carried_steps carried_step end_pauli pauli_bytes bytes_of of_run on_run placed_row run_of begun start_width mapped walk follow ended read_at read_field judged judged_by unless decoded field_at is_whole body_length number float_at pauli_at fits hermitian coefficient ys passed flipped anti product deciding meets absorbed widened turned_by turned_past raised dropped drop_bit width_after step_row rotation_step_row promotion_step_row projection_step_row rotation_kernel_row measurement_row hermitian_row width_row unit_row promoted_width_row pivot_row pivot_mask in_unit row first answered le neg of_bits digit overlap parity ones ones_in
by_hand = record {
  right = refl;
  by_the_emulator = refl;
  own_flags = refl;
  one_flag = refl;
  two_for_nought = refl;
  phase = refl;
  phase_over = refl;
  exchanged = refl;
  x_past = refl;
  z_past = refl;
  last_byte = refl;
  turned_about = refl;
  another = refl;
  one_short = refl;
  one_long = refl;
  for_each_step = refl;
  noughts = refl;
  nothing = refl;
  of_none = refl;
  on_none = refl;
  no_flags = refl;
  run_before_three = refl;
  over_six = refl;
  three_before_four = refl;
  four_before_24 = refl;
}

-- ---- the log that is written, the byte behind it as it was; and refused, the output as it was

abbrev output : ℕ → List ℕ
output n = replicate n 238

record Written : Type 0 where
  whole : logging service run XX (output 22) ≡ record { answer = accepted 21; lent = log ++ 238 ∷ [] }
  exact : logging emulator run XX (output 21) ≡ record { answer = accepted 21; lent = log }
  short : logging service run XX (output 20) ≡ record { answer = refused 16; lent = output 20 }
  four : logging service run (record { n = 3; k = 0; x = 0; z = 0 }) (output 20) ≡ record { answer = refused 4; lent = output 20 }
  three : logging service run (two 4 0 0) (output 22) ≡ record { answer = refused 3; lent = output 22 }
  over_six : logging emulator (empty 7) XX (output 22) ≡ record { answer = refused_at 21 0; lent = output 22 }

by_call : Written
unfolding logging left carrying_row frame_log flags_of flag_of carried_steps carried_step end_pauli pauli_bytes bytes_of on_run placed_row run_of begun start_width mapped walk follow ended read_at read_field judged judged_by unless decoded field_at is_whole body_length number float_at pauli_at fits hermitian coefficient ys passed flipped anti product deciding meets absorbed widened turned_by turned_past raised dropped drop_bit width_after step_row rotation_step_row promotion_step_row projection_step_row rotation_kernel_row measurement_row hermitian_row width_row unit_row promoted_width_row pivot_row pivot_mask in_unit row first answered le neg of_bits digit overlap parity ones ones_in
by_call = record { whole = refl; exact = refl; short = refl; four = refl; three = refl; over_six = refl }

-- ---- the theorem on this run

abbrev three : ℕ → ℕ → ℕ → Pauli
three k x z = record { n = 3; k = k; x = x; z = z }

abbrev front : List (Step Float)
front = rotation (two 0 0 3) 0 zero one ∷ rotation (two 0 0 1) 1 zero one ∷ promotion zero one ∷ correction (three 0 0 1) ∷ quarter_turn (three 0 0 1) ∷ []

abbrev measured : Step Float
measured = projection (three 1 2 2) 1 0 one

abbrev back : List (Step Float)
back = rotation (two 0 0 1) 1 zero one ∷ promotion zero one ∷ quarter_turn (three 0 2 1) ∷ []

abbrev R : Run
R = record { width = 2; steps = front ++ measured ∷ back }

read : run_of service run ≡ accepted R
unfolding run_of begun start_width mapped walk follow ended read_at read_field judged judged_by unless decoded field_at is_whole body_length number float_at pauli_at fits hermitian coefficient ys width_after step_row rotation_step_row promotion_step_row projection_step_row rotation_kernel_row measurement_row hermitian_row width_row unit_row promoted_width_row pivot_row pivot_mask in_unit row first le neg of_bits digit overlap parity ones ones_in
read = refl

none_read : run_of service [] ≡ refused_at 14 0
unfolding run_of begun start_width field_at is_whole body_length
none_read = refl

fitting : fits XX ≡ true
unfolding fits
fitting = refl

unfit : fits (two 4 0 0) ≡ false
unfolding fits
unfit = refl

one_fits : fits (record { n = 1; k = 0; x = 0; z = 0 }) ≡ true
unfolding fits
one_fits = refl

no_pauli : fits (pauli_at (last_width 2 R.steps) (drop 4 (0 ∷ 0 ∷ 1 ∷ 0 ∷ seventeen 7 3 0))) ≡ false
unfolding fits pauli_at number last_width width_after
no_pauli = refl

abbrev asked : Asked service run R XX
asked = record { read = read; pauli = fitting; width = refl }

record Instance : Type 0 where
  -- yes, in both directions, and byte for byte
  agreed : Agrees service run XX log
  yes : judging service run XX log ≡ accepted true
  no : judging service run XX (replicate 21 0) ≡ accepted false
  is : log ≡ frame_log XX R.steps
  again : judging service run XX (frame_log XX R.steps) ≡ accepted true
  by_the_emulator : Agrees emulator run XX log
  -- the rows, of any log, whatever its length
  fourteen : (log : List ℕ) → judging service [] XX log ≡ refused_at 14 0
  three_first : (log : List ℕ) → judging service run (two 4 0 0) log ≡ refused 3
  four_next : (log : List ℕ) → judging service run (record { n = 1; k = 0; x = 0; z = 0 }) log ≡ refused 4
  twenty_four : (log : List ℕ) → (length log ≡ 21 → ⊥) → judging service run XX log ≡ refused 24
  -- never refused at the right length, whatever its bytes
  each : (log : List ℕ) → length log ≡ 21 → is_accepted (judging service run XX log) ≡ true
  over_one : (log : List ℕ) → length log ≡ 21 → (i : ℕ) → i < 4 → 1 < byte_at log i → judging service run XX log ≡ accepted false
  unfitting : judging service run XX (0 ∷ 0 ∷ 1 ∷ 0 ∷ seventeen 7 3 0) ≡ accepted false
  -- the log that is written
  written : judging service run XX (take 21 (logging service run XX (output 22)).lent) ≡ accepted true
  past : drop 21 (logging service run XX (output 22)).lent ≡ drop 21 (output 22)
  room : (logging service run XX (output 21)).answer ≡ accepted 21
  short : (logging service run XX (output 20)).answer ≡ refused 16
  log_fourteen : (out : List ℕ) → (logging service [] XX out).answer ≡ refused_at 14 0
  log_three : (out : List ℕ) → (logging service run (two 4 0 0) out).answer ≡ refused 3
  log_four : (out : List ℕ) → (logging service run (record { n = 1; k = 0; x = 0; z = 0 }) out).answer ≡ refused 4
  kept : (logging service run XX (output 20)).lent ≡ output 20
  longest : flag_count R.steps + 17 ≤ 2201

instance : Instance
unfolding is_accepted
instance =
    let at-the-service : FrameLogs service = frame_logs_at_the_service in
    record {
      agreed = at-the-service.yes run XX log by_hand.right;
      yes = at-the-service.whenever run XX log (at-the-service.yes run XX log by_hand.right);
      no = at-the-service.no run R XX (replicate 21 0) asked refl (λ A. true≢false (accepted_same (sym (at-the-service.whenever run XX (replicate 21 0) A) ∙ by_hand.noughts)));
      is = (at-the-service.bytes run R XX log asked).0 by_hand.right;
      again = (at-the-service.bytes run R XX (frame_log XX R.steps) asked).1 refl;
      by_the_emulator = frame_logs_at_the_emulator.yes run XX log by_hand.by_the_emulator;
      fourteen = λ log. at-the-service.run_first [] XX log 14 0 none_read;
      three_first = λ log. at-the-service.three run R (two 4 0 0) log read unfit;
      four_next = λ log. at-the-service.four run R (record { n = 1; k = 0; x = 0; z = 0 }) log read one_fits (λ e. omega arith);
      twenty_four = λ log other. at-the-service.twenty_four run R XX log asked other;
      each = λ log long. ap is_accepted (at-the-service.each run R XX log asked long).is;
      over_one = λ log long i below over. at-the-service.over_one run R XX log asked long i below over;
      unfitting = at-the-service.no_pauli run R XX (0 ∷ 0 ∷ 1 ∷ 0 ∷ seventeen 7 3 0) asked refl no_pauli;
      written = at-the-service.written run XX (output 22) 21 (ap (λ (o : Outcome ℕ (List ℕ)). o.answer) by_call.whole);
      past = at-the-service.past run XX (output 22) 21 (ap (λ (o : Outcome ℕ (List ℕ)). o.answer) by_call.whole);
      room = at-the-service.room run R XX (output 21) asked (lit≤ tt);
      short = at-the-service.short run R XX (output 20) asked (lit< tt);
      log_fourteen = λ out. at-the-service.log_run_first [] XX out 14 0 none_read;
      log_three = λ out. at-the-service.log_three run R (two 4 0 0) out read unfit;
      log_four = λ out. at-the-service.log_four run R (record { n = 1; k = 0; x = 0; z = 0 }) out read one_fits (λ e. omega arith);
      kept = at-the-service.kept run XX (output 20) (ap (λ (o : Outcome ℕ (List ℕ)). is_accepted o.answer) by_call.short);
      longest = at-the-service.longest run R read;
    }

-- ---- what the theorem says of any log that is judged a yes, field by field

carried_end : (carrying service run XX run).answer ≡ accepted (three 3 3 0)
unfolding carrying carrying_row on_run placed_row answered end_pauli passed flipped anti product deciding meets absorbed widened turned_by turned_past raised dropped drop_bit run_of begun start_width mapped walk follow ended read_at read_field judged judged_by unless decoded field_at is_whole body_length number float_at pauli_at fits hermitian coefficient ys width_after step_row rotation_step_row promotion_step_row projection_step_row rotation_kernel_row measurement_row hermitian_row width_row unit_row promoted_width_row pivot_row pivot_mask in_unit row first le neg of_bits digit overlap parity ones ones_in
carried_end = refl

module _ (log : List ℕ) (judged : judging service run XX log ≡ accepted true) where
  abbrev A : Agrees service run XX log
  A = frame_logs_at_the_service.yes run XX log judged

  count_is : flag_count A.run.steps ≡ 4
  count_is = ap (λ (r : Run). flag_count r.steps) (accepted_same (sym A.is ∙ read))

  -- the bytes, and their number
  size_is : length log ≡ 21
  size_is = A.size ∙ ap (λ (n : ℕ). n + 17) count_is

  -- the second is the sign of step 1, whose field begins behind one of 37 bytes, and the third the branch of step 5, as carrying leaves them
  second_is : byte_at log 1 ≡ byte_at (carrying service run XX run).lent 61
  unfolding fields_size field_size
  second_is =
      let step = step_of service run R (take 1 front) (rotation (two 0 0 1) 1 zero one) (drop 2 R.steps) read refl 1 refl in
      A.flags 1 _ step 61 refl run (le_refl (length run))

  third_is : byte_at log 2 ≡ byte_at (carrying service run XX run).lent 158
  unfolding fields_size field_size
  third_is =
      let step = step_of service run R front measured back read refl 5 refl in
      A.flags 5 _ step 158 refl run (le_refl (length run))

  -- the last seventeen are those of the Pauli that carrying ends in
  tail_is : drop 4 log ≡ pauli_bytes (three 3 3 0)
  tail_is =
      ap (λ (n : ℕ). drop n log) (sym count_is) ∙ A.tail ∙ ap pauli_bytes (accepted_same (sym (A.ends run (le_refl (length run))) ∙ carried_end))
