-- Zero prints as zero: the two files of one closed run through every kind of step, byte for byte, and their one text, though the amplitudes that they leave in memory differ in
-- zeros' signs; and each claim, of any run.
use Rattle.std.specs.Prelude.{◌≡◌, refl, true, false, not, List, [], ◌∷◌, ◌++◌, ℕ, ◌+◌, ◌^◌, ◌≤◌, ◌<◌, T, pos, Float, length, replicate}
use Rattle.std.proofs.Common.{sym, ◌∙◌, subst, lit≤}
use Rattle.std.proofs.Math.Path.{ap}
use Rattle.std.specs.Int.Count.{ones, ones_in}
use Rattle.std.specs.Float.{nan, fin, binary64}
use Rattle.std.specs.Float.Ieee.{of_bits, to_bits, is_nan, neg, add, sub, mul, le}
use Rattle.answers.specs.Answer.{is_accepted}
use Rattle.answers.specs.Answer.Answer.{accepted}
use Rattle.answers.specs.Row.{row, first as firstRow, answered, left, accepted_same}
use Rattle.bitlaws.specs.Digit.{digit}
use Rattle.bitlaws.specs.Opening.{open_bit}
use Rattle.bitlaws.specs.Parity.{overlap, parity}
use Rattle.bitlaws.specs.Source.{source}
use Rattle.floatlaws.specs.Same.{is_zero}
use Rattle.paulilaws.specs.Pauli.{Pauli, fits, hermitian, coefficient, ys}
use Rattle.statelaws.specs.Over.{over}
use Rattle.amplitudelaws.specs.Arithmetic.{power, times, conjugate, times_power, direction, negated, scale, scaled, mixed}
use Rattle.amplitudelaws.specs.Binary.{in_unit}
use Rattle.amplitudelaws.specs.Rotation.{rotation_coefficient, rotated_alone, rotated_with, rotated_by, rotated}
use Rattle.amplitudelaws.specs.Promotion.{raised as raisedQubit, promoted}
use Rattle.amplitudelaws.specs.Projection.{minus, projection_coefficient, remaining_by, remaining, projected}
use Rattle.amplitudelaws.specs.Correction.{corrected}
use Rattle.amplitudelaws.specs.Rows.{rotation_kernel_row, measurement_row, hermitian_row, width_row, unit_row, promoted_width_row, pivot_row, pivot_mask, room_row}
use Rattle.amplitudelaws.specs.State.{point, written, room_for, room}
use Rattle.amplitudelaws.specs.Step.{width_after}
use Rattle.amplitudelaws.specs.Step.Step.{correction}
use Rattle.amplitudelaws.specs.Steps as leaves
use Rattle.framelaws.specs.Allowed.{FiniteSteps}
use Rattle.framelaws.specs.Caller.{service}
use Rattle.framelaws.specs.Memory.{stepped, ran}
use Rattle.framelaws.specs.Rows.{step_row, rotation_step_row, promotion_step_row, projection_step_row}
use Rattle.framelaws.specs.Survey.{mixed_amplitudes, surveyed, survey_from, survey}
use Rattle.lines.specs.Lines.{digits, decimal_up_to, decimal, bits_of, listed_bits, part, width_line, amplitude_line, refusal_line}
use Rattle.runlaws.specs.Bytes.{number, float_at, pauli_at}
use Rattle.runlaws.specs.Calls.{Ending, on_run, survey_of, memory_row, running, carrying}
use Rattle.runlaws.specs.Field.{body_length, is_whole, field_at}
use Rattle.runlaws.specs.Frame.{SameNumbers, FiniteRun, fired, sent}
use Rattle.runlaws.specs.NumberBytes.{bytes_of}
use Rattle.runlaws.specs.PauliBytes.{pauli_bytes, correction_field}
use Rattle.runlaws.specs.Reading.{decoded, unless, judged_by, judged, read_field, read_at}
use Rattle.runlaws.specs.Run.{Run, mapped, ended, follow, walk, start_width, begun, run_of}
use Rattle.runlaws.specs.WithCorrection.{behind_start, before_end}
use Rattle.listing.specs.Listing.{fresh, amplitude_lines, state_text, text_of, listed}
use Rattle.listing.specs.Matching.{two_listings}
use Rattle.listing.specs.TwoListings.{Accepted, OneText}
use Rattle.examples.specs.Instance.{Y, run, end, output, carries, sent_is, carried_list, reads, none, single, double}
use Rattle.examples.specs.Runs as bytes

-- ---- the two files

-- Y as a correction right after start
abbrev first : List ℕ
first =
    bytes.run_from 1
    (λ rest.
    bytes.correction 1 1 1
    (bytes.rotation 0 0 1 0
    (bytes.rotation 0 1 0 0
    (bytes.rotation 1 1 1 0
    (bytes.promotion
    (bytes.quarter_turn 0 2 1
    (bytes.projection 1 1 1 0 0
    (bytes.projection 0 0 1 0 1
    (bytes.promotion (bytes.correction 0 1 0 rest))))))))))

is_first : behind_start Y run ≡ first
unfolding behind_start correction_field pauli_bytes bytes_of
is_first = refl

-- the carried run, and the end Pauli as a correction right before end
abbrev last : List ℕ
last =
    bytes.run_from 1
    (λ rest.
    bytes.rotation 0 0 1 1
    (bytes.rotation 0 1 0 1
    (bytes.rotation 1 1 1 0
    (bytes.promotion
    (bytes.quarter_turn 0 2 1
    (bytes.projection 1 1 1 0 1
    (bytes.projection 0 0 1 0 0
    (bytes.promotion (bytes.correction 0 1 0 (bytes.correction 1 0 0 rest))))))))))

is_last : before_end end (sent service run Y output) ≡ last
unfolding before_end correction_field pauli_bytes bytes_of
is_last = ap (before_end end) sent_is

-- ---- the hypotheses

accepts : Accepted run output Y end
unfolding behind_start correction_field pauli_bytes bytes_of
accepts = record { carries = carries; fits = lit≤ tt }

finite_steps : FiniteSteps 1 carried_list fresh
unfolding fresh stepped width_after leaves.rotation leaves.promotion leaves.projection leaves.correction leaves.scratch_after leaves.scratch_by written point over rotated rotated_by rotated_alone rotated_with rotation_coefficient promoted raisedQubit projected remaining remaining_by projection_coefficient minus source corrected times_power power times conjugate direction negated scale scaled mixed open_bit overlap parity ones ones_in digit neg add sub mul of_bits
finite_steps = (single _ (tt, tt) (tt, tt), (single _ (tt, tt) (tt, tt), (single _ (tt, tt) (tt, tt), (single _ (tt, tt) (tt, tt), (double _ (tt, tt) (tt, tt) (tt, tt) (tt, tt), (double _ (tt, tt) (tt, tt) (tt, tt) (tt, tt), (single _ (tt, tt) (tt, tt), (none _ (tt, tt), (single _ (tt, tt) (tt, tt), single _ (tt, tt) (tt, tt))))))))))

finite_run : FiniteRun service (sent service run Y output) fresh
finite_run R e =
    subst (λ (r : Run). FiniteSteps r.width r.steps fresh) (accepted_same (sym reads ∙ subst (λ (l : List ℕ). run_of service l ≡ accepted R) sent_is e)) finite_steps

-- ---- what comes of them

one_text : OneText run output Y end
one_text = two_listings.accepts run output Y end accepts

same_text : listed first ≡ listed last
same_text = ap listed (sym is_first) ∙ one_text.same finite_run ∙ ap listed is_last

-- qubits 1
-- 0 bfe0000000000001 0000000000000000
-- 1 0000000000000000 0000000000000000
abbrev noughts : List ℕ
noughts = replicate 16 48

abbrev text : List ℕ
text =
    113 ∷ 117 ∷ 98 ∷ 105 ∷ 116 ∷ 115 ∷ 32 ∷ 49 ∷ 10
    ∷ 48 ∷ 32 ∷ 98 ∷ 102 ∷ 101 ∷ 48 ∷ 48 ∷ 48 ∷ 48 ∷ 48 ∷ 48 ∷ 48 ∷ 48 ∷ 48 ∷ 48 ∷ 48 ∷ 48 ∷ 49 ∷ 32 ∷ (noughts ++ 10
    ∷ 49 ∷ 32 ∷ (noughts ++ 32 ∷ (noughts ++ 10 ∷ [])))

first_listed : listed first ≡ text
unfolding listed text_of state_text amplitude_lines fresh width_line amplitude_line part listed_bits bits_of decimal decimal_up_to to_bits is_nan running on_run memory_row survey_of survey survey_from surveyed mixed_amplitudes room_for room room_row run_of begun start_width mapped walk follow ended read_at read_field judged judged_by unless decoded field_at is_whole body_length number float_at pauli_at fits hermitian coefficient ys width_after step_row rotation_step_row promotion_step_row projection_step_row rotation_kernel_row measurement_row hermitian_row width_row unit_row promoted_width_row pivot_row pivot_mask in_unit row firstRow answered left le neg of_bits digit overlap parity ones ones_in stepped leaves.rotation leaves.promotion leaves.projection leaves.correction leaves.scratch_after leaves.scratch_by written point over rotated rotated_by rotated_alone rotated_with rotation_coefficient promoted raisedQubit projected remaining remaining_by projection_coefficient minus source corrected times_power power times conjugate direction negated scale scaled mixed open_bit add sub mul ran
first_listed = refl

last_listed : listed last ≡ text
unfolding listed text_of state_text amplitude_lines fresh width_line amplitude_line part listed_bits bits_of decimal decimal_up_to to_bits is_nan running on_run memory_row survey_of survey survey_from surveyed mixed_amplitudes room_for room room_row run_of begun start_width mapped walk follow ended read_at read_field judged judged_by unless decoded field_at is_whole body_length number float_at pauli_at fits hermitian coefficient ys width_after step_row rotation_step_row promotion_step_row projection_step_row rotation_kernel_row measurement_row hermitian_row width_row unit_row promoted_width_row pivot_row pivot_mask in_unit row firstRow answered left le neg of_bits digit overlap parity ones ones_in stepped leaves.rotation leaves.promotion leaves.projection leaves.correction leaves.scratch_after leaves.scratch_by written point over rotated rotated_by rotated_alone rotated_with rotation_coefficient promoted raisedQubit projected remaining remaining_by projection_coefficient minus source corrected times_power power times conjugate direction negated scale scaled mixed open_bit add sub mul ran
last_listed = refl

-- In memory the imaginary part at basis 0 is +0 behind one file and -0 behind the other.
plus : (point (running service first fresh).lent.state 0).im ≡ fin false 0 (pos 0)
unfolding fresh running on_run memory_row survey_of survey survey_from surveyed mixed_amplitudes room_for room room_row run_of begun start_width mapped walk follow ended read_at read_field judged judged_by unless decoded field_at is_whole body_length number float_at pauli_at fits hermitian coefficient ys width_after step_row rotation_step_row promotion_step_row projection_step_row rotation_kernel_row measurement_row hermitian_row width_row unit_row promoted_width_row pivot_row pivot_mask in_unit row firstRow answered left le neg of_bits digit overlap parity ones ones_in stepped leaves.rotation leaves.promotion leaves.projection leaves.correction leaves.scratch_after leaves.scratch_by written point over rotated rotated_by rotated_alone rotated_with rotation_coefficient promoted raisedQubit projected remaining remaining_by projection_coefficient minus source corrected times_power power times conjugate direction negated scale scaled mixed open_bit add sub mul ran
plus = refl

minus_zero_lem : (point (running service last fresh).lent.state 0).im ≡ fin true 0 (pos 0)
unfolding fresh running on_run memory_row survey_of survey survey_from surveyed mixed_amplitudes room_for room room_row run_of begun start_width mapped walk follow ended read_at read_field judged judged_by unless decoded field_at is_whole body_length number float_at pauli_at fits hermitian coefficient ys width_after step_row rotation_step_row promotion_step_row projection_step_row rotation_kernel_row measurement_row hermitian_row width_row unit_row promoted_width_row pivot_row pivot_mask in_unit row firstRow answered left le neg of_bits digit overlap parity ones ones_in stepped leaves.rotation leaves.promotion leaves.projection leaves.correction leaves.scratch_after leaves.scratch_by written point over rotated rotated_by rotated_alone rotated_with rotation_coefficient promoted raisedQubit projected remaining remaining_by projection_coefficient minus source corrected times_power power times conjugate direction negated scale scaled mixed open_bit add sub mul ran
minus_zero_lem = refl

-- ---- of any run, output and Paulis: what E6 asks for

module _ (s out : List ℕ) (Q end : Pauli) (carries : (carrying service s Q out).answer ≡ accepted end) (fits : length (behind_start Q s) ≤ 65536) where
  abbrev of_any : OneText s out Q end
  of_any = two_listings.accepts s out Q end (record { carries = carries; fits = fits })

  equal_text : FiniteRun service (sent service s Q out) fresh → listed (behind_start Q s) ≡ listed (before_end end (sent service s Q out))
  equal_text = of_any.same

  both_accepted : (is_accepted (running service (behind_start Q s) fresh).answer ≡ true) × (is_accepted (running service (before_end end (sent service s Q out)) fresh).answer ≡ true)
  unfolding is_accepted
  both_accepted = (ap is_accepted of_any.here, ap is_accepted of_any.there)

  one_ending : (running service (behind_start Q s) fresh).answer ≡ (running service (before_end end (sent service s Q out)) fresh).answer
  one_ending = of_any.here ∙ sym of_any.there

  longer : (length (behind_start Q s) ≡ length s + 20) × (length (before_end end (sent service s Q out)) ≡ length s + 20)
  longer = (of_any.size, of_any.same_size)

  -- what they are read as
  read_first : (R : Run) → run_of service s ≡ accepted R → run_of service (behind_start Q s) ≡ accepted (record { width = R.width; steps = correction Q ∷ R.steps })
  read_first R e =
      of_any.first ∙ ap (λ (R : Run). accepted (record { width = R.width; steps = correction Q ∷ R.steps })) (accepted_same (sym of_any.reads ∙ e))

  read_last : (R : Run) → run_of service (sent service s Q out) ≡ accepted R
      → run_of service (before_end end (sent service s Q out)) ≡ accepted (record { width = R.width; steps = R.steps ++ correction end ∷ [] })
  read_last R e =
      of_any.last ∙ ap (λ (R : Run). accepted (record { width = R.width; steps = R.steps ++ correction end ∷ [] })) (accepted_same (sym of_any.rereads ∙ e))

  -- what is left in memory
  fired_first : (running service (behind_start Q s) fresh).lent ≡ (running service s (fired Q fresh)).lent
  fired_first = of_any.before

  fired_last : (running service (before_end end (sent service s Q out)) fresh).lent ≡ fired end (running service (sent service s Q out) fresh).lent
  fired_last = of_any.behind

-- the files that do not fit
both_too_long : (s out : List ℕ) (Q end : Pauli) → (carrying service s Q out).answer ≡ accepted end → 65536 < length (behind_start Q s)
    → (listed (behind_start Q s) ≡ refusal_line 14) × (listed (before_end end (sent service s Q out)) ≡ refusal_line 14)
both_too_long = two_listings.long

-- ---- text and numbers

zero_listed : (x : Float) → T (is_zero x) → part x ≡ 32 ∷ noughts
zero_listed = two_listings.zeros

nan_listed : part nan ≡ 32 ∷ 55 ∷ 102 ∷ 102 ∷ 56 ∷ replicate 12 48
nan_listed = two_listings.nans

other_listed : (x : Float) → T (not (is_zero x)) → T (not (is_nan x)) → part x ≡ 32 ∷ digits 16 16 (to_bits binary64 x)
other_listed = two_listings.others

module _ (s t : List ℕ) (E F : Ending) (e : (running service s fresh).answer ≡ accepted E) (f : (running service t fresh).answer ≡ accepted F) where
  abbrev SameState : Type 0
  SameState =
      (E.width ≡ F.width) × ((b : ℕ) → b < 2 ^ E.width → SameNumbers (point (running service s fresh).lent.state b) (point (running service t fresh).lent.state b))

  tells : listed s ≡ listed t → SameState
  tells = (two_listings.exactly s t E F e f).0

  shows : SameState → listed s ≡ listed t
  shows = (two_listings.exactly s t E F e f).1
