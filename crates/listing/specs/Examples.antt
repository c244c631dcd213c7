-- Listings of closed runs, byte for byte, by computation.
use Rattle.std.specs.Prelude.{◌≡◌, refl, List, [], ◌∷◌, ◌++◌, ℕ, replicate}
use Rattle.std.specs.Int.Count.{ones, ones_in}
use Rattle.std.specs.Float.Ieee.{of_bits, to_bits, is_nan, neg, add, sub, mul, le}
use Rattle.answers.specs.Row.{row, first, answered, left}
use Rattle.bitlaws.specs.Digit.{digit}
use Rattle.bitlaws.specs.Parity.{overlap, parity}
use Rattle.paulilaws.specs.Pauli.{fits, hermitian, coefficient, ys}
use Rattle.statelaws.specs.Over.{over}
use Rattle.amplitudelaws.specs.Arithmetic.{power, times, times_power, direction, negated, scaled}
use Rattle.amplitudelaws.specs.Binary.{in_unit}
use Rattle.amplitudelaws.specs.Rotation.{rotation_coefficient, rotated_alone, rotated_with, rotated_by, rotated}
use Rattle.amplitudelaws.specs.Correction.{corrected}
use Rattle.amplitudelaws.specs.Rows.{rotation_kernel_row, measurement_row, hermitian_row, width_row, unit_row, promoted_width_row, pivot_row, pivot_mask, room_row}
use Rattle.amplitudelaws.specs.State.{point, written, room_for, room}
use Rattle.amplitudelaws.specs.Step.{width_after}
use Rattle.amplitudelaws.specs.Steps as leaves
use Rattle.framelaws.specs.Memory.{stepped, ran}
use Rattle.framelaws.specs.Rows.{step_row, rotation_step_row, promotion_step_row, projection_step_row}
use Rattle.framelaws.specs.Survey.{mixed_amplitudes, surveyed, survey_from, survey}
use Rattle.runlaws.specs.Bytes.{number, float_at, pauli_at}
use Rattle.runlaws.specs.Calls.{on_run, survey_of, memory_row, running}
use Rattle.runlaws.specs.Field.{body_length, is_whole, field_at}
use Rattle.runlaws.specs.Reading.{decoded, unless, judged_by, judged, read_field, read_at}
use Rattle.runlaws.specs.Run.{mapped, ended, follow, walk, start_width, begun, run_of}
use Rattle.lines.specs.Lines.{decimal_up_to, decimal, bits_of, listed_bits, part, width_line, amplitude_line, refusal_line}
use Rattle.listing.specs.Listing.{fresh, amplitude_lines, state_text, text_of, listed}

-- the scope's example: one qubit, and a correction X
abbrev flip : List ℕ
flip = 1 ∷ 1 ∷ 0 ∷ 1 ∷ 5 ∷ 17 ∷ 0 ∷ 0 ∷ 1 ∷ (replicate 15 0 ++ 6 ∷ 0 ∷ 0 ∷ [])

-- qubits 1
-- 0 0000000000000000 0000000000000000
-- 1 3ff0000000000000 0000000000000000
abbrev flip_text : List ℕ
flip_text =
    113 ∷ 117 ∷ 98 ∷ 105 ∷ 116 ∷ 115 ∷ 32 ∷ 49 ∷ 10
    ∷ 48 ∷ 32 ∷ 48 ∷ 48 ∷ 48 ∷ 48 ∷ 48 ∷ 48 ∷ 48 ∷ 48 ∷ 48 ∷ 48 ∷ 48 ∷ 48 ∷ 48 ∷ 48 ∷ 48 ∷ 48 ∷ 32 ∷ 48 ∷ 48 ∷ 48 ∷ 48 ∷ 48 ∷ 48 ∷ 48 ∷ 48 ∷ 48 ∷ 48 ∷ 48 ∷ 48 ∷ 48 ∷ 48 ∷ 48 ∷ 48 ∷ 10
    ∷ 49 ∷ 32 ∷ 51 ∷ 102 ∷ 102 ∷ 48 ∷ 48 ∷ 48 ∷ 48 ∷ 48 ∷ 48 ∷ 48 ∷ 48 ∷ 48 ∷ 48 ∷ 48 ∷ 48 ∷ 48 ∷ 32 ∷ 48 ∷ 48 ∷ 48 ∷ 48 ∷ 48 ∷ 48 ∷ 48 ∷ 48 ∷ 48 ∷ 48 ∷ 48 ∷ 48 ∷ 48 ∷ 48 ∷ 48 ∷ 48 ∷ 10 ∷ []

flip_listed : listed flip ≡ flip_text
unfolding listed text_of state_text amplitude_lines fresh point width_line amplitude_line refusal_line part listed_bits bits_of decimal decimal_up_to running on_run memory_row survey_of survey survey_from surveyed mixed_amplitudes room_for room room_row run_of begun start_width mapped walk follow ended read_at read_field judged judged_by unless decoded field_at is_whole body_length number float_at pauli_at fits hermitian coefficient ys width_after step_row rotation_step_row promotion_step_row projection_step_row rotation_kernel_row measurement_row hermitian_row width_row unit_row promoted_width_row pivot_row pivot_mask in_unit row first answered left le neg of_bits digit overlap parity ones ones_in ran stepped written over leaves.correction corrected times_power to_bits is_nan
flip_listed = refl

-- two qubits, a rotation by XX with c and s both 1/sqrt 2, and a correction Z on qubit 0
abbrev h : List ℕ
h = 205 ∷ 59 ∷ 127 ∷ 102 ∷ 158 ∷ 160 ∷ 230 ∷ 63 ∷ []

abbrev bell : List ℕ
bell =
    1 ∷ 1 ∷ 0 ∷ 2
    ∷ 2 ∷ 34 ∷ 0 ∷ 0 ∷ 3 ∷ (replicate 16 0 ++ (h ++ (h
    ++ 5 ∷ 17 ∷ 0 ∷ (replicate 9 0
    ++ 1 ∷ (replicate 7 0
    ++ 6 ∷ 0 ∷ 0 ∷ [])))))

-- qubits 2
-- 0 3fe6a09e667f3bcd 0000000000000000
-- 1 0000000000000000 0000000000000000
-- 2 0000000000000000 0000000000000000
-- 3 0000000000000000 3fe6a09e667f3bcd
abbrev bell_text : List ℕ
bell_text =
    113 ∷ 117 ∷ 98 ∷ 105 ∷ 116 ∷ 115 ∷ 32 ∷ 50 ∷ 10
    ∷ 48 ∷ 32 ∷ 51 ∷ 102 ∷ 101 ∷ 54 ∷ 97 ∷ 48 ∷ 57 ∷ 101 ∷ 54 ∷ 54 ∷ 55 ∷ 102 ∷ 51 ∷ 98 ∷ 99 ∷ 100 ∷ 32 ∷ 48 ∷ 48 ∷ 48 ∷ 48 ∷ 48 ∷ 48 ∷ 48 ∷ 48 ∷ 48 ∷ 48 ∷ 48 ∷ 48 ∷ 48 ∷ 48 ∷ 48 ∷ 48 ∷ 10
    ∷ 49 ∷ 32 ∷ 48 ∷ 48 ∷ 48 ∷ 48 ∷ 48 ∷ 48 ∷ 48 ∷ 48 ∷ 48 ∷ 48 ∷ 48 ∷ 48 ∷ 48 ∷ 48 ∷ 48 ∷ 48 ∷ 32 ∷ 48 ∷ 48 ∷ 48 ∷ 48 ∷ 48 ∷ 48 ∷ 48 ∷ 48 ∷ 48 ∷ 48 ∷ 48 ∷ 48 ∷ 48 ∷ 48 ∷ 48 ∷ 48 ∷ 10
    ∷ 50 ∷ 32 ∷ 48 ∷ 48 ∷ 48 ∷ 48 ∷ 48 ∷ 48 ∷ 48 ∷ 48 ∷ 48 ∷ 48 ∷ 48 ∷ 48 ∷ 48 ∷ 48 ∷ 48 ∷ 48 ∷ 32 ∷ 48 ∷ 48 ∷ 48 ∷ 48 ∷ 48 ∷ 48 ∷ 48 ∷ 48 ∷ 48 ∷ 48 ∷ 48 ∷ 48 ∷ 48 ∷ 48 ∷ 48 ∷ 48 ∷ 10
    ∷ 51 ∷ 32 ∷ 48 ∷ 48 ∷ 48 ∷ 48 ∷ 48 ∷ 48 ∷ 48 ∷ 48 ∷ 48 ∷ 48 ∷ 48 ∷ 48 ∷ 48 ∷ 48 ∷ 48 ∷ 48 ∷ 32 ∷ 51 ∷ 102 ∷ 101 ∷ 54 ∷ 97 ∷ 48 ∷ 57 ∷ 101 ∷ 54 ∷ 54 ∷ 55 ∷ 102 ∷ 51 ∷ 98 ∷ 99 ∷ 100 ∷ 10 ∷ []

bell_listed : listed bell ≡ bell_text
unfolding listed text_of state_text amplitude_lines fresh point width_line amplitude_line refusal_line part listed_bits bits_of decimal decimal_up_to running on_run memory_row survey_of survey survey_from surveyed mixed_amplitudes room_for room room_row run_of begun start_width mapped walk follow ended read_at read_field judged judged_by unless decoded field_at is_whole body_length number float_at pauli_at fits hermitian coefficient ys width_after step_row rotation_step_row promotion_step_row projection_step_row rotation_kernel_row measurement_row hermitian_row width_row unit_row promoted_width_row pivot_row pivot_mask in_unit row first answered left le neg of_bits digit overlap parity ones ones_in ran stepped written over leaves.rotation leaves.correction corrected rotated rotated_by rotated_alone rotated_with rotation_coefficient power times times_power direction negated scaled add sub mul to_bits is_nan
bell_listed = refl

-- Z right behind the start, and sign 1: carrying Z through the rotation leaves the run above, and the same text
abbrev bell_before : List ℕ
bell_before =
    1 ∷ 1 ∷ 0 ∷ 2
    ∷ 5 ∷ 17 ∷ 0 ∷ (replicate 9 0
    ++ 1 ∷ (replicate 7 0
    ++ 2 ∷ 34 ∷ 0 ∷ 0 ∷ 3 ∷ (replicate 15 0 ++ 1 ∷ (h ++ (h
    ++ 6 ∷ 0 ∷ 0 ∷ [])))))

bell_before_listed : listed bell_before ≡ bell_text
unfolding listed text_of state_text amplitude_lines fresh point width_line amplitude_line refusal_line part listed_bits bits_of decimal decimal_up_to running on_run memory_row survey_of survey survey_from surveyed mixed_amplitudes room_for room room_row run_of begun start_width mapped walk follow ended read_at read_field judged judged_by unless decoded field_at is_whole body_length number float_at pauli_at fits hermitian coefficient ys width_after step_row rotation_step_row promotion_step_row projection_step_row rotation_kernel_row measurement_row hermitian_row width_row unit_row promoted_width_row pivot_row pivot_mask in_unit row first answered left le neg of_bits digit overlap parity ones ones_in ran stepped written over leaves.rotation leaves.correction corrected rotated rotated_by rotated_alone rotated_with rotation_coefficient power times times_power direction negated scaled add sub mul to_bits is_nan
bell_before_listed = refl

-- a quarter turn of XX in the rotation's place
abbrev bell_turned : List ℕ
bell_turned =
    1 ∷ 1 ∷ 0 ∷ 2
    ∷ 7 ∷ 17 ∷ 0 ∷ 0 ∷ 3 ∷ (replicate 15 0
    ++ 5 ∷ 17 ∷ 0 ∷ (replicate 9 0
    ++ 1 ∷ (replicate 7 0
    ++ 6 ∷ 0 ∷ 0 ∷ [])))

bell_turned_listed : listed bell_turned ≡ bell_text
unfolding listed text_of state_text amplitude_lines fresh point width_line amplitude_line refusal_line part listed_bits bits_of decimal decimal_up_to running on_run memory_row survey_of survey survey_from surveyed mixed_amplitudes room_for room room_row run_of begun start_width mapped walk follow ended read_at read_field judged judged_by unless decoded field_at is_whole body_length number float_at pauli_at fits hermitian coefficient ys width_after step_row rotation_step_row promotion_step_row projection_step_row rotation_kernel_row measurement_row hermitian_row width_row unit_row promoted_width_row pivot_row pivot_mask in_unit row first answered left le neg of_bits digit overlap parity ones ones_in ran stepped written over leaves.rotation leaves.correction corrected rotated rotated_by rotated_alone rotated_with rotation_coefficient power times times_power direction negated scaled add sub mul to_bits is_nan
bell_turned_listed = refl

-- no bytes: refused 14
empty_listed : listed [] ≡ 114 ∷ 101 ∷ 102 ∷ 117 ∷ 115 ∷ 101 ∷ 100 ∷ 32 ∷ 49 ∷ 52 ∷ 10 ∷ []
unfolding listed text_of running on_run run_of begun start_width field_at is_whole body_length number refusal_line decimal decimal_up_to
empty_listed = refl
