-- What the program `report` prints of README's run, byte for byte, by computation.
use Rattle.std.specs.Prelude.{◌≡◌, refl, List, [], ◌∷◌, ℕ}
use Rattle.std.specs.Int.Count.{ones, ones_in}
use Rattle.std.specs.Float.Ieee.{of_bits, neg, le}
use Rattle.answers.specs.Row.{row, first, answered}
use Rattle.bitlaws.specs.Digit.{digit}
use Rattle.bitlaws.specs.Opening.{drop_bit}
use Rattle.bitlaws.specs.Parity.{overlap, parity}
use Rattle.paulilaws.specs.AntiMask.{anti_mask}
use Rattle.paulilaws.specs.Pauli.{product, anti, fits, hermitian, coefficient, ys}
use Rattle.paulilaws.specs.Frame.{raised, dropped}
use Rattle.amplitudelaws.specs.Binary.{in_unit}
use Rattle.amplitudelaws.specs.Rows.{rotation_kernel_row, measurement_row, hermitian_row, width_row, unit_row, promoted_width_row, pivot_row, pivot_mask}
use Rattle.amplitudelaws.specs.Step.{width_after}
use Rattle.framelaws.specs.Carrying.{flipped, deciding, meets, absorbed, widened, turned_by, turned_past, passed}
use Rattle.framelaws.specs.PassRow.{placed_row}
use Rattle.framelaws.specs.Reporting.{framed_steps, pair_report, step_report}
use Rattle.framelaws.specs.Rows.{step_row, rotation_step_row, promotion_step_row, projection_step_row}
use Rattle.runlaws.specs.Bytes.{number, float_at, pauli_at}
use Rattle.runlaws.specs.Calls.{on_run, of_run, framing, found, finding}
use Rattle.runlaws.specs.Field.{body_length, is_whole, field_at}
use Rattle.runlaws.specs.Reading.{decoded, unless, judged_by, judged, read_field, read_at}
use Rattle.runlaws.specs.Run.{mapped, chained, ended, follow, walk, start_width, begun, run_of}
use Rattle.answers.specs.Answer.{refuse}
use Rattle.bitlaws.specs.Digit.{put}
use Rattle.paulilaws.specs.Letter.{letter_at, with_letter}
use Rattle.paulitext.specs.Calls.{read_call}
use Rattle.paulitext.specs.Text.{letter_of_byte, reading, prefix, letters_from, body, shown}
use Rattle.lines.specs.Lines.{decimal_up_to, decimal}
use Rattle.framelaws.specs.Carrying.{end_pauli}
use Rattle.reports.specs.Input.{before, after, has, is_digit, grown, number_from}
use Rattle.reports.specs.Input.{number as input_number}
use Rattle.reports.specs.Listing.{step_lines, frames_text, answer_text, step_listed, steps_listed, asked, report_listed}
use Rattle.reports.specs.Text.{qubit_text, qubits_from, qubits_text, flag_text, kind_text, step_text, frame_text, step_line, end_line}

-- behind the first line's letters
abbrev run : List ℕ
run =
    10 ∷ 1 ∷ 1 ∷ 0 ∷ 2 ∷ 2 ∷ 34 ∷ 0 ∷ 0 ∷ 0 ∷ 0 ∷ 0 ∷ 0 ∷ 0 ∷ 0 ∷ 0 ∷ 0 ∷ 3 ∷ 0 ∷ 0 ∷ 0 ∷ 0
    ∷ 0 ∷ 0 ∷ 0 ∷ 0 ∷ 51 ∷ 51 ∷ 51 ∷ 51 ∷ 51 ∷ 51 ∷ 227 ∷ 63 ∷ 154 ∷ 153 ∷ 153 ∷ 153 ∷ 153 ∷ 153 ∷ 233 ∷ 63 ∷ 7 ∷ 17 ∷ 0 ∷ 0
    ∷ 0 ∷ 0 ∷ 0 ∷ 0 ∷ 0 ∷ 0 ∷ 0 ∷ 0 ∷ 1 ∷ 0 ∷ 0 ∷ 0 ∷ 0 ∷ 0 ∷ 0 ∷ 0 ∷ 2 ∷ 34 ∷ 0 ∷ 0 ∷ 1 ∷ 0 ∷ 0 ∷ 0
    ∷ 0 ∷ 0 ∷ 0 ∷ 0 ∷ 0 ∷ 0 ∷ 0 ∷ 0 ∷ 0 ∷ 0 ∷ 0 ∷ 0 ∷ 1 ∷ 51 ∷ 51 ∷ 51 ∷ 51 ∷ 51 ∷ 51 ∷ 227 ∷ 63 ∷ 154 ∷ 153 ∷ 153
    ∷ 153 ∷ 153 ∷ 153 ∷ 233 ∷ 63 ∷ 3 ∷ 16 ∷ 0 ∷ 0 ∷ 0 ∷ 0 ∷ 0 ∷ 0 ∷ 0 ∷ 240 ∷ 63 ∷ 0 ∷ 0 ∷ 0 ∷ 0 ∷ 0 ∷ 0 ∷ 0 ∷ 0
    ∷ 7 ∷ 17 ∷ 0 ∷ 0 ∷ 4 ∷ 0 ∷ 0 ∷ 0 ∷ 0 ∷ 0 ∷ 0 ∷ 0 ∷ 2 ∷ 0 ∷ 0 ∷ 0 ∷ 0 ∷ 0 ∷ 0 ∷ 0 ∷ 5 ∷ 17 ∷ 0 ∷ 0
    ∷ 0 ∷ 0 ∷ 0 ∷ 0 ∷ 0 ∷ 0 ∷ 0 ∷ 0 ∷ 1 ∷ 0 ∷ 0 ∷ 0 ∷ 0 ∷ 0 ∷ 0 ∷ 0 ∷ 2 ∷ 34 ∷ 0 ∷ 0 ∷ 2 ∷ 0 ∷ 0 ∷ 0
    ∷ 0 ∷ 0 ∷ 0 ∷ 0 ∷ 5 ∷ 0 ∷ 0 ∷ 0 ∷ 0 ∷ 0 ∷ 0 ∷ 0 ∷ 0 ∷ 51 ∷ 51 ∷ 51 ∷ 51 ∷ 51 ∷ 51 ∷ 227 ∷ 63 ∷ 154 ∷ 153 ∷ 153
    ∷ 153 ∷ 153 ∷ 153 ∷ 233 ∷ 63 ∷ 4 ∷ 27 ∷ 0 ∷ 0 ∷ 5 ∷ 0 ∷ 0 ∷ 0 ∷ 0 ∷ 0 ∷ 0 ∷ 0 ∷ 0 ∷ 0 ∷ 0 ∷ 0 ∷ 0 ∷ 0 ∷ 0
    ∷ 0 ∷ 2 ∷ 0 ∷ 205 ∷ 59 ∷ 127 ∷ 102 ∷ 158 ∷ 160 ∷ 246 ∷ 63 ∷ 2 ∷ 34 ∷ 0 ∷ 0 ∷ 3 ∷ 0 ∷ 0 ∷ 0 ∷ 0 ∷ 0 ∷ 0 ∷ 0 ∷ 0
    ∷ 0 ∷ 0 ∷ 0 ∷ 0 ∷ 0 ∷ 0 ∷ 0 ∷ 0 ∷ 51 ∷ 51 ∷ 51 ∷ 51 ∷ 51 ∷ 51 ∷ 227 ∷ 63 ∷ 154 ∷ 153 ∷ 153 ∷ 153 ∷ 153 ∷ 153 ∷ 233 ∷ 63
    ∷ 4 ∷ 27 ∷ 0 ∷ 0 ∷ 0 ∷ 0 ∷ 0 ∷ 0 ∷ 0 ∷ 0 ∷ 0 ∷ 0 ∷ 1 ∷ 0 ∷ 0 ∷ 0 ∷ 0 ∷ 0 ∷ 0 ∷ 0 ∷ 0 ∷ 1 ∷ 205 ∷ 59
    ∷ 127 ∷ 102 ∷ 158 ∷ 160 ∷ 246 ∷ 63 ∷ 6 ∷ 0 ∷ 0 ∷ []

abbrev output : List ℕ
output =
    115 ∷ 116 ∷ 101 ∷ 112 ∷ 32 ∷ 48 ∷ 32 ∷ 114 ∷ 111 ∷ 116 ∷ 97 ∷ 116 ∷ 105 ∷ 111 ∷ 110 ∷ 32 ∷ 90 ∷ 90 ∷ 32 ∷ 102 ∷ 114 ∷ 97 ∷ 109 ∷ 101
    ∷ 32 ∷ 88 ∷ 88 ∷ 32 ∷ 107 ∷ 101 ∷ 112 ∷ 116 ∷ 32 ∷ 113 ∷ 117 ∷ 98 ∷ 105 ∷ 116 ∷ 115 ∷ 32 ∷ 48 ∷ 32 ∷ 49 ∷ 10 ∷ 115 ∷ 116 ∷ 101 ∷ 112
    ∷ 32 ∷ 49 ∷ 32 ∷ 113 ∷ 117 ∷ 97 ∷ 114 ∷ 116 ∷ 101 ∷ 114 ∷ 45 ∷ 116 ∷ 117 ∷ 114 ∷ 110 ∷ 32 ∷ 90 ∷ 73 ∷ 32 ∷ 102 ∷ 114 ∷ 97 ∷ 109 ∷ 101
    ∷ 32 ∷ 88 ∷ 88 ∷ 32 ∷ 110 ∷ 111 ∷ 32 ∷ 102 ∷ 108 ∷ 97 ∷ 103 ∷ 10 ∷ 115 ∷ 116 ∷ 101 ∷ 112 ∷ 32 ∷ 50 ∷ 32 ∷ 114 ∷ 111 ∷ 116 ∷ 97 ∷ 116
    ∷ 105 ∷ 111 ∷ 110 ∷ 32 ∷ 88 ∷ 73 ∷ 32 ∷ 102 ∷ 114 ∷ 97 ∷ 109 ∷ 101 ∷ 32 ∷ 89 ∷ 88 ∷ 32 ∷ 99 ∷ 104 ∷ 97 ∷ 110 ∷ 103 ∷ 101 ∷ 100 ∷ 32
    ∷ 113 ∷ 117 ∷ 98 ∷ 105 ∷ 116 ∷ 115 ∷ 32 ∷ 48 ∷ 10 ∷ 115 ∷ 116 ∷ 101 ∷ 112 ∷ 32 ∷ 51 ∷ 32 ∷ 112 ∷ 114 ∷ 111 ∷ 109 ∷ 111 ∷ 116 ∷ 105 ∷ 111
    ∷ 110 ∷ 32 ∷ 102 ∷ 114 ∷ 97 ∷ 109 ∷ 101 ∷ 32 ∷ 89 ∷ 88 ∷ 32 ∷ 110 ∷ 111 ∷ 32 ∷ 102 ∷ 108 ∷ 97 ∷ 103 ∷ 10 ∷ 115 ∷ 116 ∷ 101 ∷ 112 ∷ 32
    ∷ 52 ∷ 32 ∷ 113 ∷ 117 ∷ 97 ∷ 114 ∷ 116 ∷ 101 ∷ 114 ∷ 45 ∷ 116 ∷ 117 ∷ 114 ∷ 110 ∷ 32 ∷ 73 ∷ 90 ∷ 88 ∷ 32 ∷ 102 ∷ 114 ∷ 97 ∷ 109 ∷ 101
    ∷ 32 ∷ 89 ∷ 88 ∷ 73 ∷ 32 ∷ 110 ∷ 111 ∷ 32 ∷ 102 ∷ 108 ∷ 97 ∷ 103 ∷ 10 ∷ 115 ∷ 116 ∷ 101 ∷ 112 ∷ 32 ∷ 53 ∷ 32 ∷ 99 ∷ 111 ∷ 114 ∷ 114
    ∷ 101 ∷ 99 ∷ 116 ∷ 105 ∷ 111 ∷ 110 ∷ 32 ∷ 90 ∷ 73 ∷ 73 ∷ 32 ∷ 102 ∷ 114 ∷ 97 ∷ 109 ∷ 101 ∷ 32 ∷ 89 ∷ 89 ∷ 88 ∷ 32 ∷ 110 ∷ 111 ∷ 32
    ∷ 102 ∷ 108 ∷ 97 ∷ 103 ∷ 10 ∷ 115 ∷ 116 ∷ 101 ∷ 112 ∷ 32 ∷ 54 ∷ 32 ∷ 114 ∷ 111 ∷ 116 ∷ 97 ∷ 116 ∷ 105 ∷ 111 ∷ 110 ∷ 32 ∷ 90 ∷ 88 ∷ 90
    ∷ 32 ∷ 102 ∷ 114 ∷ 97 ∷ 109 ∷ 101 ∷ 32 ∷ 45 ∷ 89 ∷ 89 ∷ 88 ∷ 32 ∷ 99 ∷ 104 ∷ 97 ∷ 110 ∷ 103 ∷ 101 ∷ 100 ∷ 32 ∷ 113 ∷ 117 ∷ 98 ∷ 105
    ∷ 116 ∷ 115 ∷ 32 ∷ 48 ∷ 32 ∷ 49 ∷ 32 ∷ 50 ∷ 10 ∷ 115 ∷ 116 ∷ 101 ∷ 112 ∷ 32 ∷ 55 ∷ 32 ∷ 112 ∷ 114 ∷ 111 ∷ 106 ∷ 101 ∷ 99 ∷ 116 ∷ 105
    ∷ 111 ∷ 110 ∷ 32 ∷ 88 ∷ 73 ∷ 88 ∷ 32 ∷ 102 ∷ 114 ∷ 97 ∷ 109 ∷ 101 ∷ 32 ∷ 45 ∷ 89 ∷ 89 ∷ 88 ∷ 32 ∷ 99 ∷ 104 ∷ 97 ∷ 110 ∷ 103 ∷ 101
    ∷ 100 ∷ 32 ∷ 113 ∷ 117 ∷ 98 ∷ 105 ∷ 116 ∷ 115 ∷ 32 ∷ 48 ∷ 10 ∷ 115 ∷ 116 ∷ 101 ∷ 112 ∷ 32 ∷ 56 ∷ 32 ∷ 114 ∷ 111 ∷ 116 ∷ 97 ∷ 116 ∷ 105
    ∷ 111 ∷ 110 ∷ 32 ∷ 88 ∷ 88 ∷ 32 ∷ 102 ∷ 114 ∷ 97 ∷ 109 ∷ 101 ∷ 32 ∷ 45 ∷ 105 ∷ 42 ∷ 90 ∷ 89 ∷ 32 ∷ 107 ∷ 101 ∷ 112 ∷ 116 ∷ 32 ∷ 113
    ∷ 117 ∷ 98 ∷ 105 ∷ 116 ∷ 115 ∷ 32 ∷ 48 ∷ 32 ∷ 49 ∷ 10 ∷ 115 ∷ 116 ∷ 101 ∷ 112 ∷ 32 ∷ 57 ∷ 32 ∷ 112 ∷ 114 ∷ 111 ∷ 106 ∷ 101 ∷ 99 ∷ 116
    ∷ 105 ∷ 111 ∷ 110 ∷ 32 ∷ 90 ∷ 73 ∷ 32 ∷ 102 ∷ 114 ∷ 97 ∷ 109 ∷ 101 ∷ 32 ∷ 45 ∷ 105 ∷ 42 ∷ 90 ∷ 89 ∷ 32 ∷ 107 ∷ 101 ∷ 112 ∷ 116 ∷ 10
    ∷ 101 ∷ 110 ∷ 100 ∷ 32 ∷ 102 ∷ 114 ∷ 97 ∷ 109 ∷ 101 ∷ 32 ∷ 105 ∷ 42 ∷ 89 ∷ 10 ∷ []

readme : report_listed (88 ∷ 88 ∷ run) ≡ output
unfolding finding framing chained found framed_steps step_report pair_report anti_mask of_run on_run placed_row run_of begun start_width mapped walk follow ended read_at read_field judged judged_by unless decoded field_at is_whole body_length float_at pauli_at fits hermitian coefficient ys passed flipped anti product deciding meets absorbed widened turned_by turned_past raised dropped drop_bit width_after step_row rotation_step_row promotion_step_row projection_step_row rotation_kernel_row measurement_row hermitian_row width_row unit_row promoted_width_row pivot_row pivot_mask in_unit row first answered le neg of_bits digit overlap parity ones ones_in report_listed asked steps_listed step_listed answer_text frames_text step_lines before after has reading letter_of_byte read_call with_letter step_line step_text kind_text frame_text flag_text qubits_text qubits_from qubit_text end_line shown prefix body letters_from letter_at decimal decimal_up_to refuse put end_pauli number
readme = refl

-- `XX 7`
one_step : report_listed (88 ∷ 88 ∷ 32 ∷ 55 ∷ run)
    ≡ 115 ∷ 116 ∷ 101 ∷ 112 ∷ 32 ∷ 55 ∷ 32 ∷ 112 ∷ 114 ∷ 111 ∷ 106 ∷ 101 ∷ 99 ∷ 116 ∷ 105 ∷ 111 ∷ 110 ∷ 32 ∷ 88 ∷ 73 ∷ 88 ∷ 32 ∷ 102 ∷ 114 ∷ 97 ∷ 109 ∷ 101 ∷ 32 ∷ 45 ∷ 89 ∷ 89 ∷ 88 ∷ 32 ∷ 99 ∷ 104 ∷ 97 ∷ 110 ∷ 103 ∷ 101 ∷ 100 ∷ 32 ∷ 113 ∷ 117 ∷ 98 ∷ 105 ∷ 116 ∷ 115 ∷ 32 ∷ 48 ∷ 10 ∷ []
unfolding input_number number_from grown is_digit finding framing chained found framed_steps step_report pair_report anti_mask of_run on_run placed_row run_of begun start_width mapped walk follow ended read_at read_field judged judged_by unless decoded field_at is_whole body_length float_at pauli_at fits hermitian coefficient ys passed flipped anti product deciding meets absorbed widened turned_by turned_past raised dropped drop_bit width_after step_row rotation_step_row promotion_step_row projection_step_row rotation_kernel_row measurement_row hermitian_row width_row unit_row promoted_width_row pivot_row pivot_mask in_unit row first answered le neg of_bits digit overlap parity ones ones_in report_listed asked steps_listed step_listed answer_text frames_text step_lines before after has reading letter_of_byte read_call with_letter step_line step_text kind_text frame_text flag_text qubits_text qubits_from qubit_text end_line shown prefix body letters_from letter_at decimal decimal_up_to refuse put end_pauli number
one_step = refl
