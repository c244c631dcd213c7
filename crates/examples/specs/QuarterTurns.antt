-- Quarter turns by example, each worked by hand: a Pauli carried past one of Z, the amplitudes that they leave, and what is refused.
use Rattle.std.specs.Prelude.{◌≡◌, refl, List, [], ◌∷◌, ℕ, Float}
use Rattle.std.specs.Int.Count.{ones, ones_in}
use Rattle.std.specs.Float.{binary64}
use Rattle.std.specs.Float.Ieee.{of_bits, neg, add, sub, mul, le}
use Rattle.answers.specs.Answer.{refuse, value_or}
use Rattle.answers.specs.Answer.Answer.{accepted, refused_at}
use Rattle.answers.specs.Row.{row, first, answered, left}
use Rattle.bitlaws.specs.Digit.{digit, put}
use Rattle.bitlaws.specs.Parity.{overlap, parity}
use Rattle.paulilaws.specs.Pauli.{product, coefficient, ys, anti, fits, hermitian}
use Rattle.paulilaws.specs.Letter.{letter_at, with_letter}
use Rattle.paulilaws.specs.Frame.{raised}
use Rattle.paulitext.specs.Text.{letter_of_byte, reading, prefix, letters_from, body, shown}
use Rattle.paulitext.specs.Calls.{read_call}
use Rattle.statelaws.specs.Over.{over}
use Rattle.amplitudelaws.specs.Arithmetic.{power, times, direction, negated, scale, mixed}
use Rattle.amplitudelaws.specs.Rotation.{rotation_coefficient, rotated_alone, rotated_with, rotated_by, rotated}
use Rattle.amplitudelaws.specs.Rows.{hermitian_row, width_row, room_row}
use Rattle.amplitudelaws.specs.State.{point, written, room_for, room}
use Rattle.amplitudelaws.specs.Steps as leaves
use Rattle.amplitudelaws.specs.Step.{width_after}
use Rattle.framelaws.specs.Caller.{service}
use Rattle.framelaws.specs.PassRow.{placed_row}
use Rattle.framelaws.specs.Rows.{step_row}
use Rattle.framelaws.specs.Carrying.{turned_by, turned_past, carried_step, passed, carried_steps, end_pauli}
use Rattle.framelaws.specs.Memory.{memory_of, stepped, ran}
use Rattle.framelaws.specs.Survey.{mixed_amplitudes, surveyed, survey_from, survey}
use Rattle.runlaws.specs.Bytes.{number, pauli_at}
use Rattle.runlaws.specs.Field.{body_length, is_whole, field_at}
use Rattle.runlaws.specs.Reading.{decoded, unless, judged_by, judged, read_field, read_at}
use Rattle.runlaws.specs.Run.{mapped, ended, follow, walk, start_width, begun, run_of}
use Rattle.runlaws.specs.Flags.{field_size, flag_at, flagged}
use Rattle.runlaws.specs.Calls.{on_run, survey_of, memory_row, running, carrying_row, carried_run, carrying}
use Rattle.examples.specs.Runs.{zero, one, run_from, quarter_turn}
use Rattle.examples.specs.Starred.{pauli, X, Y, Z, Carries}

abbrev -X : List ℕ
-X = 45 ∷ 88 ∷ []

-- a run of one qubit with a quarter turn of Z, of X, of Y, of i Z, and of a Z on qubit 1, which it does not have
abbrev z_turn : List ℕ
z_turn = run_from 1 (quarter_turn 0 0 1)

abbrev x_turn : List ℕ
x_turn = run_from 1 (quarter_turn 0 1 0)

abbrev y_turn : List ℕ
y_turn = run_from 1 (quarter_turn 1 1 1)

abbrev iz_turn : List ℕ
iz_turn = run_from 1 (quarter_turn 1 0 1)

abbrev other_turn : List ℕ
other_turn = run_from 1 (quarter_turn 0 0 2)

-- 1 / sqrt 2 and its negative
abbrev h : Float
h = of_bits binary64 0x3FE6A09E667F3BCD

abbrev -h : Float
-h = of_bits binary64 0xBFE6A09E667F3BCD

-- what a quarter turn leaves in re and im of a state that is real, no scratch being lent
abbrev Leaves : List ℕ → List Float → List Float → List Float → Type 0
Leaves run state re im =
    running service run (memory_of state (zero ∷ zero ∷ []) [] [])
    ≡ record { answer = accepted (record { width = 1; steps = 1 }); lent = memory_of re im [] [] }

record QuarterTurns : Type 0 where
  -- Z X is i Y; times i^3 it is Y
  x_becomes_y : Carries z_turn (pauli X) z_turn (record { n = 1; k = 1; x = 1; z = 1 })
  shown_as_y : shown (record { n = 1; k = 1; x = 1; z = 1 }) ≡ Y
  -- Z Y is -i X; times i^3 it is -X
  y_becomes_minus_x : Carries z_turn (pauli Y) z_turn (record { n = 1; k = 2; x = 1; z = 0 })
  shown_as_minus_x : shown (record { n = 1; k = 2; x = 1; z = 0 }) ≡ -X
  z_stays : Carries z_turn (pauli Z) z_turn (pauli Z)
  -- exp(-i pi / 4) in front of |0>, exp(i pi / 4) in front of |1>
  z_turns_zero : Leaves z_turn (one ∷ zero ∷ []) (h ∷ zero ∷ []) (-h ∷ zero ∷ [])
  z_turns_one : Leaves z_turn (zero ∷ one ∷ []) (zero ∷ h ∷ []) (zero ∷ h ∷ [])
  -- (|0> - i |1>) / sqrt 2 and (|0> + |1>) / sqrt 2
  x_turns_zero : Leaves x_turn (one ∷ zero ∷ []) (h ∷ zero ∷ []) (zero ∷ -h ∷ [])
  y_turns_zero : Leaves y_turn (one ∷ zero ∷ []) (h ∷ h ∷ []) (zero ∷ zero ∷ [])
  -- at the tag
  not_hermitian : (carrying service iz_turn (pauli X) []).answer ≡ refused_at 7 4
  no_pauli : (carrying service other_turn (pauli X) []).answer ≡ refused_at 3 4

quarter_turns : QuarterTurns
unfolding pauli value_or read_call reading refuse letter_of_byte with_letter letter_at digit put product overlap parity ones ones_in coefficient ys shown prefix body letters_from carrying running on_run memory_row survey_of survey survey_from surveyed mixed_amplitudes room_for room room_row carrying_row placed_row carried_run run_of begun start_width mapped walk follow ended read_at read_field judged judged_by unless decoded field_at is_whole body_length number pauli_at fits hermitian flagged flag_at field_size carried_steps carried_step passed anti turned_by turned_past end_pauli raised width_after step_row hermitian_row width_row row first answered left stepped ran leaves.rotation written point over rotated rotated_by rotated_alone rotated_with rotation_coefficient power times direction negated scale mixed add sub mul le neg of_bits
quarter_turns = record {
  x_becomes_y = refl;
  shown_as_y = refl;
  y_becomes_minus_x = refl;
  shown_as_minus_x = refl;
  z_stays = refl;
  z_turns_zero = refl;
  z_turns_one = refl;
  x_turns_zero = refl;
  y_turns_zero = refl;
  not_hermitian = refl;
  no_pauli = refl;
}
