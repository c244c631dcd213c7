-- The starred examples of the scope, one to a row, over the definitions that the open calls' promises cite.
use Rattle.std.specs.Prelude.{◌≡◌, refl, List, [], ◌∷◌, ℕ, Float}
use Rattle.std.specs.Int.Count.{ones, ones_in}
use Rattle.std.specs.Float.{binary64}
use Rattle.std.specs.Float.Ieee.{of_bits, neg, mul, le}
use Rattle.answers.specs.Answer.{refuse, value_or}
use Rattle.answers.specs.Answer.Answer.{accepted}
use Rattle.bitlaws.specs.Digit.{digit, put}
use Rattle.bitlaws.specs.Opening.{open_bit, drop_bit}
use Rattle.bitlaws.specs.Parity.{overlap, parity}
use Rattle.bitlaws.specs.Source.{source}
use Rattle.bits.specs.Opening.{opening}
use Rattle.paulilaws.specs.Pauli.{Pauli, identity, product, coefficient, ys, anti, fits, hermitian}
use Rattle.paulilaws.specs.Letter.{letter_at, with_letter}
use Rattle.paulitext.specs.Text.{letter_of_byte, reading, prefix, letters_from, body, shown}
use Rattle.paulitext.specs.Calls.{read_call}
use Rattle.paulilaws.specs.Frame.{raised as raisedPhase, dropped}
use Rattle.answers.specs.Row.{row, first, answered, left}
use Rattle.statelaws.specs.Over.{over}
use Rattle.amplitudelaws.specs.Arithmetic.{scale}
use Rattle.amplitudelaws.specs.Binary.{binary, Point, in_unit}
use Rattle.amplitudelaws.specs.Promotion.{raised, promoted}
use Rattle.amplitudelaws.specs.Projection.{minus, remaining, remaining_by}
use Rattle.amplitudelaws.specs.Rows.{rotation_kernel_row, measurement_row, hermitian_row, width_row, unit_row, pivot_row, pivot_mask}
use Rattle.amplitudelaws.specs.State.{state_of, point, written}
use Rattle.amplitudelaws.specs.Steps.{promotion}
use Rattle.amplitudelaws.specs.Step.{width_after}
use Rattle.framelaws.specs.Caller.{service}
use Rattle.framelaws.specs.PassRow.{placed_row}
use Rattle.framelaws.specs.Rows.{step_row, rotation_step_row, projection_step_row}
use Rattle.framelaws.specs.Carrying.{flipped, deciding, meets, absorbed, carried_step, passed, carried_steps, end_pauli}
use Rattle.runlaws.specs.Bytes.{number, float_at, pauli_at}
use Rattle.runlaws.specs.Field.{body_length, is_whole, field_at}
use Rattle.runlaws.specs.Reading.{decoded, unless, judged_by, judged, read_field, read_at}
use Rattle.runlaws.specs.Run.{mapped, ended, follow, walk, start_width, begun, run_of}
use Rattle.runlaws.specs.Flags.{field_size, flag_at, flagged}
use Rattle.runlaws.specs.Calls.{on_run, carrying_row, carried_run, carrying}
use Rattle.examples.specs.Runs.{zero, one, run_from, rotation, projection, output_for, filled_with}

-- the Pauli that a text spells
unfoldable pub pauli : List ℕ → Pauli
pauli text = value_or (identity 0) (read_call text)

-- texts, as ASCII codes
abbrev pub X : List ℕ
X = 88 ∷ []

abbrev pub Z : List ℕ
Z = 90 ∷ []

abbrev ZZ : List ℕ
ZZ = 90 ∷ 90 ∷ []

abbrev pub Y : List ℕ
Y = 89 ∷ []

abbrev i_y : List ℕ
i_y = 105 ∷ 42 ∷ 89 ∷ []

abbrev -i_y : List ℕ
-i_y = 45 ∷ 105 ∷ 42 ∷ 89 ∷ []

abbrev minus_zero : Float
minus_zero = of_bits binary64 0x8000000000000000

-- a rotation of one qubit by Z, c 0 and s 1, with this sign
abbrev z_rotation : ℕ → List ℕ
z_rotation sign = run_from 1 (rotation 0 0 1 sign)

-- a projection of X, pivot 0, on this branch
abbrev x_projection : ℕ → List ℕ
x_projection branch = run_from 1 (projection 0 1 0 0 branch)

-- the identity on no qubits, with this phase
abbrev pub phase : ℕ → Pauli
phase k = record { n = 0; k = k; x = 0; z = 0 }

-- what carrying a Pauli through a run gives, into an output of other bytes, longer by one: the end Pauli, and the carried run in it, the last byte as it was
abbrev pub Carries : List ℕ → Pauli → List ℕ → Pauli → Type 0
Carries run Q carried end = carrying service run Q (output_for run) ≡ record { answer = accepted end; lent = filled_with carried }

record Starred : Type 0 where
  open_bit_1_of_5 : opening 5 1 ≡ accepted 9
  x_times_z : shown (product (pauli X) (pauli Z)) ≡ -i_y
  z_times_x : shown (product (pauli Z) (pauli X)) ≡ i_y
  zz_branch_0_reads_3 : (F : ℕ → Point) → remaining binary (pauli ZZ) 1 0 F 1 ≡ F 3
  zz_branch_1_reads_1 : (F : ℕ → Point) → remaining binary (pauli ZZ) 1 1 F 1 ≡ F 1
  x_past_z_rotation : Carries (z_rotation 0) (pauli X) (z_rotation 1) (pauli X)
  z_past_x_projection : Carries (x_projection 0) (pauli Z) (x_projection 1) (phase 0)
  x_past_x_projection : Carries (x_projection 1) (pauli X) (x_projection 1) (phase 2)
  y_past_x_projection : Carries (x_projection 0) (pauli Y) (x_projection 1) (phase 1)
  promoting_1 : promotion 0 zero one (state_of (one ∷ zero ∷ []) (zero ∷ zero ∷ [])) ≡ state_of (zero ∷ minus_zero ∷ []) (zero ∷ one ∷ [])

starred : Starred
unfolding opening open_bit refuse pauli value_or read_call reading letter_of_byte with_letter letter_at digit put product overlap parity ones ones_in coefficient ys shown prefix body letters_from minus remaining_by remaining source scale raised promoted promotion point written over mul neg of_bits carrying on_run carrying_row placed_row carried_run run_of begun start_width mapped walk follow ended read_at read_field judged judged_by unless decoded field_at is_whole body_length number float_at pauli_at fits hermitian flagged flag_at field_size carried_steps carried_step passed flipped anti deciding meets absorbed end_pauli raisedPhase dropped drop_bit width_after step_row rotation_step_row projection_step_row rotation_kernel_row measurement_row hermitian_row width_row unit_row pivot_row pivot_mask in_unit row first answered left le
starred = record {
  open_bit_1_of_5 = refl;
  x_times_z = refl;
  z_times_x = refl;
  zz_branch_0_reads_3 = λ F. refl;
  zz_branch_1_reads_1 = λ F. refl;
  x_past_z_rotation = refl;
  z_past_x_projection = refl;
  x_past_x_projection = refl;
  y_past_x_projection = refl;
  promoting_1 = refl;
}
