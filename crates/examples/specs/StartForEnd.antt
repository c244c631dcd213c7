-- Starts for ends, by example, each worked by hand: widths 0 at either end, a start that is the only one and one of several, ends that have none, the rows in their
-- order, both callers. And closed instances of every claim of the theorem on them, on the frame theorem's run with every kind of step.
use Rattle.std.specs.Prelude.{◌≡◌, refl, true, false, List, [], ◌⊎◌, ℕ, ◌≤◌, length}
use Rattle.std.proofs.Common.{ap, le_refl, lit≤}
use Rattle.std.proofs.Math.Option.{some}
use Rattle.std.specs.Int.Count.{ones, ones_in}
use Rattle.std.specs.Float.Ieee.{of_bits, neg, le}
use Rattle.answers.specs.Answer.Answer.{accepted, refused, refused_at}
use Rattle.answers.specs.Row.{row, first, answered}
use Rattle.bitlaws.specs.Digit.{digit}
use Rattle.bitlaws.specs.Elimination.{first_with, cleared, words_after, word_after, words_of}
use Rattle.bitlaws.specs.Opening.{drop_bit}
use Rattle.bitlaws.specs.Parity.{overlap, parity}
use Rattle.paulilaws.specs.Pauli.{Pauli, product, anti, fits, hermitian, coefficient, ys}
use Rattle.paulilaws.specs.Frame.{raised, dropped}
use Rattle.paulilaws.specs.MaskWord.{mask_word, with_masks}
use Rattle.amplitudelaws.specs.Binary.{in_unit}
use Rattle.amplitudelaws.specs.Rows.{rotation_kernel_row, measurement_row, hermitian_row, width_row, unit_row, promoted_width_row, pivot_row, pivot_mask}
use Rattle.amplitudelaws.specs.Step.{width_after, last_width}
use Rattle.framelaws.specs.Caller.{service, emulator}
use Rattle.framelaws.specs.Carrying.{flipped, deciding, meets, absorbed, widened, turned_by, turned_past, passed, end_pauli}
use Rattle.framelaws.specs.PassRow.{placed_row}
use Rattle.framelaws.specs.Rows.{step_row, rotation_step_row, promotion_step_row, projection_step_row}
use Rattle.framelaws.specs.Seeking.{image, with_image, remainder, is_reached, with_phase_for, start_for}
use Rattle.framelaws.specs.Survey.{Survey, mixed_amplitudes, surveyed, survey_from, survey}
use Rattle.runlaws.specs.Bytes.{number, float_at, pauli_at}
use Rattle.runlaws.specs.Calls.{Outcome, survey_of, checking, carrying, of_run, seeking_row, seeking, on_run, carrying_row}
use Rattle.runlaws.specs.Field.{body_length, is_whole, field_at}
use Rattle.runlaws.specs.Reading.{decoded, unless, judged_by, judged, read_field, read_at}
use Rattle.runlaws.specs.Run.{mapped, ended, follow, walk, start_width, begun, run_of}
use Rattle.runlaws.proofs.Seeking.{start_for_end_at_the_service, start_for_end_at_the_emulator}
use Rattle.runlaws.specs.StartForEnd.{StartsFor, NoStart, SomeStart}
use Rattle.examples.specs.Emulator.{met}
use Rattle.examples.specs.Instance.{Y, run, output, outcome}
use Rattle.examples.specs.Runs as bytes
use Rattle.examples.specs.Runs.{run_from}
use Rattle.examples.specs.Starred.{phase}

-- ---- by hand

-- on one qubit and on two: i^k X^x Z^z
abbrev pub one : ℕ → ℕ → ℕ → Pauli
one k x z = record { n = 1; k = k; x = x; z = z }

abbrev pub two : ℕ → ℕ → ℕ → Pauli
two k x z = record { n = 2; k = k; x = x; z = z }

-- no step; a quarter turn of X; a projection of X on branch 1; a qubit promoted; and then a quarter turn of XX; a projection of XX; two promotions from no qubit
abbrev pub alone : ℕ → List ℕ
alone n = run_from n (λ rest. rest)

abbrev turned : List ℕ
turned = run_from 1 (bytes.quarter_turn 0 1 0)

abbrev projected : List ℕ
projected = run_from 1 (bytes.projection 0 1 0 0 1)

abbrev promoted : List ℕ
promoted = run_from 1 bytes.promotion

abbrev joined : List ℕ
joined = run_from 1 (λ rest. bytes.promotion (bytes.quarter_turn 0 3 0 rest))

abbrev paired : List ℕ
paired = run_from 2 (bytes.projection 0 3 0 0 0)

abbrev grown : List ℕ
grown = run_from 0 (λ rest. bytes.promotion (bytes.promotion rest))

-- Y is carried to it through every kind of step
abbrev i_i : Pauli
i_i = one 1 0 0

record ByHand : Type 0 where
  -- each Pauli is its own start, phase included; on no qubits too
  ix_alone : seeking service (alone 1) (one 1 1 0) ≡ accepted (one 1 1 0)
  phase_alone : seeking service (alone 0) (phase 3) ≡ accepted (phase 3)
  -- Z becomes -Y behind the turn, and Y becomes Z: so Y is -Z's end
  y_turned : seeking service turned (one 1 1 1) ≡ accepted (one 2 0 1)
  z_turned : seeking service turned (one 0 0 1) ≡ accepted (one 1 1 1)
  -- on no qubits any phase is reached, and -1 is found from -I; X would serve as well
  minus_projected : seeking service projected (phase 2) ≡ accepted (one 2 0 0)
  -- on the new qubit nothing is reached
  x_promoted : seeking service promoted (two 0 1 0) ≡ accepted (one 0 1 0)
  x_on_the_new : seeking service promoted (two 0 2 0) ≡ refused 25
  both_promoted : seeking service promoted (two 0 3 0) ≡ refused 25
  -- behind a turn of XX, Z has become -YX: that is reached, and of its two letters neither alone
  yx_joined : seeking service joined (two 3 3 1) ≡ accepted (one 0 0 1)
  y_joined : seeking service joined (two 1 1 1) ≡ refused 25
  x_joined : seeking service joined (two 0 2 0) ≡ refused 25
  -- from two qubits to one: Z on the qubit that is left
  z_paired : seeking service paired (one 0 0 1) ≡ accepted (two 0 0 2)
  -- from no qubits to two
  phase_grown : seeking service grown (two 3 0 0) ≡ accepted (phase 3)
  z_grown : seeking service grown (two 0 0 1) ≡ refused 25
  -- through a run with every kind of step, whose last qubit is a new one
  i_through_every_kind : seeking service run i_i ≡ accepted i_i
  x_through_every_kind : seeking service run (one 0 1 0) ≡ refused 25
  -- the rows: the run's own before the end's, 3 before 4, 4 before 25, each against the last width
  run_before_three : seeking service [] (one 4 0 0) ≡ refused_at 14 0
  three_before_four : seeking service promoted (one 4 0 0) ≡ refused 3
  four_before_25 : seeking service promoted (one 0 0 0) ≡ refused 4
  start_width_lem : seeking service projected (one 0 1 0) ≡ refused 4
  -- the emulator
  by_the_emulator : seeking emulator joined (two 3 3 1) ≡ accepted (one 0 0 1)
  none_by_the_emulator : seeking emulator joined (two 0 2 0) ≡ refused 25
  over_six : seeking emulator (alone 7) (phase 0) ≡ refused_at 21 0

by_hand : ByHand
unfolding seeking of_run on_run seeking_row placed_row is_reached start_for with_phase_for remainder with_image image mask_word with_masks first_with cleared words_after word_after words_of last_width run_of begun start_width mapped walk follow ended read_at read_field judged judged_by unless decoded field_at is_whole body_length number float_at pauli_at fits hermitian coefficient ys passed flipped anti product deciding meets absorbed widened turned_by turned_past end_pauli raised dropped drop_bit width_after step_row rotation_step_row promotion_step_row projection_step_row rotation_kernel_row measurement_row hermitian_row width_row unit_row promoted_width_row pivot_row pivot_mask in_unit row first answered le neg of_bits digit overlap parity ones ones_in
by_hand = record {
  ix_alone = refl;
  phase_alone = refl;
  y_turned = refl;
  z_turned = refl;
  minus_projected = refl;
  x_promoted = refl;
  x_on_the_new = refl;
  both_promoted = refl;
  yx_joined = refl;
  y_joined = refl;
  x_joined = refl;
  z_paired = refl;
  phase_grown = refl;
  z_grown = refl;
  i_through_every_kind = refl;
  x_through_every_kind = refl;
  run_before_three = refl;
  three_before_four = refl;
  four_before_25 = refl;
  start_width_lem = refl;
  by_the_emulator = refl;
  none_by_the_emulator = refl;
  over_six = refl;
}

-- Carrying's rows are made of the same: 3 and 4 stand before 16, of an output without room.
record Carried : Type 0 where
  three_before_sixteen : (carrying service promoted (one 4 0 0) []).answer ≡ refused 3
  four_before_sixteen : (carrying service promoted (two 0 0 0) []).answer ≡ refused 4

carried_rows : Carried
unfolding carrying on_run carrying_row placed_row run_of begun start_width mapped walk follow ended read_at read_field judged judged_by unless decoded field_at is_whole body_length number float_at pauli_at fits hermitian coefficient ys width_after step_row promotion_step_row unit_row promoted_width_row in_unit row first answered le neg of_bits
carried_rows = record { three_before_sixteen = refl; four_before_sixteen = refl }

-- ---- the theorem's claims, each used: through a run with every kind of step, whose last qubit is a new one

serves : StartsFor service run i_i i_i
serves = start_for_end_at_the_service.answers run i_i i_i by_hand.i_through_every_kind

-- on the start field's one qubit; carried into an output with no byte to spare
record Serves : Type 0 where
  pauli : fits i_i ≡ true
  start : start_width (field_at run 0) ≡ some 1
  ends : (out : List ℕ) → length run ≤ length out → (carrying service run i_i out).answer ≡ accepted i_i

served : Serves
served = record { pauli = serves.pauli; start = serves.start; ends = serves.ends }

-- so of every run, into an output of its own length
always : (s : List ℕ) (E Q : Pauli) → seeking service s E ≡ accepted Q → (carrying service s Q s).answer ≡ accepted E
always s E Q e = (start_for_end_at_the_service.answers s E Q e).ends s (le_refl (length s))

-- nothing is carried to X
nobody : (Q : Pauli) (out : List ℕ) → (carrying service run Q out).answer ≡ accepted (one 0 1 0) → ⊥
nobody = start_for_end_at_the_service.refuses run (one 0 1 0) by_hand.x_through_every_kind

-- by what Y is carried to, without computing what is answered
some_start : SomeStart service run i_i
some_start = start_for_end_at_the_service.finds run i_i Y output (ap (λ (o : Outcome Pauli (List ℕ)). o.answer) outcome)

some_found : (seeking service run i_i ≡ accepted some_start.pauli) × ((carrying service run some_start.pauli run).answer ≡ accepted i_i)
some_found = (some_start.answered, some_start.serves.ends run (lit≤ tt))

-- the rows
abbrev surveyed_run : Survey
surveyed_run = record { width = 1; steps = 9; greatest = 2; scratch = 2 }

checks : checking service run ≡ accepted surveyed_run
unfolding checking survey_of survey survey_from surveyed mixed_amplitudes run_of begun start_width mapped walk follow ended read_at read_field judged judged_by unless decoded field_at is_whole body_length number float_at pauli_at fits hermitian coefficient ys width_after step_row rotation_step_row promotion_step_row projection_step_row rotation_kernel_row measurement_row hermitian_row width_row unit_row promoted_width_row pivot_row pivot_mask in_unit row first answered le neg of_bits digit overlap parity ones ones_in
checks = refl

unfit : (E : Pauli) → fits E ≡ false → seeking service run E ≡ refused 3
unfit E bad = start_for_end_at_the_service.three run E surveyed_run checks bad

misplaced : (E : Pauli) → fits E ≡ true → (E.n ≡ 1 → ⊥) → seeking service run E ≡ refused 4
misplaced E fit other = start_for_end_at_the_service.four run E surveyed_run checks fit other

-- whatever Pauli is named on one qubit
either : (k x z : ℕ) → fits (one k x z) ≡ true → SomeStart service run (one k x z) ⊎ ((seeking service run (one k x z) ≡ refused 25) × NoStart service run (one k x z))
either k x z fit = start_for_end_at_the_service.last run (one k x z) surveyed_run checks fit refl

-- ---- by the emulator

on_the_board : (carrying emulator joined (one 0 0 1) joined).answer ≡ accepted (two 3 3 1)
on_the_board = (start_for_end_at_the_emulator.answers joined (two 3 3 1) (one 0 0 1) by_hand.by_the_emulator).ends joined (lit≤ tt)

nobody_on_the_board : (Q : Pauli) (out : List ℕ) → (carrying emulator joined Q out).answer ≡ accepted (two 0 2 0) → ⊥
nobody_on_the_board = start_for_end_at_the_emulator.refuses joined (two 0 2 0) by_hand.none_by_the_emulator

-- its own row, whatever is named
over : (E : Pauli) → seeking emulator (alone 7) E ≡ refused_at 21 0
unfolding checking survey_of mapped run_of begun start_width field_at is_whole body_length number
over E = start_for_end_at_the_emulator.run_first (alone 7) E 21 0 refl

-- of any run that is refused
run_own : (s : List ℕ) (E : Pauli) (r at : ℕ) → checking emulator s ≡ refused_at r at → seeking emulator s E ≡ refused_at r at
run_own = start_for_end_at_the_emulator.run_first

some_on_the_board : SomeStart emulator joined (two 3 3 1)
some_on_the_board = start_for_end_at_the_emulator.finds joined (two 3 3 1) (one 0 0 1) joined on_the_board

unfit_on_the_board : (E : Pauli) (v : Survey) → checking emulator joined ≡ accepted v → fits E ≡ false → seeking emulator joined E ≡ refused 3
unfit_on_the_board = start_for_end_at_the_emulator.three joined

misplaced_on_the_board : (E : Pauli) (v : Survey) → checking emulator joined ≡ accepted v → fits E ≡ true → (E.n ≡ v.width → ⊥) → seeking emulator joined E ≡ refused 4
misplaced_on_the_board = start_for_end_at_the_emulator.four joined

either_on_the_board : (E : Pauli) (v : Survey) → checking emulator joined ≡ accepted v → fits E ≡ true → E.n ≡ v.width
    → SomeStart emulator joined E ⊎ ((seeking emulator joined E ≡ refused 25) × NoStart emulator joined E)
either_on_the_board = start_for_end_at_the_emulator.last joined

-- the run that both hold: the same start from both
by_both : (E : Pauli) → seeking emulator run E ≡ seeking service run E
by_both = met.seeks
