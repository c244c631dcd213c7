-- Two corrections carried one after the other, and as one, by example, each worked by hand. And closed instances of every claim of the theorem on them: Y and X
-- carried by the service, i X and X Z by the emulator, through a run with every kind of step.
use Rattle.std.specs.Prelude.{◌≡◌, refl, true, false, List, [], ◌∷◌, ◌++◌, ℕ, length, take}
use Rattle.std.proofs.Common.{sym, ap, ◌∙◌, lit≤}
use Rattle.std.specs.Int.Count.{ones, ones_in}
use Rattle.std.specs.Float.Ieee.{of_bits, neg, le}
use Rattle.answers.specs.Answer.{is_accepted}
use Rattle.answers.specs.Answer.Answer.{accepted, refused}
use Rattle.answers.specs.Row.{row, first, answered, left, accepted_same}
use Rattle.bitlaws.specs.Digit.{digit}
use Rattle.bitlaws.specs.Opening.{drop_bit}
use Rattle.bitlaws.specs.Parity.{overlap, parity}
use Rattle.paulilaws.specs.Pauli.{Pauli, product, anti, fits, hermitian, coefficient, ys}
use Rattle.paulilaws.specs.Frame.{raised, dropped}
use Rattle.amplitudelaws.specs.Binary.{in_unit}
use Rattle.amplitudelaws.specs.Rows.{rotation_kernel_row, measurement_row, hermitian_row, width_row, unit_row, promoted_width_row, pivot_row, pivot_mask}
use Rattle.amplitudelaws.specs.Step.{width_after}
use Rattle.framelaws.specs.Caller.{service, emulator}
use Rattle.framelaws.specs.PassRow.{placed_row}
use Rattle.framelaws.specs.Rows.{step_row, rotation_step_row, promotion_step_row, projection_step_row}
use Rattle.framelaws.specs.Identity.{phase_on}
use Rattle.framelaws.specs.Survey.{mixed_amplitudes, surveyed, survey_from, survey}
use Rattle.framelaws.specs.Carrying.{flipped, deciding, meets, absorbed, widened, turned_by, turned_past, carried_step, passed, carried_steps, end_pauli}
use Rattle.runlaws.specs.Bytes.{number, float_at, pauli_at}
use Rattle.runlaws.specs.Calls.{Outcome, on_run, survey_of, checking, carrying_row, carried_run, carrying}
use Rattle.runlaws.specs.Field.{body_length, is_whole, field_at}
use Rattle.runlaws.specs.Flags.{field_size, flag_at, flagged}
use Rattle.runlaws.specs.Frame.{sent}
use Rattle.runlaws.proofs.Merging.{two_corrections_at_the_service, two_corrections_at_the_emulator}
use Rattle.runlaws.specs.Reading.{decoded, unless, judged_by, judged, read_field, read_at}
use Rattle.runlaws.specs.Run.{mapped, ended, follow, walk, start_width, begun, run_of}
use Rattle.runlaws.specs.TwoCorrections.{OneCarry, Undone, product_of, InTurn}
use Rattle.runlaws.specs.TwoCorrections.InTurn.{alone as last, next}
use Rattle.examples.specs.Instance.{Y, steps, run, outcome, output}
use Rattle.examples.specs.Runs as bytes
use Rattle.examples.specs.Runs.{run_from, output_for}
use Rattle.examples.specs.Starred.{phase, Carries}

-- ---- by hand

abbrev X : Pauli
X = record { n = 1; k = 0; x = 1; z = 0 }

abbrev Z : Pauli
Z = record { n = 1; k = 0; x = 0; z = 1 }

-- X Z and Z X, which are -i Y and i Y; i X
abbrev XZ : Pauli
XZ = record { n = 1; k = 0; x = 1; z = 1 }

abbrev ZX : Pauli
ZX = record { n = 1; k = 2; x = 1; z = 1 }

abbrev i_x : Pauli
i_x = record { n = 1; k = 1; x = 1; z = 0 }

-- one qubit and no step; a projection of X, pivot 0, on this branch; the same behind a quarter turn of Z
abbrev alone : List ℕ
alone = run_from 1 (λ rest. rest)

abbrev projected : ℕ → List ℕ
projected branch = run_from 1 (bytes.projection 0 1 0 0 branch)

abbrev turned : ℕ → List ℕ
turned branch = run_from 1 (λ rest. bytes.quarter_turn 0 0 1 (bytes.projection 0 1 0 0 branch rest))

-- B through the run leaves `between`, and A through that leaves `after`; so does B A, which is `merged`, through the run, and the end Paulis multiply
record Merges (run : List ℕ) (B A merged : Pauli) (between after : List ℕ) (end_b end_a end : Pauli) : Type 0 where
  is : product B A ≡ merged
  one : Carries run B between end_b
  two : Carries between A after end_a
  at_once : Carries run merged after end
  ends : product end_b end_a ≡ end

record ByHand : Type 0 where
  -- nothing is in the way: the end Paulis are B and A
  x_then_z_alone : Merges alone X Z XZ alone alone X Z XZ
  z_then_x_alone : Merges alone Z X ZX alone alone Z X ZX
  -- X absorbs the projection's X and leaves the branch, Z flips it. Carried first, X finds branch 0; behind Z it finds branch 1, which is a sign.
  x_then_z : Merges (projected 0) X Z XZ (projected 0) (projected 1) (phase 0) (phase 0) (phase 0)
  z_then_x : Merges (projected 0) Z X ZX (projected 1) (projected 1) (phase 0) (phase 2) (phase 2)
  -- from branch 1 the other way round
  x_then_z_on_1 : Merges (projected 1) X Z XZ (projected 1) (projected 0) (phase 2) (phase 0) (phase 2)
  z_then_x_on_1 : Merges (projected 1) Z X ZX (projected 0) (projected 0) (phase 0) (phase 0) (phase 0)
  -- Behind the turn X is Y, which flips the branch too, and the second flips it back. X Z is i X there, and Z X is -i X: neither flips it.
  turned_x_then_z : Merges (turned 0) X Z XZ (turned 1) (turned 0) (phase 1) (phase 0) (phase 1)
  turned_z_then_x : Merges (turned 0) Z X ZX (turned 1) (turned 0) (phase 0) (phase 3) (phase 3)
  -- X twice absorbs it twice; i X twice is -1
  x_twice : Merges (projected 1) X X (record { n = 1; k = 0; x = 0; z = 0 }) (projected 1) (projected 1) (phase 2) (phase 2) (phase 0)
  ix_twice : Merges (projected 1) i_x i_x (record { n = 1; k = 2; x = 0; z = 0 }) (projected 1) (projected 1) (phase 3) (phase 3) (phase 2)

by_hand : ByHand
unfolding carrying on_run carrying_row placed_row carried_run run_of begun start_width mapped walk follow ended read_at read_field judged judged_by unless decoded field_at is_whole body_length number float_at pauli_at fits hermitian coefficient ys flagged flag_at field_size carried_steps carried_step passed flipped anti product deciding meets absorbed turned_by turned_past end_pauli raised dropped drop_bit width_after step_row projection_step_row measurement_row hermitian_row width_row pivot_row pivot_mask row first answered left of_bits digit overlap parity ones ones_in
by_hand = record {
  x_then_z_alone = record { is = refl; one = refl; two = refl; at_once = refl; ends = refl };
  z_then_x_alone = record { is = refl; one = refl; two = refl; at_once = refl; ends = refl };
  x_then_z = record { is = refl; one = refl; two = refl; at_once = refl; ends = refl };
  z_then_x = record { is = refl; one = refl; two = refl; at_once = refl; ends = refl };
  x_then_z_on_1 = record { is = refl; one = refl; two = refl; at_once = refl; ends = refl };
  z_then_x_on_1 = record { is = refl; one = refl; two = refl; at_once = refl; ends = refl };
  turned_x_then_z = record { is = refl; one = refl; two = refl; at_once = refl; ends = refl };
  turned_z_then_x = record { is = refl; one = refl; two = refl; at_once = refl; ends = refl };
  x_twice = record { is = refl; one = refl; two = refl; at_once = refl; ends = refl };
  ix_twice = record { is = refl; one = refl; two = refl; at_once = refl; ends = refl };
}

-- X, Z and X in turn: the last finds branch 1. X Z X is -Z, which flips the branch and ends in -1.
three : InTurn service (projected 0) X (Z ∷ X ∷ []) (phase 2) (projected 1)
unfolding carrying on_run carrying_row placed_row carried_run run_of begun start_width mapped walk follow ended read_at read_field judged judged_by unless decoded field_at is_whole body_length number float_at pauli_at fits hermitian coefficient ys flagged flag_at field_size carried_steps carried_step passed flipped anti product deciding meets absorbed turned_by turned_past end_pauli raised dropped drop_bit width_after step_row projection_step_row measurement_row hermitian_row width_row pivot_row pivot_mask row first answered left of_bits digit overlap parity ones ones_in
three = next (output_for (projected 0)) refl (next (projected 0) refl (last (output_for (0 ∷ projected 1)) refl))

as_one : product_of X (Z ∷ X ∷ []) ≡ record { n = 1; k = 2; x = 0; z = 1 }
unfolding product_of product overlap parity ones ones_in
as_one = refl

carried_as_one : ((carrying service (projected 0) (product_of X (Z ∷ X ∷ [])) (projected 0)).answer ≡ accepted (phase 2))
    × (sent service (projected 0) (product_of X (Z ∷ X ∷ [])) (projected 0) ≡ projected 1)
carried_as_one = two_corrections_at_the_service.in_turn (projected 0) (projected 0) (projected 1) X (phase 2) (Z ∷ X ∷ []) three (lit≤ tt)

-- two in turn are two carries, whatever the outputs are
two_in_turn : (s first second : List ℕ) (B A end_b end_a : Pauli) → (carrying service s B first).answer ≡ accepted end_b
    → (carrying service (sent service s B first) A second).answer ≡ accepted end_a
    → InTurn service s B (A ∷ []) (product end_b end_a) (sent service (sent service s B first) A second)
two_in_turn s first second B A end_b end_a one two = next first one (last second two)

-- ---- the theorem's hypotheses can be met

-- the second output is longer than the first, the frame theorem's; the third is the shortest, the run itself
abbrev second : List ℕ
second = output_for (0 ∷ run)

abbrev third : List ℕ
third = run

-- behind Y, X flips the signs of Z's and Y's rotations; behind the quarter turn it is YX, then -X, which flips the last branch
abbrev after : List ℕ
after = steps 0 1 1 1 1

carries_x : is_accepted (carrying service run X second).answer ≡ true
unfolding is_accepted carrying on_run carrying_row placed_row carried_run run_of begun start_width mapped walk follow ended read_at read_field judged judged_by unless decoded field_at is_whole body_length number float_at pauli_at fits hermitian coefficient ys width_after step_row rotation_step_row promotion_step_row projection_step_row rotation_kernel_row measurement_row hermitian_row width_row unit_row promoted_width_row pivot_row pivot_mask in_unit row first answered left le neg of_bits digit overlap parity ones ones_in
carries_x = refl

carries_y : is_accepted (carrying service run Y output).answer ≡ true
unfolding is_accepted
carries_y = ap (λ (o : Outcome Pauli (List ℕ)). is_accepted o.answer) outcome

met : OneCarry service run output second third Y X
met = two_corrections_at_the_service.accepts run output second third Y X (record { carries_B = carries_y; carries_A = carries_x; room = lit≤ tt })

-- Y X is -i Z; it ends in -i, which is i times -1
merged : carrying service run (record { n = 1; k = 3; x = 0; z = 1 }) third ≡ record { answer = accepted (record { n = 1; k = 3; x = 0; z = 0 }); lent = after }
unfolding carrying on_run carrying_row placed_row carried_run run_of begun start_width mapped walk follow ended read_at read_field judged judged_by unless decoded field_at is_whole body_length number float_at pauli_at fits hermitian coefficient ys flagged flag_at field_size carried_steps carried_step passed flipped anti product deciding meets absorbed widened turned_by turned_past end_pauli raised dropped drop_bit width_after step_row rotation_step_row promotion_step_row projection_step_row rotation_kernel_row measurement_row hermitian_row width_row unit_row promoted_width_row pivot_row pivot_mask in_unit row first answered left le neg of_bits digit overlap parity ones ones_in
merged = refl

-- so that A, carried through what B leaves, leaves these bytes
left_is : sent service (sent service run Y output) X second ≡ after
unfolding product overlap parity ones ones_in
left_is = met.same ∙ ap (λ (o : Outcome Pauli (List ℕ)). take (length run) o.lent) merged

ends_are : product met.end_b met.end_a ≡ record { n = 1; k = 3; x = 0; z = 0 }
unfolding product overlap parity ones ones_in
ends_are = accepted_same (sym met.merged_ends ∙ ap (λ (o : Outcome Pauli (List ℕ)). o.answer) merged)

-- By the emulator, Paulis that are not Hermitian and anticommute, i X and X Z; the second and third outputs have a byte past the run
abbrev long : List ℕ
long = output_for run

carries_ix : is_accepted (carrying emulator run i_x run).answer ≡ true
unfolding is_accepted carrying on_run carrying_row placed_row carried_run run_of begun start_width mapped walk follow ended read_at read_field judged judged_by unless decoded field_at is_whole body_length number float_at pauli_at fits hermitian coefficient ys width_after step_row rotation_step_row promotion_step_row projection_step_row rotation_kernel_row measurement_row hermitian_row width_row unit_row promoted_width_row pivot_row pivot_mask in_unit row first answered left le neg of_bits digit overlap parity ones ones_in
carries_ix = refl

carries_xz : is_accepted (carrying emulator run XZ long).answer ≡ true
unfolding is_accepted carrying on_run carrying_row placed_row carried_run run_of begun start_width mapped walk follow ended read_at read_field judged judged_by unless decoded field_at is_whole body_length number float_at pauli_at fits hermitian coefficient ys width_after step_row rotation_step_row promotion_step_row projection_step_row rotation_kernel_row measurement_row hermitian_row width_row unit_row promoted_width_row pivot_row pivot_mask in_unit row first answered left le neg of_bits digit overlap parity ones ones_in
carries_xz = refl

met_on_the_board : OneCarry emulator run run long long i_x XZ
met_on_the_board =
    two_corrections_at_the_emulator.accepts run run long long i_x XZ (record { carries_B = carries_ix; carries_A = carries_xz; room = lit≤ tt })

outputs_too : (carrying emulator (sent emulator run i_x run) XZ long).lent ≡ (carrying emulator run (product i_x XZ) long).lent
outputs_too = met_on_the_board.whole refl

-- a Pauli on two qubits: 4 through the run, and so through what Y leaves of it
abbrev wide : Pauli
wide = record { n = 2; k = 0; x = 0; z = 0 }

refused_by_4 : (carrying service (sent service run Y output) wide run).answer ≡ refused 4
unfolding is_accepted carrying on_run carrying_row placed_row carried_run run_of begun start_width mapped walk follow ended read_at read_field judged judged_by unless decoded field_at is_whole body_length number float_at pauli_at fits hermitian coefficient ys width_after step_row rotation_step_row promotion_step_row projection_step_row rotation_kernel_row measurement_row hermitian_row width_row unit_row promoted_width_row pivot_row pivot_mask in_unit row first answered left le neg of_bits digit overlap parity ones ones_in
refused_by_4 = (two_corrections_at_the_service.refuses run output run Y wide carries_y 4).0 refl

not_accepted : is_accepted (carrying service (sent service run Y output) wide run).answer ≡ false
unfolding is_accepted carrying on_run carrying_row placed_row carried_run run_of begun start_width mapped walk follow ended read_at read_field judged judged_by unless decoded field_at is_whole body_length number float_at pauli_at fits hermitian coefficient ys width_after step_row rotation_step_row promotion_step_row projection_step_row rotation_kernel_row measurement_row hermitian_row width_row unit_row promoted_width_row pivot_row pivot_mask in_unit row first answered left le neg of_bits digit overlap parity ones ones_in
not_accepted = two_corrections_at_the_service.alike run output run Y wide carries_y ∙ refl

-- -i through every kind of step
checks : checking service run ≡ accepted (record { width = 1; steps = 9; greatest = 2; scratch = 2 })
unfolding checking survey_of survey survey_from surveyed mixed_amplitudes run_of begun start_width mapped walk follow ended read_at read_field judged judged_by unless decoded field_at is_whole body_length number float_at pauli_at fits hermitian coefficient ys width_after step_row rotation_step_row promotion_step_row projection_step_row rotation_kernel_row measurement_row hermitian_row width_row unit_row promoted_width_row pivot_row pivot_mask in_unit row first answered left le neg of_bits digit overlap parity ones ones_in
checks = refl

kept : carrying service run (phase_on 1 3) long ≡ record { answer = accepted (phase_on 1 3); lent = run ++ 238 ∷ [] }
unfolding is_accepted carrying on_run carrying_row placed_row carried_run run_of begun start_width mapped walk follow ended read_at read_field judged judged_by unless decoded field_at is_whole body_length number float_at pauli_at fits hermitian coefficient ys width_after step_row rotation_step_row promotion_step_row projection_step_row rotation_kernel_row measurement_row hermitian_row width_row unit_row promoted_width_row pivot_row pivot_mask in_unit row first answered left le neg of_bits digit overlap parity ones ones_in
kept = two_corrections_at_the_service.unchanged run long 1 3 (record { width = 1; steps = 9; greatest = 2; scratch = 2 }) checks refl

-- Y and then i Y: the run is there again, and of the end Paulis the phase i is left, which is that of Y i Y
abbrev i_y : Pauli
i_y = record { n = 1; k = 2; x = 1; z = 1 }

undone : Undone service run output run Y i_y
unfolding is_accepted carrying on_run carrying_row placed_row carried_run run_of begun start_width mapped walk follow ended read_at read_field judged judged_by unless decoded field_at is_whole body_length number float_at pauli_at fits hermitian coefficient ys width_after step_row rotation_step_row promotion_step_row projection_step_row rotation_kernel_row measurement_row hermitian_row width_row unit_row promoted_width_row pivot_row pivot_mask in_unit row first answered left le neg of_bits digit overlap parity ones ones_in
undone = two_corrections_at_the_service.undoes run output run Y i_y refl refl carries_y refl

there_again : sent service (sent service run Y output) i_y run ≡ run
there_again = undone.back

phase_left : product undone.end_b undone.end_a ≡ record { n = 1; k = 1; x = 0; z = 0 }
unfolding product overlap parity ones ones_in
phase_left =
    let ends = accepted_same (sym undone.first_ends ∙ ap (λ (o : Outcome Pauli (List ℕ)). o.answer) outcome) in
    undone.phase ∙ ap (λ (P : Pauli). phase_on P.n 1) ends
