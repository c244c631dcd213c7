-- The emulator by example, beside the service: which runs each refuses, by which number and where; and two closed runs that meet what the two callers' theorem asks,
-- on a board of 64 amplitudes.
use Rattle.std.specs.Prelude.{◌≡◌, refl, true, List, [], ◌∷◌, ◌++◌, ℕ, zero, suc, ◌^◌, ◌<◌, Float, replicate, get_or}
use Rattle.std.proofs.Common.{sym, ap, ◌∙◌, arith, lit≤}
use Rattle.std.specs.Int.Count.{ones, ones_in}
use Rattle.std.specs.Float.Ieee.{of_bits, neg, le}
use Rattle.std.specs.Float.{nan}
use Rattle.std.proofs.Math.ListN.{get_or-append}
use Rattle.answers.specs.Answer.{Answer, is_accepted}
use Rattle.answers.specs.Answer.Answer.{accepted, refused_at}
use Rattle.answers.specs.Row.{row, first, answered, left}
use Rattle.bitlaws.specs.Digit.{digit}
use Rattle.bitlaws.specs.Parity.{overlap, parity}
use Rattle.paulilaws.specs.Pauli.{Pauli, coefficient, ys, fits, hermitian}
use Rattle.amplitudelaws.specs.Binary.{in_unit}
use Rattle.amplitudelaws.specs.Rows.{width_row, hermitian_row, unit_row, rotation_kernel_row, pivot_mask, pivot_row, measurement_row, promoted_width_row, room_row}
use Rattle.amplitudelaws.specs.State.{point, room_for, room}
use Rattle.amplitudelaws.specs.Step.{width_after}
use Rattle.framelaws.specs.Caller.{service_within, service, emulator}
use Rattle.framelaws.specs.Memory.{Memory, memory_of}
use Rattle.framelaws.specs.Rows.{step_row, rotation_step_row, promotion_step_row, projection_step_row}
use Rattle.framelaws.specs.Survey.{Survey, mixed_amplitudes, surveyed, survey_from, survey}
use Rattle.runlaws.proofs.Agreement.{on_the_board}
use Rattle.runlaws.specs.Bytes.{number, float_at, pauli_at}
use Rattle.runlaws.specs.Field.{body_length, is_whole, field_at}
use Rattle.runlaws.specs.Frame.{Agreeing}
use Rattle.runlaws.specs.Reading.{decoded, unless, judged_by, judged, read_field, read_at}
use Rattle.runlaws.specs.Run.{mapped, ended, follow, walk, start_width, begun, run_of}
use Rattle.runlaws.specs.Calls.{CheckedRun, survey_of, on_run, memory_row, checking, checking_with_start, running, carrying}
use Rattle.runlaws.specs.TwoCallers.{Agreed}
use Rattle.examples.specs.Runs as bytes
use Rattle.examples.specs.Runs.{run_from, promotion}
use Rattle.examples.specs.Instance.{run, here, runs_here}

-- ---- what is refused

-- no steps; a promotion whose c is a NaN; a field that no run has
abbrev nothing : List ℕ → List ℕ
nothing rest = rest

abbrev nan_promotion : List ℕ → List ℕ
nan_promotion rest = 3 ∷ 16 ∷ 0 ∷ 0 ∷ 0 ∷ 0 ∷ 0 ∷ 0 ∷ 0 ∷ 248 ∷ 127 ∷ 0 ∷ 0 ∷ 0 ∷ 0 ∷ 0 ∷ 0 ∷ 240 ∷ 63 ∷ rest

abbrev wrong : List ℕ → List ℕ
wrong rest = 9 ∷ 0 ∷ 0 ∷ rest

-- a run that stays at the width n, and one that is a qubit wider behind its one step
abbrev plain : ℕ → Answer Survey
plain n = accepted (record { width = n; steps = 0; greatest = n; scratch = 0 })

abbrev promoted : ℕ → Answer Survey
promoted n = accepted (record { width = suc n; steps = 1; greatest = suc n; scratch = 0 })

-- what checking answers of a run, to the service and to the emulator
record Answers (s : List ℕ) (of_service ofEmulator : Answer Survey) : Type 0 where
  served : checking service s ≡ of_service
  emulated : checking emulator s ≡ ofEmulator

record Emulator : Type 0 where
  -- a start over 6, and over 12, up to the greatest byte
  start_6 : Answers (run_from 6 nothing) (plain 6) (plain 6)
  start_7 : Answers (run_from 7 nothing) (plain 7) (refused_at 21 0)
  start_12 : Answers (run_from 12 nothing) (plain 12) (refused_at 21 0)
  start_13 : Answers (run_from 13 nothing) (refused_at 14 0) (refused_at 21 0)
  start_255 : Answers (run_from 255 nothing) (refused_at 14 0) (refused_at 21 0)
  -- a first field that is wrong in tag or length, or cut, is 14 whatever its width
  wrong_tag : Answers (2 ∷ 1 ∷ 0 ∷ 7 ∷ 6 ∷ 0 ∷ 0 ∷ []) (refused_at 14 0) (refused_at 14 0)
  wrong_length : Answers (1 ∷ 2 ∷ 0 ∷ 7 ∷ 7 ∷ 6 ∷ 0 ∷ 0 ∷ []) (refused_at 14 0) (refused_at 14 0)
  cut : Answers (1 ∷ 1 ∷ 0 ∷ []) (refused_at 14 0) (refused_at 14 0)
  -- a promotion at the greatest width, with the tag's offset; a NaN in it comes before
  at_5 : Answers (run_from 5 promotion) (promoted 5) (promoted 5)
  at_6 : Answers (run_from 6 promotion) (promoted 6) (refused_at 21 4)
  at_12 : Answers (run_from 12 promotion) (refused_at 15 4) (refused_at 21 0)
  twice : checking emulator (run_from 5 (λ rest. promotion (promotion rest))) ≡ refused_at 21 23
  nan_at_6 : Answers (run_from 6 nan_promotion) (refused_at 8 4) (refused_at 8 4)
  -- in file order
  then_wrong : Answers (run_from 6 (λ rest. promotion (wrong rest))) (refused_at 14 23) (refused_at 21 4)
  wrong_then : Answers (run_from 6 (λ rest. wrong (promotion rest))) (refused_at 14 4) (refused_at 14 4)
  -- it is who calls, and not the limit: the service's rows under a limit of 6
  within_start : checking (service_within 6) (run_from 7 nothing) ≡ refused_at 14 0
  within_promotion : checking (service_within 6) (run_from 6 promotion) ≡ refused_at 15 4
  -- running and carrying are refused so too, and leave whatever was lent as it was
  runs_7 : (m : Memory) → running emulator (run_from 7 nothing) m ≡ record { answer = refused_at 21 0; lent = m }
  runs_at_6 : (m : Memory) → running emulator (run_from 6 promotion) m ≡ record { answer = refused_at 21 4; lent = m }
  carries_at_6 : (Q : Pauli) (out : List ℕ) → carrying emulator (run_from 6 promotion) Q out ≡ record { answer = refused_at 21 4; lent = out }

emulator_rows : Emulator
unfolding checking running carrying on_run mapped survey_of survey survey_from surveyed mixed_amplitudes run_of begun start_width walk follow ended read_at read_field judged judged_by unless decoded field_at is_whole body_length number float_at width_after step_row promotion_step_row unit_row promoted_width_row in_unit row first le neg of_bits
emulator_rows = record {
  start_6 = record { served = refl; emulated = refl };
  start_7 = record { served = refl; emulated = refl };
  start_12 = record { served = refl; emulated = refl };
  start_13 = record { served = refl; emulated = refl };
  start_255 = record { served = refl; emulated = refl };
  wrong_tag = record { served = refl; emulated = refl };
  wrong_length = record { served = refl; emulated = refl };
  cut = record { served = refl; emulated = refl };
  at_5 = record { served = refl; emulated = refl };
  at_6 = record { served = refl; emulated = refl };
  at_12 = record { served = refl; emulated = refl };
  twice = refl;
  nan_at_6 = record { served = refl; emulated = refl };
  then_wrong = record { served = refl; emulated = refl };
  wrong_then = record { served = refl; emulated = refl };
  within_start = refl;
  within_promotion = refl;
  runs_7 = λ m. refl;
  runs_at_6 = λ m. refl;
  carries_at_6 = λ Q out. refl;
}

-- ---- what both accept, on buffers that differ in all that plays no part

-- the frame theorem's closed run, of two qubits at most; the board begins as `here` does, and has other numbers in the rest of its 64 amplitudes and in its scratch
abbrev board : Memory
board =
    memory_of (bytes.one ∷ bytes.zero ∷ replicate 62 bytes.one) (bytes.zero ∷ bytes.zero ∷ replicate 62 bytes.one) (replicate 32 bytes.one) (replicate 32 bytes.one)

abbrev checked : CheckedRun
checked = record { start = 1; survey = record { width = 1; steps = 9; greatest = 2; scratch = 2 } }

checks : checking_with_start service run ≡ accepted checked
unfolding checking_with_start mapped survey_of survey survey_from surveyed mixed_amplitudes run_of begun start_width walk follow ended read_at read_field judged judged_by unless decoded field_at is_whole body_length number float_at pauli_at fits hermitian coefficient ys width_after step_row rotation_step_row promotion_step_row projection_step_row rotation_kernel_row measurement_row hermitian_row width_row unit_row promoted_width_row pivot_row pivot_mask in_unit row first answered left le neg of_bits digit overlap parity ones ones_in
checks = refl

agreeing : Agreeing 1 here.state board.state
unfolding point
agreeing = record { at = at }
  where
    at : (b : ℕ) → b < 2 ^ 1 → point here.state b ≡ point board.state b
    at zero h = refl
    at (suc zero) h = refl
    at (suc (suc b)) h = absurd (omega arith)

pub met : Agreed service emulator run here board
unfolding is_accepted
met = on_the_board run here board checked (ap is_accepted runs_here) checks (lit≤ tt) (lit≤ tt, lit≤ tt) (lit≤ tt, lit≤ tt) agreeing

-- a run that reaches six qubits: all 64 amplitudes are compared behind it. Past the first 32 the service has zeros, and 38 of them, the board ones.
abbrev lower : List Float
lower = replicate 32 bytes.one

abbrev full : Memory
full = memory_of (lower ++ replicate 38 bytes.zero) (lower ++ replicate 38 bytes.zero) [] []

abbrev full_board : Memory
full_board = memory_of (lower ++ replicate 32 bytes.one) (lower ++ replicate 32 bytes.one) (replicate 32 bytes.one) (replicate 32 bytes.one)

abbrev checked_at6 : CheckedRun
checked_at6 = record { start = 5; survey = record { width = 6; steps = 1; greatest = 6; scratch = 0 } }

checks_at_6 : checking_with_start service (run_from 5 promotion) ≡ accepted checked_at6
unfolding checking_with_start mapped survey_of survey survey_from surveyed mixed_amplitudes run_of begun start_width walk follow ended read_at read_field judged judged_by unless decoded field_at is_whole body_length number float_at width_after step_row promotion_step_row unit_row promoted_width_row in_unit row first le neg of_bits
checks_at_6 = refl

runs_to_6 : is_accepted (running service (run_from 5 promotion) full).answer ≡ true
unfolding is_accepted running on_run memory_row room_for room room_row answered mapped survey_of survey survey_from surveyed mixed_amplitudes run_of begun start_width walk follow ended read_at read_field judged judged_by unless decoded field_at is_whole body_length number float_at width_after step_row promotion_step_row unit_row promoted_width_row in_unit row first le neg of_bits
runs_to_6 = refl

agreeing_at_5 : Agreeing 5 full.state full_board.state
unfolding point
agreeing_at_5 = record { at = at }
  where
    same : (b : ℕ) → b < 2 ^ 5 → get_or (lower ++ replicate 38 bytes.zero) b nan ≡ get_or (lower ++ replicate 32 bytes.one) b nan
    same b h = get_or-append lower (replicate 38 bytes.zero) nan b h ∙ sym (get_or-append lower (replicate 32 bytes.one) nan b h)

    at : (b : ℕ) → b < 2 ^ 5 → point full.state b ≡ point full_board.state b
    at b h = λ i. record { re = same b h i; im = same b h i }

met_at_6 : Agreed service emulator (run_from 5 promotion) full full_board
met_at_6 = on_the_board (run_from 5 promotion) full full_board checked_at6 runs_to_6 checks_at_6 (lit≤ tt) (lit≤ tt, lit≤ tt) (lit≤ tt, lit≤ tt) agreeing_at_5
