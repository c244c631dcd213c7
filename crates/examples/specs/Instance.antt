-- The frame theorem's hypotheses can be met: one closed run through every kind of step, carried past Y, on two sets of buffers that differ wherever
-- the theorem lets them.
use Rattle.std.specs.Prelude.{◌≡◌, refl, true, not, List, [], ◌∷◌, ℕ, zero, suc, ◌^◌, ◌<◌, T, Float, length, take}
use Rattle.std.proofs.Common.{sym, ap, ◌∙◌, subst, arith}
use Rattle.std.specs.Int.Count.{ones, ones_in}
use Rattle.std.specs.Float.Ieee.{of_bits, neg, add, sub, mul, le}
use Rattle.answers.specs.Answer.{is_accepted}
use Rattle.answers.specs.Answer.Answer.{accepted}
use Rattle.answers.specs.Row.{row, first, answered, left, accepted_same}
use Rattle.bitlaws.specs.Digit.{digit}
use Rattle.bitlaws.specs.Opening.{open_bit, drop_bit}
use Rattle.bitlaws.specs.Parity.{overlap, parity}
use Rattle.bitlaws.specs.Source.{source}
use Rattle.floatlaws.specs.Same.{is_zero}
use Rattle.paulilaws.specs.Pauli.{Pauli, product, anti, fits, hermitian, coefficient, ys}
use Rattle.paulilaws.specs.Frame.{raised, dropped}
use Rattle.statelaws.specs.Over.{over}
use Rattle.amplitudelaws.specs.Arithmetic.{power, times, conjugate, times_power, direction, negated, scale, scaled, mixed}
use Rattle.amplitudelaws.specs.Binary.{in_unit}
use Rattle.amplitudelaws.specs.Rotation.{rotation_coefficient, rotated_alone, rotated_with, rotated_by, rotated}
use Rattle.amplitudelaws.specs.Promotion.{raised as raisedQubit, promoted}
use Rattle.amplitudelaws.specs.Projection.{minus, projection_coefficient, remaining_by, remaining, projected}
use Rattle.amplitudelaws.specs.Correction.{corrected}
use Rattle.amplitudelaws.specs.Rows.{correction_row, rotation_kernel_row, measurement_row, hermitian_row, width_row, unit_row, promoted_width_row, pivot_row, pivot_mask, room_row}
use Rattle.amplitudelaws.specs.State.{State, point, written, room_for, room}
use Rattle.amplitudelaws.specs.Steps as leaves
use Rattle.framelaws.specs.Caller.{service}
use Rattle.framelaws.specs.Alike.{Finite}
use Rattle.framelaws.specs.Allowed.{FiniteState, FiniteSteps}
use Rattle.amplitudelaws.specs.Step.{Step, width_after}
use Rattle.amplitudelaws.specs.Step.Step.{rotation, promotion, projection, correction, quarter_turn}
use Rattle.framelaws.specs.PassRow.{placed_row}
use Rattle.framelaws.specs.Rows.{step_row, rotation_step_row, promotion_step_row, projection_step_row}
use Rattle.framelaws.specs.Carrying.{flipped, deciding, meets, absorbed, widened, turned_by, turned_past, carried_step, passed, carried_steps, end_pauli}
use Rattle.framelaws.specs.Survey.{mixed_amplitudes, surveyed, survey_from, survey}
use Rattle.framelaws.specs.Memory.{Memory, memory_of, stepped, ran}
use Rattle.runlaws.specs.Bytes.{number, float_at, pauli_at}
use Rattle.runlaws.specs.Field.{body_length, is_whole, field_at}
use Rattle.runlaws.specs.Reading.{decoded, unless, judged_by, judged, read_field, read_at}
use Rattle.runlaws.specs.Run.{Run, mapped, ended, follow, walk, start_width, begun, run_of}
use Rattle.runlaws.specs.Flags.{field_size, flag_at, flagged}
use Rattle.runlaws.specs.Calls.{Ending, Outcome, on_run, survey_of, memory_row, running, carrying_row, carried_run, carrying}
use Rattle.runlaws.specs.Frame.{SameNumbers, Agreeing, FiniteRun, fired, sent, Frame}
use Rattle.runlaws.proofs.Theorem.{frame_at_the_service}
use Rattle.examples.specs.Runs as bytes
use Rattle.examples.specs.Runs.{one}

abbrev pub Y : Pauli
Y = record { n = 1; k = 1; x = 1; z = 1 }

-- Rotations by Z, X and Y, the three kinds; a qubit promoted; a quarter turn of Z on qubit 0 and X on qubit 1, with X and Z parts, with which Y on qubit 0
-- anticommutes: the formulas need finite amplitudes there. Then a projection of Y on qubit 0, with an X part, and one of Z; a qubit promoted again; a correction X. The
-- signs and branches are the arguments.
abbrev pub steps : ℕ → ℕ → ℕ → ℕ → ℕ → List ℕ
steps z x y mixing diagonal =
    bytes.run_from 1
    (λ rest.
    bytes.rotation 0 0 1 z
    (bytes.rotation 0 1 0 x
    (bytes.rotation 1 1 1 y
    (bytes.promotion
    (bytes.quarter_turn 0 2 1
    (bytes.projection 1 1 1 0 mixing
    (bytes.projection 0 0 1 0 diagonal
    (bytes.promotion (bytes.correction 0 1 0 rest)))))))))

abbrev pub run : List ℕ
run = steps 0 0 0 0 1

-- basis 0, with room for the two qubits of the greatest width, and other entries and another scratch
abbrev pub here : Memory
here = memory_of (one ∷ bytes.zero ∷ bytes.zero ∷ bytes.zero ∷ []) (bytes.zero ∷ bytes.zero ∷ bytes.zero ∷ bytes.zero ∷ []) (bytes.zero ∷ bytes.zero ∷ []) (bytes.zero ∷ bytes.zero ∷ [])

abbrev pub there : Memory
there = memory_of (one ∷ bytes.zero ∷ one ∷ one ∷ one ∷ []) (bytes.zero ∷ bytes.zero ∷ one ∷ one ∷ []) (one ∷ one ∷ []) (one ∷ one ∷ one ∷ [])

abbrev ending : Ending
ending = record { width = 1; steps = 9 }

-- the carried run: Y flips the signs of Z's and X's rotations; behind the quarter turn it is -XX, and flips both branches
abbrev carried : List ℕ
carried = steps 1 1 0 1 0

abbrev pub end : Pauli
end = record { n = 1; k = 1; x = 0; z = 0 }

-- ---- the hypotheses

-- lent to carrying: other bytes, longer by one than the run
abbrev pub output : List ℕ
output = bytes.output_for run

-- the answer, and what is left in the output, whole
pub outcome : carrying service run Y output ≡ record { answer = accepted end; lent = bytes.filled_with carried }
unfolding carrying on_run carrying_row placed_row carried_run run_of begun start_width mapped walk follow ended read_at read_field judged judged_by unless decoded field_at is_whole body_length number float_at pauli_at fits hermitian coefficient ys flagged flag_at field_size carried_steps carried_step passed flipped anti product deciding meets absorbed widened turned_by turned_past end_pauli raised dropped drop_bit width_after step_row rotation_step_row promotion_step_row projection_step_row rotation_kernel_row measurement_row hermitian_row width_row unit_row promoted_width_row pivot_row pivot_mask in_unit row first answered left le neg of_bits digit overlap parity ones ones_in
outcome = refl

pub carries : (carrying service run Y output).answer ≡ accepted end
carries = ap (λ (o : Outcome Pauli (List ℕ)). o.answer) outcome

pub sent_is : sent service run Y output ≡ carried
sent_is = ap (λ (o : Outcome Pauli (List ℕ)). take (length run) o.lent) outcome

pub runs_here : (running service run here).answer ≡ accepted ending
unfolding running on_run memory_row survey_of survey survey_from surveyed mixed_amplitudes room_for room room_row run_of begun start_width mapped walk follow ended read_at read_field judged judged_by unless decoded field_at is_whole body_length number float_at pauli_at fits hermitian coefficient ys width_after step_row rotation_step_row promotion_step_row projection_step_row rotation_kernel_row measurement_row hermitian_row width_row unit_row promoted_width_row pivot_row pivot_mask in_unit row first answered left le neg of_bits digit overlap parity ones ones_in
runs_here = refl

runs_there : (running service run there).answer ≡ accepted ending
unfolding running on_run memory_row survey_of survey survey_from surveyed mixed_amplitudes room_for room room_row run_of begun start_width mapped walk follow ended read_at read_field judged judged_by unless decoded field_at is_whole body_length number float_at pauli_at fits hermitian coefficient ys width_after step_row rotation_step_row promotion_step_row projection_step_row rotation_kernel_row measurement_row hermitian_row width_row unit_row promoted_width_row pivot_row pivot_mask in_unit row first answered left le neg of_bits digit overlap parity ones ones_in
runs_there = refl

pub agreeing : Agreeing 1 here.state there.state
unfolding point
agreeing = record { at = at }
  where
    at : (b : ℕ) → b < 2 ^ 1 → point here.state b ≡ point there.state b
    at zero h = refl
    at (suc zero) h = refl
    at (suc (suc b)) h = absurd (omega arith)

-- ---- the premise on amplitudes

-- the carried run's steps
abbrev pub carried_list : List (Step Float)
carried_list =
    rotation (record { n = 1; k = 0; x = 0; z = 1 }) 1 bytes.zero one
    ∷ rotation (record { n = 1; k = 0; x = 1; z = 0 }) 1 bytes.zero one
    ∷ rotation (record { n = 1; k = 1; x = 1; z = 1 }) 0 bytes.zero one
    ∷ promotion bytes.zero one
    ∷ quarter_turn (record { n = 2; k = 0; x = 2; z = 1 })
    ∷ projection (record { n = 2; k = 1; x = 1; z = 1 }) 0 1 one
    ∷ projection (record { n = 1; k = 0; x = 0; z = 1 }) 0 0 one
    ∷ promotion bytes.zero one
    ∷ correction (record { n = 1; k = 0; x = 1; z = 0 })
    ∷ []

pub reads : run_of service carried ≡ accepted (record { width = 1; steps = carried_list })
unfolding run_of begun start_width mapped walk follow ended read_at read_field judged judged_by unless decoded field_at is_whole body_length number float_at pauli_at fits hermitian coefficient ys width_after step_row rotation_step_row promotion_step_row projection_step_row rotation_kernel_row measurement_row hermitian_row width_row unit_row promoted_width_row pivot_row pivot_mask in_unit row first answered left le neg of_bits digit overlap parity ones ones_in
reads = refl

pub none : (S : State) → Finite (point S 0) → FiniteState 0 S
none S f = record { at = at }
  where
    at : (b : ℕ) → b < 2 ^ 0 → Finite (point S b)
    at zero h = f
    at (suc b) h = absurd (omega arith)

pub single : (S : State) → Finite (point S 0) → Finite (point S 1) → FiniteState 1 S
single S f g = record { at = at }
  where
    at : (b : ℕ) → b < 2 ^ 1 → Finite (point S b)
    at zero h = f
    at (suc zero) h = g
    at (suc (suc b)) h = absurd (omega arith)

pub double : (S : State) → Finite (point S 0) → Finite (point S 1) → Finite (point S 2) → Finite (point S 3) → FiniteState 2 S
double S f g h i = record { at = at }
  where
    at : (b : ℕ) → b < 2 ^ 2 → Finite (point S b)
    at zero l = f
    at (suc zero) l = g
    at (suc (suc zero)) l = h
    at (suc (suc (suc zero))) l = i
    at (suc (suc (suc (suc b)))) l = absurd (omega arith)

finite_steps : FiniteSteps 1 carried_list there
unfolding stepped width_after leaves.rotation leaves.promotion leaves.projection leaves.correction leaves.scratch_after leaves.scratch_by written point over rotated rotated_by rotated_alone rotated_with rotation_coefficient promoted raisedQubit projected remaining remaining_by projection_coefficient minus source corrected times_power power times conjugate direction negated scale scaled mixed open_bit overlap parity ones ones_in digit neg add sub mul of_bits
finite_steps = (single _ (tt, tt) (tt, tt), (single _ (tt, tt) (tt, tt), (single _ (tt, tt) (tt, tt), (single _ (tt, tt) (tt, tt), (double _ (tt, tt) (tt, tt) (tt, tt) (tt, tt), (double _ (tt, tt) (tt, tt) (tt, tt) (tt, tt), (single _ (tt, tt) (tt, tt), (none _ (tt, tt), (single _ (tt, tt) (tt, tt), single _ (tt, tt) (tt, tt))))))))))

finite_run : FiniteRun service carried there
finite_run R e = subst (λ (r : Run). FiniteSteps r.width r.steps there) (accepted_same (sym reads ∙ e)) finite_steps

-- ---- what comes of them

met : Frame service run output Y here there
unfolding is_accepted
met =
    frame_at_the_service.accepts run output Y here there
    (record { here = ap is_accepted runs_here; there = ap is_accepted runs_there; carries = ap is_accepted carries; start = agreeing })

-- the last width is that of the end Pauli, which is answered
ends_at : met.ending.width ≡ 1
ends_at = sym met.last ∙ ap (λ (P : Pauli). P.n) (accepted_same (sym met.ends ∙ carries))

-- the same number in both parts of both amplitudes
numbers : (b : ℕ) → b < 2 ^ 1
    → SameNumbers (point (running service run (fired Y here)).lent.state b) (point (fired met.end (running service (sent service run Y output) there).lent).state b)
numbers b h = met.same (subst (λ (t : List ℕ). FiniteRun service t there) (sym sent_is) finite_run) b (rw ends_at h)

-- and not all of them are zeros
not_all_zeros : T (not (is_zero (point (running service run (fired Y here)).lent.state 0).re))
unfolding running on_run memory_row survey_of survey survey_from surveyed mixed_amplitudes room_for room room_row run_of begun start_width mapped walk follow ended read_at read_field judged judged_by unless decoded field_at is_whole body_length number float_at pauli_at fits hermitian coefficient ys width_after step_row rotation_step_row promotion_step_row projection_step_row rotation_kernel_row measurement_row hermitian_row width_row unit_row promoted_width_row pivot_row pivot_mask in_unit row first answered left le neg of_bits digit overlap parity ones ones_in stepped leaves.rotation leaves.promotion leaves.projection leaves.correction leaves.scratch_after leaves.scratch_by written point over rotated rotated_by rotated_alone rotated_with rotation_coefficient promoted raisedQubit projected remaining remaining_by projection_coefficient minus source corrected times_power power times conjugate direction negated scale scaled mixed open_bit add sub mul ran fired correction_row
not_all_zeros = tt

-- ---- demand 3's last sentence, of any run, output, Pauli and buffers

module _ (s out : List ℕ) (Q : Pauli) (m u : Memory) (here : is_accepted (running service s m).answer ≡ true) (there : is_accepted (running service s u).answer ≡ true)
    (carries : is_accepted (carrying service s Q out).answer ≡ true) (start : Agreeing Q.n m.state u.state) where
  abbrev of_any : Frame service s out Q m u
  of_any = frame_at_the_service.accepts s out Q m u (record { here = here; there = there; carries = carries; start = start })

  same_state : FiniteRun service (sent service s Q out) u → (b : ℕ) → b < 2 ^ of_any.ending.width
      → SameNumbers (point (running service s (fired Q m)).lent.state b) (point (fired of_any.end (running service (sent service s Q out) u).lent).state b)
  same_state = of_any.same
