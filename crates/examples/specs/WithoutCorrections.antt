-- Runs without corrections, by example, each worked by hand: products in their order, corrections before and behind projections and quarter turns, nothing but corrections
-- and none, outputs of exactly the folded length and one short, both callers. And closed instances of every claim of the theorem on them, on a run with every kind of step and
-- corrections before, between and behind.
use Rattle.std.specs.Prelude.{◌≡◌, refl, true, false, not, List, [], ◌∷◌, ◌++◌, ◌⊎◌, ℕ, ◌+◌, ◌*◌, ◌^◌, ◌≤◌, ◌<◌, T, Float, length, replicate, take, drop}
use Rattle.std.proofs.Common.{sym, ap, ap₂, ◌∙◌, subst, arith, lit≤, take_at}
use Rattle.std.proofs.Math.Option.{some, some-injective}
use Rattle.std.specs.Int.Count.{ones, ones_in}
use Rattle.std.specs.Float.Ieee.{of_bits, neg, add, sub, mul, le}
use Rattle.answers.specs.Answer.{is_accepted}
use Rattle.answers.specs.Answer.Answer.{accepted, refused, refused_at}
use Rattle.answers.specs.Row.{row, first, answered, left, accepted_same}
use Rattle.bitlaws.specs.Digit.{digit}
use Rattle.bitlaws.specs.Opening.{open_bit, drop_bit}
use Rattle.bitlaws.specs.Parity.{overlap, parity}
use Rattle.bitlaws.specs.Source.{source}
use Rattle.floatlaws.specs.Same.{is_zero}
use Rattle.paulilaws.specs.Pauli.{Pauli, product, identity, anti, fits, hermitian, coefficient, ys}
use Rattle.paulilaws.specs.Frame.{raised, dropped}
use Rattle.statelaws.specs.Over.{over}
use Rattle.amplitudelaws.specs.Arithmetic.{power, times, conjugate, times_power, direction, negated, scale, scaled, mixed}
use Rattle.amplitudelaws.specs.Binary.{in_unit}
use Rattle.amplitudelaws.specs.Rotation.{rotation_coefficient, rotated_alone, rotated_with, rotated_by, rotated}
use Rattle.amplitudelaws.specs.Promotion.{raised as raisedQubit, promoted}
use Rattle.amplitudelaws.specs.Projection.{minus, projection_coefficient, remaining_by, remaining, projected}
use Rattle.amplitudelaws.specs.Correction.{corrected}
use Rattle.amplitudelaws.specs.Rows.{correction_row, rotation_kernel_row, measurement_row, hermitian_row, width_row, unit_row, promoted_width_row, pivot_row, pivot_mask, room_row}
use Rattle.amplitudelaws.specs.State.{point, written, room_for, room}
use Rattle.amplitudelaws.specs.Steps as leaves
use Rattle.amplitudelaws.specs.Step.{Step, width_after}
use Rattle.amplitudelaws.specs.Step.Step.{rotation, promotion, projection, correction, quarter_turn}
use Rattle.framelaws.specs.Caller.{Caller, service, emulator}
use Rattle.framelaws.specs.Allowed.{FiniteSteps}
use Rattle.framelaws.specs.Carrying.{flipped, deciding, meets, absorbed, widened, turned_by, turned_past, carried_step, passed}
use Rattle.framelaws.specs.Folding.{fires, folded_by, folded_past, folded_end, one_fired, corrections, Bare}
use Rattle.framelaws.specs.Memory.{Memory, stepped, ran}
use Rattle.framelaws.specs.Rows.{step_row, rotation_step_row, promotion_step_row, projection_step_row}
use Rattle.framelaws.specs.Survey.{Survey, mixed_amplitudes, surveyed, survey_from, survey}
use Rattle.runlaws.specs.Bytes.{byte_at, number, float_at, pauli_at}
use Rattle.runlaws.specs.Calls.{Outcome, Folding, on_run, survey_of, checking, memory_row, running, folding_row, carrying, folding}
use Rattle.runlaws.specs.Field.{body_length, is_whole, field_at}
use Rattle.runlaws.specs.Flags.{field_size, flag_at, FlagIn}
use Rattle.runlaws.specs.FoldedRun.{kept_of, kept_fields, kept_run, left_bytes, folded_fields, folded_run}
use Rattle.runlaws.proofs.Folding.{without_corrections_at_the_service, without_corrections_at_the_emulator}
use Rattle.runlaws.specs.Frame.{SameNumbers, Agreeing, FiniteRun, fired, sent}
use Rattle.runlaws.specs.NumberBytes.{bytes_of}
use Rattle.runlaws.specs.PauliBytes.{pauli_bytes, correction_field}
use Rattle.runlaws.specs.Reading.{decoded, unless, judged_by, judged, read_field, read_at}
use Rattle.runlaws.specs.Run.{Run, mapped, ended, follow, walk, start_width, begun, run_of}
use Rattle.runlaws.specs.WithCorrection.{behind_start}
use Rattle.runlaws.specs.WithoutCorrections.{Accepted, Shorter, Folded}
use Rattle.examples.specs.Emulator.{met as shared}
use Rattle.examples.specs.Instance as Instance
use Rattle.examples.specs.Instance.{here, there, agreeing, none, single, double}
use Rattle.examples.specs.Runs as bytes
use Rattle.examples.specs.Runs.{run_from}
use Rattle.examples.specs.Starred.{phase}
use Rattle.examples.specs.StartForEnd.{one, two, alone}

-- ---- by hand

-- an output of so many other bytes
abbrev lent : ℕ → List ℕ
lent n = replicate n 238

-- the end Pauli, the bytes t, and behind them the rest of an output that was n bytes longer
abbrev gives : Pauli → List ℕ → ℕ → Outcome Folding (List ℕ)
gives end t n = record { answer = accepted (record { end = end; size = length t }); lent = t ++ lent n }

abbrev keeps : ℕ → ℕ → Outcome Folding (List ℕ)
keeps row n = record { answer = refused row; lent = lent n }

-- X and then Z, and the other way round
abbrev x_z : List ℕ
x_z = run_from 1 (λ rest. bytes.correction 0 1 0 (bytes.correction 0 0 1 rest))

abbrev z_x : List ℕ
z_x = run_from 1 (λ rest. bytes.correction 0 0 1 (bytes.correction 0 1 0 rest))

-- a correction before a projection of X, and behind it, on no qubits
abbrev before : ℕ → ℕ → ℕ → List ℕ
before x z branch = run_from 1 (λ rest. bytes.correction 0 x z (bytes.projection 0 1 0 0 branch rest))

abbrev measured : ℕ → List ℕ
measured branch = run_from 1 (bytes.projection 0 1 0 0 branch)

abbrev behind : List ℕ
behind = run_from 1 (λ rest. bytes.projection 0 1 0 0 1 (bytes.correction 3 0 0 rest))

-- X, a quarter turn of Z, X again
abbrev turned : List ℕ
turned = run_from 1 (λ rest. bytes.correction 0 1 0 (bytes.quarter_turn 0 0 1 (bytes.correction 0 1 0 rest)))

-- X on the first qubit, a qubit promoted, Z on both
abbrev grown : List ℕ
grown = run_from 1 (λ rest. bytes.correction 0 1 0 (bytes.promotion (bytes.correction 0 0 3 rest)))

record ByHand (caller : Caller) : Type 0 where
  -- the second acts second: Z X is -XZ, X Z is XZ; start and end are left
  z_times_x : folding caller x_z (lent 7) ≡ gives (one 2 1 1) (alone 1) 0
  x_times_z : folding caller z_x (lent 9) ≡ gives (one 0 1 1) (alone 1) 2
  -- an output of one byte less, though, is refused, and stays
  one_short : folding caller x_z (lent 6) ≡ keeps 16 6
  -- a run without corrections needs its own length
  nothing : folding caller (alone 0) (lent 7) ≡ gives (identity 0) (alone 0) 0
  bare : folding caller (measured 1) (lent 37) ≡ gives (identity 0) (measured 1) 0
  bare_short : folding caller (measured 1) (lent 36) ≡ keeps 16 36
  -- Z flips the branch, and leaves 1; X does not, and leaves the branch's sign; behind the projection a phase alone
  z_before : folding caller (before 0 1 1) (lent 38) ≡ gives (phase 0) (measured 0) 1
  x_before : folding caller (before 1 0 1) (lent 38) ≡ gives (phase 2) (measured 1) 1
  i_behind : folding caller behind (lent 38) ≡ gives (phase 3) (measured 1) 1
  -- X is turned into Y, and X Y is iZ; the quarter turn stays
  x_turned : folding caller turned (lent 27) ≡ gives (one 1 0 1) (run_from 1 (bytes.quarter_turn 0 0 1)) 0
  -- ZZ X is -X ZZ: the promotion stays
  zz_grown : folding caller grown (lent 26) ≡ gives (two 2 1 3) (run_from 1 bytes.promotion) 0
  -- the run's own rows before 16
  run_first : folding caller [] [] ≡ record { answer = refused_at 14 0; lent = [] }

by_hand : ByHand service
unfolding folding on_run folding_row folded_run folded_fields left_bytes kept_of flag_at field_size folded_end folded_past folded_by fires carried_step passed flipped anti product deciding meets absorbed widened turned_by turned_past raised dropped drop_bit run_of begun start_width mapped walk follow ended read_at read_field judged judged_by unless decoded field_at is_whole body_length number float_at pauli_at fits hermitian coefficient ys width_after step_row rotation_step_row promotion_step_row projection_step_row rotation_kernel_row measurement_row hermitian_row width_row unit_row promoted_width_row pivot_row pivot_mask in_unit row first answered left le neg of_bits digit overlap parity ones ones_in
by_hand = record {
  z_times_x = refl;
  x_times_z = refl;
  one_short = refl;
  nothing = refl;
  bare = refl;
  bare_short = refl;
  z_before = refl;
  x_before = refl;
  i_behind = refl;
  x_turned = refl;
  zz_grown = refl;
  run_first = refl;
}

by_hand_emulated : ByHand emulator
unfolding folding on_run folding_row folded_run folded_fields left_bytes kept_of flag_at field_size folded_end folded_past folded_by fires carried_step passed flipped anti product deciding meets absorbed widened turned_by turned_past raised dropped drop_bit run_of begun start_width mapped walk follow ended read_at read_field judged judged_by unless decoded field_at is_whole body_length number float_at pauli_at fits hermitian coefficient ys width_after step_row rotation_step_row promotion_step_row projection_step_row rotation_kernel_row measurement_row hermitian_row width_row unit_row promoted_width_row pivot_row pivot_mask in_unit row first answered left le neg of_bits digit overlap parity ones ones_in
by_hand_emulated = record {
  z_times_x = refl;
  x_times_z = refl;
  one_short = refl;
  nothing = refl;
  bare = refl;
  bare_short = refl;
  z_before = refl;
  x_before = refl;
  i_behind = refl;
  x_turned = refl;
  zz_grown = refl;
  run_first = refl;
}

-- ---- a run with every kind of step

-- The frame theorem's run (Instance), of the signs and branches that are the arguments, with corrections in three places: Y right behind the start, then one in the middle, on two
-- qubits, and X right before the end. `first`, `middle` and `last` are what stands there.
abbrev through : (List ℕ → List ℕ) → (List ℕ → List ℕ) → (List ℕ → List ℕ) → ℕ → ℕ → ℕ → ℕ → ℕ → List ℕ
through first middle last z x y mixing diagonal =
    run_from 1
    (λ rest.
    first
    (bytes.rotation 0 0 1 z
    (bytes.rotation 0 1 0 x
    (bytes.rotation 1 1 1 y
    (bytes.promotion
    (bytes.quarter_turn 0 2 1
    (middle
    (bytes.projection 1 1 1 0 mixing
    (bytes.projection 0 0 1 0 diagonal
    (bytes.promotion (last rest)))))))))))

abbrev run : List ℕ
run = through (bytes.correction 1 1 1) (bytes.correction 0 0 2) (bytes.correction 0 1 0) 0 0 0 0 1

-- Y flips the signs of Z's and X's rotations; behind the quarter turn it is -XX, with Z behind that on qubit 1 X and XZ, which flips Y's branch and becomes -Y on the qubit that is
-- left, which flips Z's branch and leaves -i
abbrev left_run_lem : List ℕ
left_run_lem = through (λ rest. rest) (λ rest. rest) (λ rest. rest) 1 1 0 1 0

abbrev end : Pauli
end = one 3 1 0

outcome : folding service run (lent 237) ≡ gives end left_run_lem 1
unfolding folding on_run folding_row folded_run folded_fields left_bytes kept_of flag_at field_size folded_end folded_past folded_by fires carried_step passed flipped anti product deciding meets absorbed widened turned_by turned_past raised dropped drop_bit run_of begun start_width mapped walk follow ended read_at read_field judged judged_by unless decoded field_at is_whole body_length number float_at pauli_at fits hermitian coefficient ys width_after step_row rotation_step_row promotion_step_row projection_step_row rotation_kernel_row measurement_row hermitian_row width_row unit_row promoted_width_row pivot_row pivot_mask in_unit row first answered left le neg of_bits digit overlap parity ones ones_in
outcome = refl

answers : is_accepted (folding service run (lent 237)).answer ≡ true
unfolding is_accepted
answers = ap (λ (o : Outcome Folding (List ℕ)). is_accepted o.answer) outcome

runs_here : is_accepted (running service run here).answer ≡ true
unfolding is_accepted running on_run memory_row survey_of survey survey_from surveyed mixed_amplitudes room_for room room_row run_of begun start_width mapped walk follow ended read_at read_field judged judged_by unless decoded field_at is_whole body_length number float_at pauli_at fits hermitian coefficient ys width_after step_row rotation_step_row promotion_step_row projection_step_row rotation_kernel_row measurement_row hermitian_row width_row unit_row promoted_width_row pivot_row pivot_mask in_unit row first answered left le neg of_bits digit overlap parity ones ones_in
runs_here = refl

runs_there : is_accepted (running service run there).answer ≡ true
unfolding is_accepted running on_run memory_row survey_of survey survey_from surveyed mixed_amplitudes room_for room room_row run_of begun start_width mapped walk follow ended read_at read_field judged judged_by unless decoded field_at is_whole body_length number float_at pauli_at fits hermitian coefficient ys width_after step_row rotation_step_row promotion_step_row projection_step_row rotation_kernel_row measurement_row hermitian_row width_row unit_row promoted_width_row pivot_row pivot_mask in_unit row first answered left le neg of_bits digit overlap parity ones ones_in
runs_there = refl

starts : start_width (field_at run 0) ≡ some 1
unfolding start_width field_at is_whole body_length number
starts = refl

met : Folded service run (lent 237) here there
met = without_corrections_at_the_service.accepts run (lent 237) here there (record {
  here = runs_here;
  there = runs_there;
  folds = answers;
  start = λ n e. subst (λ (n : ℕ). Agreeing n here.state there.state) (some-injective _ _ (sym starts ∙ e)) agreeing;
})

-- ---- the premise on amplitudes

abbrev left_list : List (Step Float)
left_list =
    rotation (one 0 0 1) 1 bytes.zero bytes.one
    ∷ rotation (one 0 1 0) 1 bytes.zero bytes.one
    ∷ rotation (one 1 1 1) 0 bytes.zero bytes.one
    ∷ promotion bytes.zero bytes.one
    ∷ quarter_turn (two 0 2 1)
    ∷ projection (two 1 1 1) 0 1 bytes.one
    ∷ projection (one 0 0 1) 0 0 bytes.one
    ∷ promotion bytes.zero bytes.one
    ∷ []

reads : run_of service left_run_lem ≡ accepted (record { width = 1; steps = left_list })
unfolding run_of begun start_width mapped walk follow ended read_at read_field judged judged_by unless decoded field_at is_whole body_length number float_at pauli_at fits hermitian coefficient ys width_after step_row rotation_step_row promotion_step_row projection_step_row rotation_kernel_row measurement_row hermitian_row width_row unit_row promoted_width_row pivot_row pivot_mask in_unit row first answered left le neg of_bits digit overlap parity ones ones_in
reads = refl

finite_steps : FiniteSteps 1 left_list there
unfolding width_after stepped leaves.rotation leaves.promotion leaves.projection leaves.correction leaves.scratch_after leaves.scratch_by written point over rotated rotated_by rotated_alone rotated_with rotation_coefficient promoted raisedQubit projected remaining remaining_by projection_coefficient minus source corrected times_power power times conjugate direction negated scale scaled mixed open_bit overlap parity ones ones_in digit neg add sub mul of_bits
finite_steps = (single _ (tt, tt) (tt, tt), (single _ (tt, tt) (tt, tt), (single _ (tt, tt) (tt, tt), (single _ (tt, tt) (tt, tt), (double _ (tt, tt) (tt, tt) (tt, tt) (tt, tt), (double _ (tt, tt) (tt, tt) (tt, tt) (tt, tt), (single _ (tt, tt) (tt, tt), (none _ (tt, tt), single _ (tt, tt) (tt, tt)))))))))

finite_run : FiniteRun service left_run_lem there
finite_run R e = subst (λ (r : Run). FiniteSteps r.width r.steps there) (accepted_same (sym reads ∙ e)) finite_steps

-- ---- what comes of them

-- what is answered and left is what was worked out
same_outcome : gives end left_run_lem 1 ≡ record { answer = accepted (record { end = met.end; size = length met.t }); lent = met.t ++ drop (length met.t) (lent 237) }
same_outcome = sym outcome ∙ met.folds

same_folding : ◌≡◌ {A = Folding} (record { end = end; size = 236 }) (record { end = met.end; size = length met.t })
same_folding = accepted_same (ap (λ (o : Outcome Folding (List ℕ)). o.answer) same_outcome)

t_is : met.t ≡ left_run_lem
t_is =
    let size : length met.t ≡ 236 = sym (ap (λ (f : Folding). f.size) same_folding) in
    sym (ap (λ (o : Outcome Folding (List ℕ)). take 236 o.lent) same_outcome ∙ take_at met.t (drop (length met.t) (lent 237)) 236 size)

-- the last width
ends_at : met.ending.width ≡ 1
ends_at = sym met.last ∙ sym (ap (λ (f : Folding). f.end.n) same_folding)

-- the same number in both parts of both amplitudes
numbers : (b : ℕ) → b < 2 ^ 1 → SameNumbers (point (running service run here).lent.state b) (point (fired end (running service left_run_lem there).lent).state b)
numbers b h =
    let at = met.same (subst (λ (t : List ℕ). FiniteRun service t there) (sym t_is) finite_run) b (rw ends_at h) in
    subst (λ (t : List ℕ). SameNumbers (point (running service run here).lent.state b) (point (fired end (running service t there).lent).state b)) t_is
    (subst (λ (P : Pauli). SameNumbers (point (running service run here).lent.state b) (point (fired P (running service met.t there).lent).state b))
    (sym (ap (λ (f : Folding). f.end) same_folding)) at)

-- and not all of them are zeros
not_all_zeros : T (not (is_zero (point (running service run here).lent.state 0).re))
unfolding running on_run memory_row survey_of survey survey_from surveyed mixed_amplitudes room_for room room_row run_of begun start_width mapped walk follow ended read_at read_field judged judged_by unless decoded field_at is_whole body_length number float_at pauli_at fits hermitian coefficient ys width_after step_row rotation_step_row promotion_step_row projection_step_row rotation_kernel_row measurement_row hermitian_row width_row unit_row promoted_width_row pivot_row pivot_mask in_unit row first answered left le neg of_bits digit overlap parity ones ones_in stepped leaves.rotation leaves.promotion leaves.projection leaves.correction leaves.scratch_after leaves.scratch_by written point over rotated rotated_by rotated_alone rotated_with rotation_coefficient promoted raisedQubit projected remaining remaining_by projection_coefficient minus source corrected times_power power times conjugate direction negated scale scaled mixed open_bit add sub mul ran
not_all_zeros = tt

-- ---- what is left, against the run: eight of eleven steps, sixty bytes less, and no byte another but signs and branches

-- the run's fields without its corrections, as they are
abbrev unaltered : List ℕ
unaltered = through (λ rest. rest) (λ rest. rest) (λ rest. rest) 0 0 0 0 1

abbrev run_list : List (Step Float)
run_list =
    correction (one 1 1 1)
    ∷ rotation (one 0 0 1) 0 bytes.zero bytes.one
    ∷ rotation (one 0 1 0) 0 bytes.zero bytes.one
    ∷ rotation (one 1 1 1) 0 bytes.zero bytes.one
    ∷ promotion bytes.zero bytes.one
    ∷ quarter_turn (two 0 2 1)
    ∷ correction (two 0 0 2)
    ∷ projection (two 1 1 1) 0 0 bytes.one
    ∷ projection (one 0 0 1) 0 1 bytes.one
    ∷ promotion bytes.zero bytes.one
    ∷ correction (one 0 1 0)
    ∷ []

abbrev read_run : Run
read_run = record { width = 1; steps = run_list }

run_reads : run_of service run ≡ accepted read_run
unfolding run_of begun start_width mapped walk follow ended read_at read_field judged judged_by unless decoded field_at is_whole body_length number float_at pauli_at fits hermitian coefficient ys width_after step_row rotation_step_row promotion_step_row projection_step_row rotation_kernel_row measurement_row hermitian_row width_row unit_row promoted_width_row pivot_row pivot_mask in_unit row first answered left le neg of_bits digit overlap parity ones ones_in
run_reads = refl

run_is : met.run ≡ read_run
run_is = accepted_same (sym met.reads ∙ run_reads)

left_is : met.left ≡ record { width = 1; steps = left_list }
left_is = accepted_same (sym met.read ∙ ap (run_of service) t_is ∙ reads)

kept_is : kept_run read_run run ≡ unaltered
unfolding kept_run kept_fields kept_of fires field_size
kept_is = refl

less : Shorter run left_run_lem read_run (record { width = 1; steps = left_list })
less =
    subst (λ (t : List ℕ). Shorter run t read_run (record { width = 1; steps = left_list })) t_is
    (subst (λ (r : Run). Shorter run met.t r (record { width = 1; steps = left_list })) run_is
    (subst (λ (l : Run). Shorter run met.t met.run l) left_is met.shorter))

-- each of its claims
record Less : Type 0 where
  start : 1 ≡ read_run.width
  bare : Bare left_list
  others : length left_list + corrections run_list ≡ length run_list
  freed : length left_run_lem + 20 * corrections run_list ≡ length run
  size : length left_run_lem ≡ length unaltered
  bytes : (i : ℕ) → (byte_at left_run_lem i ≡ byte_at unaltered i) ⊎ FlagIn 4 left_list i

lesser : Less
lesser = record {
  start = less.start;
  bare = less.bare;
  others = less.others;
  freed = less.freed;
  size = less.size ∙ ap length kept_is;
  bytes = λ i. subst (λ (k : List ℕ). (byte_at left_run_lem i ≡ byte_at k i) ⊎ FlagIn 4 left_list i) kept_is (less.bytes i);
}

-- the run ends on one qubit; so does what is left of it, behind eight steps, and the end Pauli may be fired there; on other buffers it is accepted or refused as the run is
runs_whole : (running service run here).answer ≡ accepted (record { width = 1; steps = met.ending.steps })
runs_whole = met.whole ∙ ap (λ (n : ℕ). accepted (record { width = n; steps = met.ending.steps })) ends_at

runs_left : (running service left_run_lem there).answer ≡ accepted (record { width = 1; steps = 8 })
runs_left =
    ap (λ (t : List ℕ). (running service t there).answer) (sym t_is) ∙ met.runs
    ∙ ap₂ (λ (w : ℕ) (l : Run). accepted (record { width = w; steps = length l.steps })) ends_at left_is

may_fire : correction_row end (running service left_run_lem there).lent.state ≡ 0
may_fire =
    ap₂ (λ (P : Pauli) (t : List ℕ). correction_row P (running service t there).lent.state) (ap (λ (f : Folding). f.end) same_folding) (sym t_is) ∙ met.behind

on_any : (w : Memory) → is_accepted (running service left_run_lem w).answer ≡ is_accepted (running service run w).answer
on_any w = ap (λ (t : List ℕ). is_accepted (running service t w).answer) (sym t_is) ∙ met.alike w

-- folding it again, into any output that has room
again : (o : List ℕ) → 236 ≤ length o → folding service left_run_lem o ≡ record { answer = accepted (record { end = identity 1; size = 236 }); lent = left_run_lem ++ drop 236 o }
again o h =
    ap (λ (t : List ℕ). folding service t o) (sym t_is) ∙ met.again o (rw t_is h)
    ∙ ap₂ (λ (n : ℕ) (t : List ℕ). record { answer = accepted (record { end = identity n; size = length t }); lent = t ++ drop (length t) o }) ends_at t_is

-- ---- the request's sentence, of any run, any output and any two sets of buffers

module _ (s out : List ℕ) (m u : Memory) (here : is_accepted (running service s m).answer ≡ true) (there : is_accepted (running service s u).answer ≡ true)
    (folds : is_accepted (folding service s out).answer ≡ true) (start : (n : ℕ) → start_width (field_at s 0) ≡ some n → Agreeing n m.state u.state) where
  abbrev of_any : Folded service s out m u
  of_any = without_corrections_at_the_service.accepts s out m u (record { here = here; there = there; folds = folds; start = start })

  same_state : FiniteRun service of_any.t u → (b : ℕ) → b < 2 ^ of_any.ending.width
      → SameNumbers (point (running service s m).lent.state b) (point (fired of_any.end (running service of_any.t u).lent).state b)
  same_state = of_any.same

-- ---- the other claims, each used

-- none and nothing but corrections, whatever the output is
given_back : (out : List ℕ) → 37 ≤ length out → (folding service (measured 1) out).answer ≡ accepted (record { end = identity 0; size = 37 })
unfolding checking survey_of survey survey_from surveyed mixed_amplitudes fires run_of begun start_width mapped walk follow ended read_at read_field judged judged_by unless decoded field_at is_whole body_length number float_at pauli_at fits hermitian coefficient ys width_after step_row rotation_step_row promotion_step_row projection_step_row rotation_kernel_row measurement_row hermitian_row width_row unit_row promoted_width_row pivot_row pivot_mask in_unit row first answered left le neg of_bits digit overlap parity ones ones_in
given_back out h =
    ap (λ (o : Outcome Folding (List ℕ)). o.answer)
    (without_corrections_at_the_service.none (measured 1) out (record { width = 1; steps = projection (one 0 1 0) 0 1 bytes.one ∷ [] }) (record { width = 0; steps = 1; greatest = 1; scratch = 1 })
    refl refl (refl, tt) h)

seven : (out : List ℕ) (f : Folding) → (folding service x_z out).answer ≡ accepted f → (f.size ≡ 7) × (take 7 (folding service x_z out).lent ≡ alone 1)
unfolding corrections one_fired fires run_of begun start_width mapped walk follow ended read_at read_field judged judged_by unless decoded field_at is_whole body_length number float_at pauli_at fits hermitian coefficient ys width_after step_row rotation_step_row promotion_step_row projection_step_row rotation_kernel_row measurement_row hermitian_row width_row unit_row promoted_width_row pivot_row pivot_mask in_unit row first answered left le neg of_bits digit overlap parity ones ones_in
seven out f e =
    without_corrections_at_the_service.nothing_else x_z out (record { width = 1; steps = correction (one 0 1 0) ∷ correction (one 0 0 1) ∷ [] }) f refl refl e

-- 16 exactly below seven bytes
sixteen : (out : List ℕ) → length out < 7 → (folding service x_z out).answer ≡ refused 16
unfolding corrections one_fired fires run_of begun start_width mapped walk follow ended read_at read_field judged judged_by unless decoded field_at is_whole body_length number float_at pauli_at fits hermitian coefficient ys width_after step_row rotation_step_row promotion_step_row projection_step_row rotation_kernel_row measurement_row hermitian_row width_row unit_row promoted_width_row pivot_row pivot_mask in_unit row first answered left le neg of_bits digit overlap parity ones ones_in
sixteen out h =
    without_corrections_at_the_service.short x_z out (record { width = 1; steps = correction (one 0 1 0) ∷ correction (one 0 0 1) ∷ [] }) refl (omega (arith, h))

enough : (out : List ℕ) → 7 ≤ length out → is_accepted (folding service x_z out).answer ≡ true
unfolding corrections one_fired fires run_of begun start_width mapped walk follow ended read_at read_field judged judged_by unless decoded field_at is_whole body_length number float_at pauli_at fits hermitian coefficient ys width_after step_row rotation_step_row promotion_step_row projection_step_row rotation_kernel_row measurement_row hermitian_row width_row unit_row promoted_width_row pivot_row pivot_mask in_unit row first answered left le neg of_bits digit overlap parity ones ones_in
enough out h =
    without_corrections_at_the_service.room x_z out (record { width = 1; steps = correction (one 0 1 0) ∷ correction (one 0 0 1) ∷ [] }) refl (omega (arith, h))

-- where other steps stand beside the corrections, below 236
sixteen_here : (out : List ℕ) → length out < 236 → (folding service run out).answer ≡ refused 16
unfolding corrections one_fired fires
sixteen_here out h = without_corrections_at_the_service.short run out read_run run_reads (omega (arith, h))

enough_here : (out : List ℕ) → 236 ≤ length out → is_accepted (folding service run out).answer ≡ true
unfolding corrections one_fired fires
enough_here out h = without_corrections_at_the_service.room run out read_run run_reads (omega (arith, h))

-- a correction put behind the start field
behind_start_lem : behind_start (one 0 0 1) (measured 1) ≡ before 0 1 1
unfolding behind_start correction_field pauli_bytes bytes_of
behind_start_lem = refl

-- one correction behind the start is a Pauli carried through the rest
first_carried : (out other : List ℕ) (end : Pauli) → (carrying service (measured 1) (one 0 0 1) other).answer ≡ accepted end → 37 ≤ length out
    → folding service (behind_start (one 0 0 1) (measured 1)) out
    ≡ record { answer = accepted (record { end = end; size = 37 }); lent = sent service (measured 1) (one 0 0 1) other ++ drop 37 out }
unfolding fires run_of begun start_width mapped walk follow ended read_at read_field judged judged_by unless decoded field_at is_whole body_length number float_at pauli_at fits hermitian coefficient ys width_after step_row rotation_step_row promotion_step_row projection_step_row rotation_kernel_row measurement_row hermitian_row width_row unit_row promoted_width_row pivot_row pivot_mask in_unit row first answered left le neg of_bits digit overlap parity ones ones_in
first_carried out other end e h =
    without_corrections_at_the_service.first (measured 1) out other (one 0 0 1) end (record { width = 1; steps = projection (one 0 1 0) 0 1 bytes.one ∷ [] }) refl (refl, tt) (lit≤ tt) e h

-- of any bytes and any output
own_rows : (s out : List ℕ) (r at : ℕ) → checking service s ≡ refused_at r at → (folding service s out).answer ≡ refused_at r at
own_rows = without_corrections_at_the_service.run_first

stays : (s out : List ℕ) → is_accepted (folding service s out).answer ≡ false → (folding service s out).lent ≡ out
stays = without_corrections_at_the_service.kept

-- ---- by the emulator: its own row, and each claim

over_six : (out : List ℕ) → (folding emulator (alone 7) out).answer ≡ refused_at 21 0
unfolding checking survey_of mapped run_of begun start_width field_at is_whole body_length number
over_six out = without_corrections_at_the_emulator.run_first (alone 7) out 21 0 refl

on_the_board : (s out : List ℕ) (m u : Memory) → Accepted emulator s out m u → Folded emulator s out m u
on_the_board = without_corrections_at_the_emulator.accepts

none_on_the_board : (s out : List ℕ) (R : Run) (v : Survey) → run_of emulator s ≡ accepted R → checking emulator s ≡ accepted v → Bare R.steps → length s ≤ length out
    → folding emulator s out ≡ record { answer = accepted (record { end = identity v.width; size = length s }); lent = s ++ drop (length s) out }
none_on_the_board = without_corrections_at_the_emulator.none

seven_on_the_board : (s out : List ℕ) (R : Run) (f : Folding) → run_of emulator s ≡ accepted R → corrections R.steps ≡ length R.steps
    → (folding emulator s out).answer ≡ accepted f → (f.size ≡ 7) × (take 7 (folding emulator s out).lent ≡ alone R.width)
seven_on_the_board = without_corrections_at_the_emulator.nothing_else

first_on_the_board : (s out other : List ℕ) (Q end : Pauli) (R : Run) → run_of emulator s ≡ accepted R → Bare R.steps → length s + 20 ≤ 65536
    → (carrying emulator s Q other).answer ≡ accepted end → length s ≤ length out
    → folding emulator (behind_start Q s) out
    ≡ record { answer = accepted (record { end = end; size = length s }); lent = sent emulator s Q other ++ drop (length s) out }
first_on_the_board = without_corrections_at_the_emulator.first

rows_on_the_board : (s out : List ℕ) (r at : ℕ) → checking emulator s ≡ refused_at r at → (folding emulator s out).answer ≡ refused_at r at
rows_on_the_board = without_corrections_at_the_emulator.run_first

sixteen_on_the_board : (s out : List ℕ) (R : Run) → run_of emulator s ≡ accepted R → length out + 20 * corrections R.steps < length s → (folding emulator s out).answer ≡ refused 16
sixteen_on_the_board = without_corrections_at_the_emulator.short

room_on_the_board : (s out : List ℕ) (R : Run) → run_of emulator s ≡ accepted R → length s ≤ length out + 20 * corrections R.steps → is_accepted (folding emulator s out).answer ≡ true
room_on_the_board = without_corrections_at_the_emulator.room

stays_on_the_board : (s out : List ℕ) → is_accepted (folding emulator s out).answer ≡ false → (folding emulator s out).lent ≡ out
stays_on_the_board = without_corrections_at_the_emulator.kept

-- the frame theorem's run, which both hold: the same from both
by_both : (out : List ℕ) → folding emulator Instance.run out ≡ folding service Instance.run out
by_both = shared.folds
