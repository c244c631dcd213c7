-- The frame theorem, proved: Frame.antt states it. For any caller whose states can all be corrected, and so for the service and for the emulator.
use Rattle.std.specs.Prelude.{◌≡◌, true, List, ◌⊎◌, ℕ, ◌≤◌, length, drop}
use Rattle.std.proofs.Common.{sym, ap, ◌∙◌, subst, le_trans, leb→le, drop_at, le-ltb}
use Rattle.std.proofs.Math.Option.{some}
use native.Mathlib.Omega.{arith}
use Rattle.answers.specs.Answer.{is_accepted}
use Rattle.answers.specs.Answer.Answer.{accepted}
use Rattle.answers.specs.Row.{row, first, accepted_same, accepted_value, left_some, left_none, some_row}
use Rattle.floatlaws.proofs.Same.{same_says}
use Rattle.paulilaws.specs.Pauli.{Pauli, most_qubits}
use Rattle.paulilaws.specs.Fitting.{Admitted}
use Rattle.paulilaws.proofs.Fitting.{admitted_fits}
use Rattle.amplitudelaws.specs.Binary.{binary}
use Rattle.amplitudelaws.specs.Correction.{corrected}
use Rattle.amplitudelaws.specs.Rows.{correction_row, width_row, room_row, widest_kernel}
use Rattle.amplitudelaws.specs.State.{State, point, room_for, room}
use Rattle.amplitudelaws.specs.Step.{last_width}
use Rattle.amplitudelaws.specs.Steps.{correction}
use Rattle.framelaws.specs.Caller.{Caller, widest_run, widest_emulated, service, emulator}
use Rattle.framelaws.specs.Carried.{survey_carried}
use Rattle.framelaws.specs.Carrying.{carried_steps, end_pauli}
use Rattle.framelaws.proofs.Fitted.{fitting_end}
use Rattle.framelaws.specs.Kept.{written_lengths, room_kept, room_under}
use Rattle.framelaws.proofs.Kept.{ran_sizes}
use Rattle.framelaws.proofs.List.{frame_over_steps}
use Rattle.framelaws.specs.Memory.{Memory, ran}
use Rattle.framelaws.specs.Survey.{Survey, survey}
use Rattle.framelaws.specs.Surveyed.{survey_width, survey_greatest, survey_greatest_last}
use Rattle.runlaws.specs.Bytes.{byte_at}
use Rattle.runlaws.specs.Flags.{FlagIn}
use Rattle.runlaws.specs.Run.{Run, run_of}
use Rattle.runlaws.specs.Calls.{Ending, ending_of, survey_of, memory_row, running, carried_run, carrying}
use Rattle.runlaws.specs.Frame.{Agreeing, fired, sent, Accepted, Frame, FrameTheorem}
use Rattle.runlaws.proofs.Altered.{altered}
use Rattle.runlaws.specs.Outcomes.{room_both, running_done, running_answers, running_kept, carrying_answers, carrying_kept}
use Rattle.runlaws.proofs.Reread.{carried_length}
use Rattle.runlaws.specs.Sent.{may_carry, carried_of, Sent}
use Rattle.runlaws.proofs.Sent.{sent_accepted}
use Rattle.runlaws.specs.WholeRun.{run_allowed}

-- ---- what the rows of the calls let pass

pub room_row_lem : (v : Survey) (m : Memory) → room v.greatest m.state ≡ true → room_for v.scratch m.scratch ≡ true
    → memory_row v m ≡ 0
unfolding memory_row room_row row
room_row_lem v m a b = rw (a, b)

-- no row refuses to fire a Pauli that has its room
pub may_fire : (P : Pauli) (S : State) → Admitted P → P.n ≤ widest_kernel → room P.n S ≡ true → correction_row P S ≡ 0
unfolding correction_row width_row room_row row first
may_fire P S f h r = rw (admitted_fits P f, le-ltb widest_kernel P.n h, r)

-- what firing leaves, where a row refuses it and where none does
fired_refused : (P : Pauli) (m : Memory) → (correction_row P m.state ≡ 0 → ⊥) → fired P m ≡ m
unfolding fired
fired_refused P m h =
    ap (λ (S : State). record { state = S; scratch = m.scratch }) (left_some _ (correction P m.state) m.state (some_row (correction_row P m.state) h))

-- the state with P's correction
abbrev shot : Pauli → Memory → Memory
shot P m = record { state = correction P m.state; scratch = m.scratch }

pub fired_done : (P : Pauli) (m : Memory) → correction_row P m.state ≡ 0 → fired P m ≡ shot P m
unfolding fired
fired_done P m h = ap (λ (S : State). record { state = S; scratch = m.scratch }) (left_none _ (correction P m.state) m.state h)

-- ---- the accepted half

module _ (caller : Caller) (narrow : caller.widest ≤ widest_kernel) (s out : List ℕ) (Q : Pauli) (m u : Memory) where
  -- the carried run
  abbrev t : List ℕ
  t = sent caller s Q out

  module _ (R : Run) (known : Sent caller s Q out R) (here : memory_row (survey_of R) m ≡ 0) (there : memory_row (survey_of R) u ≡ 0)
      (agree : Agreeing Q.n m.state u.state) where
    open known use {read, admitted, width, ends as answer, output, is as is-sent, size, again as sent-read}

    abbrev last : ℕ
    last = last_width R.width R.steps

    abbrev E : Ending
    E = ending_of (survey_of R)

    abbrev end : Pauli
    end = end_pauli Q R.steps

    flags : (i : ℕ) → (byte_at t i ≡ byte_at s i) ⊎ FlagIn 4 R.steps i
    flags = rw is-sent (altered Q R s)

    greatest : (survey R.width R.steps).greatest ≤ (survey_of R).greatest
    unfolding survey_of
    greatest = omega arith

    same_survey : survey_of (carried_of Q R) ≡ survey_of R
    unfolding survey_of
    same_survey = survey_carried Q R.width R.steps

    last_width_lem : E.width ≡ last
    unfolding survey_of
    last_width_lem = survey_width R.width R.steps

    sent_runs : ((running caller t u).answer ≡ accepted E) × ((running caller t u).lent ≡ ran R.width (carried_steps Q R.steps) u)
    sent_runs =
        let known = running_answers caller t u (carried_of Q R) sent-read (rw same_survey there) in
        (known.0 ∙ ap (λ (v : Survey). accepted (ending_of v)) same_survey, known.1)

    sent_carries : (o : List ℕ) → length s ≤ length o → is_accepted (carrying caller t Q o).answer ≡ true
    unfolding is_accepted
    sent_carries o h = rw (carrying_answers caller t Q o (carried_of Q R) sent-read (may_carry Q R.width (length t) (length o) admitted width (rw size h))).0

    shot_room : memory_row (survey_of R) (shot Q m) ≡ 0
    unfolding correction
    shot_room =
        let both = room_both (survey_of R) m here in
        room_row_lem (survey_of R) (shot Q m) (room_kept (survey_of R).greatest (written_lengths Q.n (corrected binary Q (point m.state)) m.state) both.0) both.1

    shot_runs : ((running caller s (shot Q m)).answer ≡ accepted E) × ((running caller s (shot Q m)).lent ≡ ran R.width R.steps (shot Q m))
    shot_runs = running_answers caller s (shot Q m) R read shot_room

    assembled : Frame caller s out Q m u
    assembled =
        let run = run_allowed caller s R read in
        let fitting = admitted.fitting in
        let g : ℕ = (survey_of R).greatest in
        let roomM : room g m.state ≡ true = (room_both (survey_of R) m here).0 in
        let roomU : room g u.state ≡ true = (room_both (survey_of R) u there).0 in
        let wide : R.width ≤ g = le_trans (survey_greatest R.width R.steps) greatest in
        let final = fitting_end caller R.width Q R.steps run.width run.allowed fitting width in
        let near : end.n ≤ widest_kernel = rw final.width (le_trans final.within narrow) in
        let admitted-end : Admitted end = record { fitting = final.fitting; width = le_trans near (leb→le widest_kernel most_qubits tt) } in
        let far : last ≤ g = le_trans (survey_greatest_last R.width R.steps) greatest in
        let before : correction_row Q m.state ≡ 0
        = may_fire Q m.state admitted (rw width (le_trans run.width narrow)) (rw width (room_under R.width g m.state wide roomM)) in
        let behind : correction_row end (ran R.width (carried_steps Q R.steps) u).state ≡ 0
        = may_fire end _ admitted-end near
        (rw final.width (room_under last g _ far (room_kept g (ran_sizes R.width (carried_steps Q R.steps) u).state roomU))) in
        record {
          end = end;
          ending = E;
          ends = answer;
          first = run.start ∙ ap some (sym width);
          last = final.width ∙ sym last_width_lem;
          size = size;
          flags = λ r was. subst (λ (r : Run). (i : ℕ) → (byte_at t i ≡ byte_at s i) ⊎ FlagIn 4 r.steps i) (accepted_same (sym read ∙ was)) flags;
          tail = ap (drop (length s)) output ∙ drop_at (carried_run Q R s) (drop (length s) out) (length s) (carried_length Q R s);
          before = before;
          plain = rw (fired_done Q m before) shot_runs.0;
          carried = sent_runs.0;
          again = sent_carries;
          behind = rw sent_runs.1 behind;
          same = λ finite b h.
              let alike = frame_over_steps caller g R.steps R.width Q m u run.width run.allowed fitting width roomM roomU greatest (finite (carried_of Q R) sent-read)
              (λ b h. agree.at b (rw width h)) b (rw last_width_lem at h) in
              rw (sent_runs.1, fired_done Q m before, shot_runs.1, fired_done end (ran R.width (carried_steps Q R.steps) u) behind)
              (same_says _ _ alike.res, same_says _ _ alike.ims);
        }

  accepted_half : Accepted caller s out Q m u → Frame caller s out Q m u
  accepted_half a =
      let one = running_done caller s m _ (accepted_value (running caller s m).answer a.here).is in
      let two = running_done caller s u _ (accepted_value (running caller s u).answer a.there).is in
      let three = sent_accepted caller s Q out a.carries in
      let same : (r : Run) → run_of caller s ≡ accepted r → r ≡ three.run = λ r was. accepted_same (sym was ∙ three.known.read) in
      assembled three.run three.known (subst (λ (r : Run). memory_row (survey_of r) m ≡ 0) (same one.run one.was) one.passed)
      (subst (λ (r : Run). memory_row (survey_of r) u ≡ 0) (same two.run two.was) two.passed) a.start

-- ---- the theorem

-- THE FRAME THEOREM for any caller whose states can all be corrected
pub frame : (caller : Caller) → caller.widest ≤ widest_kernel → FrameTheorem caller
frame caller narrow = record {
  accepts = accepted_half caller narrow;
  refused_run = running_kept caller;
  refused_carrying = λ s out Q. carrying_kept caller s Q out;
  refused_correction = fired_refused;
}

-- and so for the service and for the emulator, which is what the calls run_contiguous and carry_run promise of each
pub frame_at_the_service : FrameTheorem service
frame_at_the_service = frame service (leb→le widest_run widest_kernel tt)

pub frame_at_the_emulator : FrameTheorem emulator
frame_at_the_emulator = frame emulator (leb→le widest_emulated widest_kernel tt)
