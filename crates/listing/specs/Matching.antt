-- Zero prints as zero, proved: TwoListings.antt states it.
use Rattle.std.proofs.Math.Path.{◌≡◌, refl, sym, ap}
use Rattle.std.proofs.Common.{◌∙◌, subst, arith, leb→le}
use Rattle.std.proofs.Math.Bool.{true}
use mathlib.Core.List.{List, [], ◌∷◌, ◌++◌}
use Prim.Native.Nat.{ℕ, suc, ◌+◌, ◌^◌, ◌≤◌, ◌<◌}
use Rattle.std.specs.Prelude.{Float}
use Rattle.std.proofs.Math.ListN.{length, length-append}
use Rattle.answers.specs.Answer.{Answer, is_accepted}
use Rattle.answers.specs.Answer.Answer.{accepted}
use Rattle.answers.specs.Row.{accepted_same}
use Rattle.paulilaws.specs.Pauli.{Pauli, most_qubits}
use Rattle.paulilaws.specs.Fitting.{Admitted}
use Rattle.amplitudelaws.specs.Rows.{correction_row, widest_kernel}
use Rattle.amplitudelaws.specs.State.{State, point}
use Rattle.amplitudelaws.specs.Step.{Step, width_after, last_width}
use Rattle.amplitudelaws.specs.Step.Step.{correction}
use Rattle.framelaws.specs.Caller.{widest_run, service}
use Rattle.framelaws.specs.Carried.{survey_carried}
use Rattle.framelaws.specs.Carrying.{carried_steps, end_pauli}
use Rattle.framelaws.proofs.Fitted.{fitting_end}
use Rattle.framelaws.specs.Representable.{RepresentableState}
use Rattle.framelaws.proofs.Representable.{ran_representable}
use Rattle.framelaws.specs.Memory.{Memory, stepped, ran}
use Rattle.framelaws.specs.Survey.{Survey}
use Rattle.framelaws.specs.Surveyed.{survey_width, survey_steps}
use Rattle.lines.specs.Lines.{refusal_line}
use Rattle.lines.proofs.Numbers.{zero_part, nan_part, other_part}
use Rattle.runlaws.specs.Calls.{Ending, ending_of, survey_of, running, carrying}
use Rattle.runlaws.specs.Field.{most_bytes}
use Rattle.runlaws.proofs.FirstCorrection.{begun_read}
use Rattle.runlaws.specs.Frame.{SameNumbers, FiniteRun, Frame, fired, sent}
use Rattle.runlaws.proofs.LastCorrection.{ended_read, ran_last, width_last}
use Rattle.runlaws.specs.Outcomes.{running_done, running_answers}
use Rattle.runlaws.specs.Run.{Run, run_of}
use Rattle.runlaws.specs.Sent.{carried_of, Sent}
use Rattle.runlaws.proofs.Sent.{sent_accepted}
use Rattle.runlaws.proofs.Theorem.{fired_done, frame_at_the_service}
use Rattle.runlaws.specs.WholeRun.{run_allowed, run_long}
use Rattle.runlaws.specs.WithCorrection.{behind_start, before_end, behind_length, before_length}
use Rattle.listing.specs.Listing.{fresh, state_text, text_of, listed}
use Rattle.listing.specs.Room.{fresh_room, listed_refusal}
use Rattle.listing.specs.SameText.{state_same, state_tells}
use Rattle.listing.specs.Start.{fresh_representable}
use Rattle.listing.specs.TwoListings.{Accepted, OneText, TwoListings}

-- every state of the service's can be corrected
narrow : service.widest ≤ widest_kernel
narrow = leb→le widest_run widest_kernel tt

-- ---- a run that is accepted from basis 0

module _ (s : List ℕ) (E : Ending) (e : (running service s fresh).answer ≡ accepted E) where
  listed_of : listed s ≡ state_text E.width (running service s fresh).lent.state
  unfolding listed text_of
  listed_of = ap (λ (a : Answer Ending). text_of a (running service s fresh).lent.state) e

  left_representable : RepresentableState (running service s fresh).lent.state
  left_representable =
      let done = running_done service s fresh E e in
      subst (λ (m : Memory). RepresentableState m.state) (sym done.lent_is) (ran_representable done.run.width done.run.steps fresh fresh_representable)

-- by the run that it is read as
module _ (s : List ℕ) (R : Run) (read : run_of service s ≡ accepted R) where
  runs : ((running service s fresh).answer ≡ accepted (record { width = last_width R.width R.steps; steps = length R.steps }))
      × ((running service s fresh).lent ≡ ran R.width R.steps fresh)
  unfolding survey_of
  runs =
      let done = running_answers service s fresh R read (fresh_room s R read) in
      let ending : ◌≡◌ {A = Ending} (ending_of (survey_of R)) (record { width = last_width R.width R.steps; steps = length R.steps })
      = λ i. record { width = survey_width R.width R.steps i; steps = survey_steps R.width R.steps i } in
      (done.0 ∙ ap accepted ending, done.1)

-- ---- the two files

-- a carried list ends where the list does, and has as many steps
last_carried : (Q : Pauli) (n : ℕ) (ts : List (Step Float)) → last_width n (carried_steps Q ts) ≡ last_width n ts
last_carried Q n ts = sym (survey_width n (carried_steps Q ts)) ∙ ap (λ (v : Survey). v.width) (survey_carried Q n ts) ∙ survey_width n ts

count_carried : (Q : Pauli) (n : ℕ) (ts : List (Step Float)) → length (carried_steps Q ts) ≡ length ts
count_carried Q n ts = sym (survey_steps n (carried_steps Q ts)) ∙ ap (λ (v : Survey). v.steps) (survey_carried Q n ts) ∙ survey_steps n ts

module _ (s out : List ℕ) (Q end : Pauli) (carries : (carrying service s Q out).answer ≡ accepted end) where
  abbrev t : List ℕ
  t = sent service s Q out

  module _ (R : Run) (known : Sent service s Q out R) where
    abbrev n : ℕ
    n = R.width

    abbrev ts : List (Step Float)
    ts = R.steps

    is_end : end_pauli Q ts ≡ end
    is_end = accepted_same (sym known.ends ∙ carries)

    last_size : length (before_end end t) ≡ length s + 20
    last_size = before_length end t ∙ ap (λ (k : ℕ). k + 20) known.size

    end_known : Admitted end × (end.n ≡ last_width n ts)
    end_known =
        let run = run_allowed service s R known.read in
        let final = fitting_end service n Q ts run.width run.allowed known.admitted.fitting known.width in
        let most : (end_pauli Q ts).n ≤ most_qubits = omega (arith, final.width, final.within, leb→le widest_run most_qubits tt) in
        subst (λ (P : Pauli). Admitted P × (P.n ≡ last_width n ts)) is_end (record { fitting = final.fitting; width = most }, final.width)

    module _ (short : length s + 20 ≤ most_bytes) where
      first_read : run_of service (behind_start Q s) ≡ accepted (record { width = n; steps = correction Q ∷ ts })
      first_read = begun_read service narrow s R known.read Q known.admitted known.width short

      last_read : run_of service (before_end end t) ≡ accepted (record { width = n; steps = carried_steps Q ts ++ correction end ∷ [] })
      last_read =
          ended_read service narrow end end_known.0 t (carried_of Q R) known.again (end_known.1 ∙ sym (last_carried Q n ts)) (rw known.size short)

      abbrev ending : Ending
      ending = record { width = last_width n ts; steps = suc (length ts) }

      first_runs : ((running service (behind_start Q s) fresh).answer ≡ accepted ending)
          × ((running service (behind_start Q s) fresh).lent ≡ ran n ts (stepped n (correction Q) fresh))
      unfolding last_width width_after ran
      first_runs = runs (behind_start Q s) (record { width = n; steps = correction Q ∷ ts }) first_read

      last_runs : ((running service (before_end end t) fresh).answer ≡ accepted ending)
          × ((running service (before_end end t) fresh).lent ≡ stepped (last_width n ts) (correction end) (ran n (carried_steps Q ts) fresh))
      unfolding width_after
      last_runs =
          let cs : List (Step Float) = carried_steps Q ts in
          let done = runs (before_end end t) (record { width = n; steps = cs ++ correction end ∷ [] }) last_read in
          let width : last_width n (cs ++ correction end ∷ []) ≡ last_width n ts = width_last n cs (correction end) ∙ last_carried Q n ts in
          let count : length (cs ++ correction end ∷ []) ≡ suc (length ts) = omega (arith, length-append cs (correction end ∷ []), count_carried Q n ts) in
          let same : ◌≡◌ {A = Ending} (record { width = last_width n (cs ++ correction end ∷ []); steps = length (cs ++ correction end ∷ []) }) ending
          = λ i. record { width = width i; steps = count i } in (
            done.0 ∙ ap accepted same,
            done.1 ∙ ran_last n cs (correction end) fresh ∙ ap (λ (k : ℕ). stepped k (correction end) (ran n cs fresh)) (last_carried Q n ts),
          )

      -- the frame theorem, from basis 0 both ways
      two_ways : Frame service s out Q fresh fresh
      unfolding is_accepted
      two_ways =
          let accepts : is_accepted (running service s fresh).answer ≡ true = rw (runs s R known.read).0 in
          frame_at_the_service.accepts s out Q fresh fresh (record { here = accepts; there = accepts; carries = rw carries; start = record { at = λ b h. refl } })

      is_frames : two_ways.end ≡ end
      is_frames = accepted_same (sym two_ways.ends ∙ carries)

      fires : correction_row end (running service t fresh).lent.state ≡ 0
      fires = subst (λ (P : Pauli). correction_row P (running service t fresh).lent.state ≡ 0) is_frames two_ways.behind

      before : (running service (behind_start Q s) fresh).lent ≡ (running service s (fired Q fresh)).lent
      unfolding stepped
      before =
          let done = running_done service s (fired Q fresh) _ two_ways.plain in
          let same : done.run ≡ R = accepted_same (sym done.was ∙ known.read) in
          first_runs.1 ∙ ap (ran n ts) (sym (fired_done Q fresh two_ways.before))
          ∙ sym (done.lent_is ∙ ap (λ (r : Run). ran r.width r.steps (fired Q fresh)) same)

      behind : (running service (before_end end t) fresh).lent ≡ fired end (running service t fresh).lent
      unfolding stepped
      behind =
          let sends = (runs t (carried_of Q R) known.again).1 in
          last_runs.1 ∙ ap (stepped (last_width n ts) (correction end)) (sym sends) ∙ sym (fired_done end (running service t fresh).lent fires)

      same : FiniteRun service t fresh → listed (behind_start Q s) ≡ listed (before_end end t)
      same finite =
          let width : two_ways.ending.width ≡ last_width n ts = sym two_ways.last ∙ ap (λ (P : Pauli). P.n) is_frames ∙ end_known.1 in
          let numbers : (b : ℕ) → b < 2 ^ last_width n ts
          → SameNumbers (point (running service (behind_start Q s) fresh).lent.state b) (point (running service (before_end end t) fresh).lent.state b)
          = λ b h. rw (before, behind, ← is_frames) (two_ways.same finite b (rw width h)) in
          listed_of (behind_start Q s) ending first_runs.0 ∙ state_same _ _ (last_width n ts) numbers ∙ sym (listed_of (before_end end t) ending last_runs.0)

      assembled : OneText s out Q end
      assembled = record {
        size = behind_length Q s;
        same_size = last_size;
        run = R;
        reads = known.read;
        first = first_read;
        carried = carried_of Q R;
        rereads = known.again;
        last = last_read;
        ending = ending;
        here = first_runs.0;
        there = last_runs.0;
        before = before;
        behind = behind;
        same = same;
      }

-- ---- the claims

module _ (s out : List ℕ) (Q end : Pauli) where
  accepted_half : Accepted s out Q end → OneText s out Q end
  unfolding is_accepted
  accepted_half a =
      let known = sent_accepted service s Q out (rw a.carries) in
      assembled s out Q end a.carries known.run known.known (rw (behind_length Q s) at a.fits)

  too_long : (carrying service s Q out).answer ≡ accepted end → most_bytes < length (behind_start Q s)
      → (listed (behind_start Q s) ≡ refusal_line 14) × (listed (before_end end (sent service s Q out)) ≡ refusal_line 14)
  unfolding is_accepted
  too_long carries long =
      let known = sent_accepted service s Q out (rw carries) in
      let last : List ℕ = before_end end (sent service s Q out) in
      let last_long : most_bytes < length last
      = omega (arith, long, behind_length Q s, last_size s out Q end carries known.run known.known) in
      (listed_refusal (behind_start Q s) 14 0 (run_long service (behind_start Q s) long), listed_refusal last 14 0 (run_long service last last_long))

module _ (s u : List ℕ) (E F : Ending) (e : (running service s fresh).answer ≡ accepted E) (f : (running service u fresh).answer ≡ accepted F) where
  abbrev S : State
  S = (running service s fresh).lent.state

  abbrev U : State
  U = (running service u fresh).lent.state

  tells : listed s ≡ listed u → (E.width ≡ F.width) × ((b : ℕ) → b < 2 ^ E.width → SameNumbers (point S b) (point U b))
  tells text =
      state_tells S U (left_representable s E e) (left_representable u F f) E.width F.width (sym (listed_of s E e) ∙ text ∙ listed_of u F f)

  shows : (E.width ≡ F.width) × ((b : ℕ) → b < 2 ^ E.width → SameNumbers (point S b) (point U b)) → listed s ≡ listed u
  shows h = listed_of s E e ∙ state_same S U E.width h.1 ∙ ap (λ (n : ℕ). state_text n U) h.0 ∙ sym (listed_of u F f)

-- ---- the theorem

-- ZERO PRINTS AS ZERO
pub two_listings : TwoListings
two_listings = record {
  accepts = accepted_half;
  long = too_long;
  zeros = zero_part;
  nans = nan_part;
  others = other_part;
  exactly = λ s u E F e f. (tells s u E F e f, shows s u E F e f);
}
