-- Runs without corrections, proved: WithoutCorrections.antt states it. For any caller whose states can all be corrected, and so for the service and for the emulator.
use Rattle.std.specs.Prelude.{◌≡◌, refl, true, ℕ, ◌+◌, ◌*◌, ◌≤◌, ◌<◌, Float, take}
use Rattle.std.proofs.Math.Path.{sym, ap, ap₂}
use Rattle.std.proofs.Common.{◌∙◌, subst, le_trans, arith, leb→le, lit<}
use mathlib.Core.List.{List, [], ◌∷◌, ◌++◌}
use Rattle.std.proofs.Math.ListN.{length, drop}
use borrow.Author.Tests.{le-ltb, lt-ltb, ltb-false}
use Rattle.answers.specs.Answer.{is_accepted}
use Rattle.answers.specs.Answer.Answer.{accepted, refused, refused_at}
use Rattle.answers.specs.Outcome.{outcome_same}
use Rattle.answers.specs.Row.{row, answered, accepted_same, accepted_value, row_accepts, row_passed}
use Rattle.floatlaws.proofs.Same.{same_says}
use Rattle.paulilaws.specs.Pauli.{Pauli, identity, most_qubits}
use Rattle.paulilaws.specs.Fitting.{Admitted, identity_fitting}
use Rattle.amplitudelaws.specs.Rows.{correction_row, widest_kernel}
use Rattle.amplitudelaws.specs.State.{room}
use Rattle.amplitudelaws.specs.Step.{Step, last_width}
use Rattle.framelaws.specs.Caller.{Caller, widest_run, widest_emulated, service, emulator}
use Rattle.framelaws.specs.Carrying.{end_pauli}
use Rattle.framelaws.proofs.Folded.{fitting_folded_end, fold_over_steps}
use Rattle.framelaws.specs.FoldedSteps.{SameRoom}
use Rattle.framelaws.proofs.FoldedSteps.{folded_bare, folded_count, survey_folded}
use Rattle.framelaws.specs.Folding.{folded_steps, folded_end, corrections, Bare}
use Rattle.framelaws.specs.Kept.{room_kept, room_under}
use Rattle.framelaws.proofs.Kept.{ran_sizes}
use Rattle.framelaws.specs.Memory.{Memory, ran}
use Rattle.framelaws.specs.Survey.{Survey, survey}
use Rattle.framelaws.specs.Surveyed.{survey_width, survey_steps, survey_greatest_last}
use Rattle.runlaws.specs.Calls.{Outcome, on_run, Folding, ending_of, survey_of, checking, memory_row, running, carried_run, carrying, folding_row, folding}
use Rattle.runlaws.proofs.ClosedUp.{closed_size, closed_up}
use Rattle.runlaws.specs.Field.{most_bytes}
use Rattle.runlaws.proofs.FirstCorrection.{begun, begun_read, begun_folded, begun_end}
use Rattle.runlaws.proofs.FoldedBytes.{folded_length, refold, bare_run, bare_identity}
use Rattle.runlaws.specs.FoldedRun.{folded_run}
use Rattle.runlaws.specs.Frame.{Agreeing, sent}
use Rattle.runlaws.specs.Mapped.{mapped_refused}
use Rattle.runlaws.specs.Outcomes.{room_both, running_done, running_answers, folding_done, folding_answers, folding_kept}
use Rattle.runlaws.specs.Pieces.{end_bytes, Pieces}
use Rattle.runlaws.specs.Run.{Run, mapped, run_of}
use Rattle.runlaws.specs.RunPieces.{start_bytes}
use Rattle.runlaws.proofs.RunPieces.{run_pieces}
use Rattle.runlaws.proofs.Sent.{sent_accepted}
use Rattle.runlaws.proofs.Theorem.{may_fire, fired_done}
use Rattle.runlaws.specs.WholeRun.{run_allowed}
use Rattle.runlaws.specs.WithCorrection.{behind_start}
use Rattle.runlaws.specs.WithoutCorrections.{Accepted, Shorter, Folded, WithoutCorrections}

-- ---- of a run that reads as R

-- the run that is left, and the end Pauli
abbrev left_run : Run → Run
left_run R = record { width = R.width; steps = folded_steps (identity R.width) R.steps }

abbrev end_of : Run → Pauli
end_of R = folded_end (identity R.width) R.steps

-- what is answered and left where the bytes t are left
abbrev did : Pauli → List ℕ → List ℕ → Outcome Folding (List ℕ)
did end t out = record { answer = accepted (record { end = end; size = length t }); lent = t ++ drop (length t) out }

module _ (caller : Caller) (s : List ℕ) (R : Run) (reads : run_of caller s ≡ accepted R) where
  shorter : Shorter s (folded_run R s) R (left_run R)
  shorter = record {
    start = refl;
    bare = folded_bare R.steps (identity R.width);
    others = folded_count R.steps (identity R.width);
    freed = folded_length caller s R reads;
    size = closed_size caller s R reads;
    bytes = closed_up caller s R reads;
  }

  -- by the output's room
  folds : (out : List ℕ) → length (folded_run R s) ≤ length out → folding caller s out ≡ did (end_of R) (folded_run R s) out
  unfolding folding_row row
  folds out h = let done = folding_answers caller s out R reads (rw (le-ltb (length out) (length (folded_run R s)) h)) in outcome_same done.0 done.1

  too_short : (out : List ℕ) → length out < length (folded_run R s) → (folding caller s out).answer ≡ refused 16
  unfolding folding on_run folding_row row answered
  too_short out h = rw (reads, lt-ltb (length out) (length (folded_run R s)) h)

  -- no correction is in it
  given_back : (out : List ℕ) → Bare R.steps → length s ≤ length out → folding caller s out ≡ did (identity (last_width R.width R.steps)) s out
  given_back out bare h =
      let same : folded_run R s ≡ s = bare_run caller s R reads bare in
      folds out (rw same h) ∙ ap (λ (t : List ℕ). did (end_of R) t out) same ∙ ap (λ (P : Pauli). did P s out) (bare_identity caller s R reads bare)

-- ---- running it

-- the room that the two need is the same
same_room : (R : Run) → SameRoom (survey_of (left_run R)) (survey_of R)
unfolding survey_of
same_room R = survey_folded (identity R.width) R.width R.steps

same_row : (R : Run) (w : Memory) → memory_row (survey_of (left_run R)) w ≡ memory_row (survey_of R) w
unfolding memory_row
same_row R w = rw ((same_room R).greatest, (same_room R).scratch)

last_width_lem : (R : Run) → (survey_of R).width ≡ last_width R.width R.steps
unfolding survey_of
last_width_lem R = survey_width R.width R.steps

left_ending : (R : Run) → ending_of (survey_of (left_run R)) ≡ record { width = (survey_of R).width; steps = length (left_run R).steps }
unfolding survey_of
left_ending R = λ i. record { width = (same_room R).width i; steps = survey_steps R.width (left_run R).steps i }

greatest : (R : Run) → (survey R.width R.steps).greatest ≤ (survey_of R).greatest
unfolding survey_of
greatest R = omega arith

module _ (caller : Caller) (s : List ℕ) (R : Run) (reads : run_of caller s ≡ accepted R) where
  abbrev t : List ℕ
  t = folded_run R s

  read : run_of caller t ≡ accepted (left_run R)
  read = refold caller s R reads

  alike : (w : Memory) → is_accepted (running caller t w).answer ≡ is_accepted (running caller s w).answer
  unfolding running on_run
  alike w = rw (reads, read, same_row R w) (row_accepts (memory_row (survey_of R) w) (ending_of (survey_of (left_run R))) (ending_of (survey_of R)))

  again : (o : List ℕ) → length t ≤ length o → folding caller t o ≡ did (identity (survey_of R).width) t o
  again o h =
      given_back caller t (left_run R) read o (shorter caller s R reads).bare h
      ∙ ap (λ (n : ℕ). did (identity n) t o) (sym (last_width_lem (left_run R)) ∙ (same_room R).width)

  module _ (narrow : caller.widest ≤ widest_kernel) (out : List ℕ) (enough : length t ≤ length out) (m u : Memory) (here : memory_row (survey_of R) m ≡ 0)
      (there : memory_row (survey_of R) u ≡ 0) (agree : Agreeing R.width m.state u.state) where
    assembled : Folded caller s out m u
    assembled =
        let run = run_allowed caller s R reads in
        let end : Pauli = end_of R in
        let left : List (Step Float) = (left_run R).steps in
        let g : ℕ = (survey_of R).greatest in
        let last : ℕ = last_width R.width R.steps in
        let roomM : room g m.state ≡ true = (room_both (survey_of R) m here).0 in
        let roomU : room g u.state ≡ true = (room_both (survey_of R) u there).0 in
        let far : last ≤ g = le_trans (survey_greatest_last R.width R.steps) (greatest R) in
        let final = fitting_folded_end caller R.steps R.width (identity R.width) run.width run.allowed (identity_fitting R.width) refl in
        let near : end.n ≤ widest_kernel = rw final.width (le_trans final.within narrow) in
        let admitted : Admitted end = record { fitting = final.fitting; width = le_trans near (leb→le widest_kernel most_qubits tt) } in
        let one = running_answers caller s m R reads here in
        let two = running_answers caller t u (left_run R) read (same_row R u ∙ there) in
        let behind : correction_row end (ran R.width left u).state ≡ 0
        = may_fire end _ admitted near (rw final.width (room_under last g _ far (room_kept g (ran_sizes R.width left u).state roomU))) in
        record {
          end = end;
          t = t;
          folds = folds caller s R reads out enough;
          run = R;
          left = left_run R;
          reads = reads;
          read = read;
          shorter = shorter caller s R reads;
          ending = ending_of (survey_of R);
          whole = one.0;
          runs = two.0 ∙ ap accepted (left_ending R);
          alike = alike;
          last = final.width ∙ sym (last_width_lem R);
          behind = rw two.1 behind;
          same = λ finite b h.
              let numbers = fold_over_steps caller g R.steps R.width m u run.width run.allowed roomM roomU (greatest R) (finite (left_run R) read) agree.at
              b (rw (last_width_lem R) at h) in
              rw (one.1, two.1, fired_done end (ran R.width left u) behind) (same_says _ _ numbers.res, same_says _ _ numbers.ims);
          again = again;
        }

-- ---- the claims

module _ (caller : Caller) (narrow : caller.widest ≤ widest_kernel) (s out : List ℕ) where
  accepted_half : (m u : Memory) → Accepted caller s out m u → Folded caller s out m u
  unfolding folding_row
  accepted_half m u a =
      let one = running_done caller s m _ (accepted_value (running caller s m).answer a.here).is in
      let two = running_done caller s u _ (accepted_value (running caller s u).answer a.there).is in
      let three = folding_done caller s out _ (accepted_value (folding caller s out).answer a.folds).is in
      let R : Run = three.run in
      let same : (r : Run) → run_of caller s ≡ accepted r → r ≡ R = λ r was. accepted_same (sym was ∙ three.was) in
      assembled caller s R three.was narrow out (room_of R three.passed) m u (subst (λ (r : Run). memory_row (survey_of r) m ≡ 0) (same one.run one.was) one.passed)
      (subst (λ (r : Run). memory_row (survey_of r) u ≡ 0) (same two.run two.was) two.passed) (a.start R.width (run_allowed caller s R three.was).start)
    where
      room_of : (R : Run) → folding_row (length (folded_run R s)) (length out) ≡ 0 → length (folded_run R s) ≤ length out
      room_of R e = ltb-false _ _ (row_passed _ 16 0 (lit< tt) e).0

-- nothing is left but start and end
no_steps : (ts : List (Step Float)) → length ts ≡ 0 → ts ≡ []
no_steps [] e = refl
no_steps (t ∷ ts) e = absurd (omega (arith, e))

module _ (caller : Caller) (s : List ℕ) (R : Run) (reads : run_of caller s ≡ accepted R) (all : corrections R.steps ≡ length R.steps) where
  seven : folded_run R s ≡ start_bytes R.width ++ end_bytes
  seven =
      let p = run_pieces caller (folded_run R s) (left_run R) (read caller s R reads) in
      let none : (left_run R).steps ≡ [] = no_steps _ (omega (arith, all, (shorter caller s R reads).others)) in
      let ends = subst (λ (ts : List (Step Float)). Pieces caller R.width ts p.bytes) none p.pieces in
      p.whole ∙ ap (λ (l : List ℕ). start_bytes R.width ++ l) ends.is

  start_and_end : (out : List ℕ) (f : Folding) → (folding caller s out).answer ≡ accepted f
      → (f.size ≡ 7) × (take 7 (folding caller s out).lent ≡ start_bytes R.width ++ end_bytes)
  start_and_end out f e =
      let done = folding_done caller s out f e in
      let is : done.run ≡ R = accepted_same (sym done.was ∙ reads) in
      let t : folded_run done.run s ≡ start_bytes R.width ++ end_bytes = ap (λ (r : Run). folded_run r s) is ∙ seven in
      (ap (λ (f : Folding). f.size) done.value_is ∙ ap length t, ap (take 7) (done.lent_is ∙ ap (λ (l : List ℕ). l ++ drop (length l) out) t))

-- ---- one correction, right behind the start field

module _ (caller : Caller) (narrow : caller.widest ≤ widest_kernel) (s out other : List ℕ) (Q end : Pauli) (R : Run) (reads : run_of caller s ≡ accepted R) where
  carried : Bare R.steps → length s + 20 ≤ most_bytes → (carrying caller s Q other).answer ≡ accepted end → length s ≤ length out
      → folding caller (behind_start Q s) out ≡ record { answer = accepted (record { end = end; size = length s }); lent = sent caller s Q other ++ drop (length s) out }
  unfolding is_accepted
  carried bare short carries room =
      let known = (sent_accepted caller s Q other (rw carries)).known in
      let is : (sent_accepted caller s Q other (rw carries)).run ≡ R = accepted_same (sym known.read ∙ reads) in
      let width : Q.n ≡ R.width = known.width ∙ ap (λ (r : Run). r.width) is in
      let left : folded_run (begun caller narrow s R reads Q known.admitted width) (behind_start Q s) ≡ sent caller s Q other
      = begun_folded caller narrow s R reads Q known.admitted width bare ∙ sym (known.is ∙ ap (λ (r : Run). carried_run Q r s) is) in
      let ends : end_of (begun caller narrow s R reads Q known.admitted width) ≡ end
      = begun_end caller narrow s R reads Q known.admitted width bare ∙ sym (ap (λ (r : Run). end_pauli Q r.steps) is) ∙ accepted_same (sym known.ends ∙ carries) in
      let size : length (sent caller s Q other) ≡ length s = known.size in
      folds caller (behind_start Q s) _ (begun_read caller narrow s R reads Q known.admitted width short) out (omega (arith, ap length left, size, room))
      ∙ ap₂ (λ (P : Pauli) (t : List ℕ). did P t out) ends left
      ∙ ap (λ (n : ℕ). record { answer = accepted (record { end = end; size = n }); lent = sent caller s Q other ++ drop n out }) size

-- ---- the rows

module _ (caller : Caller) (s out : List ℕ) where
  run_first : (r at : ℕ) → checking caller s ≡ refused_at r at → (folding caller s out).answer ≡ refused_at r at
  unfolding folding on_run checking
  run_first r at e = rw (mapped_refused survey_of (run_of caller s) r at e)

  module _ (R : Run) (reads : run_of caller s ≡ accepted R) where
    roomy : length s ≤ length out + 20 * corrections R.steps → is_accepted (folding caller s out).answer ≡ true
    unfolding is_accepted
    roomy h = rw (folds caller s R reads out (omega (arith, h, folded_length caller s R reads)))

    surveyed : (v : Survey) → checking caller s ≡ accepted v → last_width R.width R.steps ≡ v.width
    unfolding checking mapped
    surveyed v e =
        let is : survey_of R ≡ v = accepted_same (rw reads at e) in
        sym (last_width_lem R) ∙ ap (λ (v : Survey). v.width) is

-- ---- the theorem

-- RUNS WITHOUT CORRECTIONS for any caller whose states can all be corrected
pub without_corrections : (caller : Caller) → caller.widest ≤ widest_kernel → WithoutCorrections caller
without_corrections caller narrow = record {
  accepts = accepted_half caller narrow;
  none = λ s out R v reads checked bare h.
      given_back caller s R reads out bare h ∙ ap (λ (n : ℕ). did (identity n) s out) (surveyed caller s out R reads v checked);
  nothing_else = λ s out R f reads all. start_and_end caller s R reads all out f;
  first = λ s out other Q end R reads. carried caller narrow s out other Q end R reads;
  run_first = run_first caller;
  short = λ s out R reads h. too_short caller s R reads out (omega (arith, h, folded_length caller s R reads));
  room = roomy caller;
  kept = folding_kept caller;
}

-- and so for the service and for the emulator, which is what the calls fold_run and run_contiguous promise of each
pub without_corrections_at_the_service : WithoutCorrections service
without_corrections_at_the_service = without_corrections service (leb→le widest_run widest_kernel tt)

pub without_corrections_at_the_emulator : WithoutCorrections emulator
without_corrections_at_the_emulator = without_corrections emulator (leb→le widest_emulated widest_kernel tt)
