-- The two callers, proved: TwoCallers.antt states it. For any wide and any narrow caller, and so for the service and the emulator.
use Rattle.std.specs.Prelude.{◌≡◌, true, List, ◌⊎◌, ℕ, ◌-◌, ◌≤◌, ◌<◌}
use Rattle.std.proofs.Common.{◌∙◌, subst, inl, inr, le_trans, arith, leb→le}
use Rattle.answers.specs.Answer.{is_accepted}
use Rattle.answers.specs.Answer.Answer.{accepted}
use Rattle.amplitudelaws.specs.State.{HasRoom}
use Rattle.framelaws.specs.Caller.{Caller, service, emulator, widest_run, widest_emulated}
use Rattle.framelaws.specs.Memory.{Memory}
use Rattle.runlaws.specs.Run.{Run, mapped, run_of}
use Rattle.runlaws.specs.Calls.{CheckedRun, checked_run_of, survey_of, checking_with_start, running}
use Rattle.runlaws.specs.Frame.{Agreeing}
use Rattle.runlaws.specs.Mapped.{mapped_accepted}
use Rattle.runlaws.specs.Roomy.{run_within, widest_room}
use Rattle.runlaws.specs.TwoCallers.{Agreed, Own, TwoCallers}
use Rattle.runlaws.specs.SharedRun.{run_alike, shared_agreed}
use Rattle.runlaws.proofs.OwnRow.{run_or_own, read_or_own}

-- a run that the wide one accepts, and whose width passes the narrow one's greatest
refuses_own : (wide narrow : Caller) → narrow.widest ≤ wide.widest → (s : List ℕ) (R : Run) → run_of wide s ≡ accepted R → narrow.widest < (survey_of R).greatest
    → Own wide narrow s
refuses_own wide narrow order s R e past = go (run_or_own wide narrow order s)
  where
    go : (run_of narrow s ≡ run_of wide s) ⊎ Own wide narrow s → Own wide narrow s
    go (inl same) = absurd (omega (arith, past, (run_within narrow s R (same ∙ e)).greatest))
    go (inr own) = own

-- THE TWO CALLERS, of which one is the narrower
pub two_callers : (wide narrow : Caller) → narrow.widest ≤ wide.widest → TwoCallers wide narrow
unfolding checking_with_start mapped
two_callers wide narrow order = record {
  forth = shared_agreed wide narrow;
  back = shared_agreed narrow wide;
  narrows = λ s C e.
      let known = mapped_accepted checked_run_of (run_of narrow s) C e in
      let within = (run_within narrow s known.value known.was).greatest in
      rw known.is (rw (run_alike narrow wide s known.value known.was (le_trans within order)), within);
  passes = λ s C e past.
      let known = mapped_accepted checked_run_of (run_of wide s) C e in
      refuses_own wide narrow order s known.value known.was (rw known.is at past);
  otherwise = run_or_own wide narrow order;
  reads = read_or_own wide narrow order;
}

-- and so the service and the emulator
pub service_and_emulator : TwoCallers service emulator
service_and_emulator = two_callers service emulator (leb→le widest_emulated widest_run tt)

-- On a board that has its 64 amplitudes, and a scratch of 32, nothing is to be known of the run's room.
pub on_the_board : (s : List ℕ) (m u : Memory) (C : CheckedRun) → is_accepted (running service s m).answer ≡ true → checking_with_start service s ≡ accepted C
    → C.survey.greatest ≤ widest_emulated → HasRoom widest_emulated u.state → HasRoom (widest_emulated - 1) u.scratch → Agreeing C.start m.state u.state → Agreed service emulator s m u
unfolding checking_with_start
on_the_board s m u C here checks narrow states mixtures start =
    let known = mapped_accepted checked_run_of (run_of service s) C checks in
    let R : Run = known.value in
    let small : (survey_of R).greatest ≤ widest_emulated = subst (λ (C : CheckedRun). C.survey.greatest ≤ widest_emulated) known.is narrow in
    let room = widest_room emulator u states mixtures s R (run_alike service emulator s R known.was small) in
    shared_agreed service emulator s m u (record {
      here = here;
      checked = C;
      checks = checks;
      narrow = narrow;
      room = rw known.is room;
      start = start;
    })
