-- What running a run answers and leaves, by what its check says and by row 13.
use mathlib.Core.Path.{◌≡◌, refl, sym, ap}
use mathlib.Core.List.{List}
use Prim.Native.Nat.{ℕ}
use Rattle.answers.specs.Answer.{Answer}
use Rattle.answers.specs.Answer.Answer.{accepted, refused, refused_at}
use Rattle.answers.specs.Row.{answered_none, refusing}
use Rattle.framelaws.specs.Caller.{Caller}
use Rattle.framelaws.specs.Survey.{Survey}
use Rattle.framelaws.specs.Memory.{Memory, ran}
use Rattle.runlaws.specs.Run.{run_of}
use Rattle.runlaws.specs.Calls.{Ending, CheckedRun, checked_run_of, ending_of, on_run, by_row, survey_of, checking_with_start, memory_row, running}
use Rattle.runlaws.specs.Mapped.{From, mapped_accepted, mapped_refused}
use Rattle.runner.specs.Ready.{RunReady}

module _ (caller : Caller) (s : List ℕ) (m : Memory) where
  -- the answer a, and u left
  abbrev pub Runs : Answer Ending → Memory → Type 0
  Runs a u = (a ≡ (running caller s m).answer) × (u ≡ (running caller s m).lent)

  pub runs_refused : (n at : ℕ) → checking_with_start caller s ≡ refused_at n at → Runs (refused_at n at) m
  unfolding checking_with_start running on_run
  runs_refused n at e = rw (mapped_refused checked_run_of (run_of caller s) n at e) (refl, refl)

  module _ (start : ℕ) (v : Survey) (e : checking_with_start caller s ≡ accepted (record { start = start; survey = v })) where
    checked : From checked_run_of (run_of caller s) (record { start = start; survey = v })
    unfolding checking_with_start
    checked = mapped_accepted checked_run_of (run_of caller s) (record { start = start; survey = v }) e

    survey_is : v ≡ survey_of checked.value
    survey_is = ap (λ (k : CheckedRun). k.survey) checked.is

    -- by row 13
    by_memory : running caller s m ≡ by_row (memory_row v m) (ending_of v) (ran checked.value.width checked.value.steps m) m
    unfolding running on_run
    by_memory =
        let end = ran checked.value.width checked.value.steps m in
        rw checked.was (ap (λ (w : Survey). by_row (memory_row w m) (ending_of w) end m) (sym survey_is))

    pub runs_short : (r : ℕ) → r ≡ memory_row v m → (r ≡ 0 → ⊥) → Runs (refused r) m
    runs_short r h ne = rw by_memory (refusing (memory_row v m) (ending_of v) _ m r h ne)

    module _ (h : memory_row v m ≡ 0) where
      pub runs_ready : RunReady caller s start m
      runs_ready = record {
        run = checked.value;
        is = checked.was;
        start = ap (λ (k : CheckedRun). k.start) checked.is;
        row = rw (← survey_is) h;
      }

      pub runs_finished : {u : Memory} → u ≡ (running caller s m).lent → Runs (accepted (ending_of v)) u
      runs_finished done = (rw by_memory (sym (answered_none (memory_row v m) (ending_of v) h)), done)
