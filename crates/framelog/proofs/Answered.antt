-- What logging and judging answer and leave, from what the check, the walks and the rows say.
use mathlib.Core.Path.{◌≡◌, refl, sym, ap, ap₂, ◌∙◌, subst}
use mathlib.Core.Bool.{Bool, not}
use mathlib.Core.List.{List, ◌++◌}
use Prim.Native.Nat.{ℕ, ◌+◌, ◌≤◌}
use lib.Dec.{eqb, ltb, lit<}
use lib.ListN.{length, drop}
use borrow.Author.Tests.{eqb-true, not-false}
use Rattle.answers.specs.Answer.{Answer}
use Rattle.answers.specs.Answer.Answer.{accepted, refused, refused_at}
use Rattle.answers.specs.Row.{row, first, answered, row_passed, first_passed, answered_none, answered_some, some_row, refusing, passing}
use Rattle.paulilaws.specs.Pauli.{Pauli}
use Rattle.framelaws.specs.Caller.{Caller}
use Rattle.framelaws.specs.PassRow.{placed_row}
use Rattle.framelaws.specs.Suited.{placed_passed}
use Rattle.framelaws.specs.Survey.{Survey}
use Rattle.runlaws.specs.Calls.{on_run, of_run, checked_run_of, checking_with_start, carrying_row, logging, judging_row, judging}
use Rattle.runlaws.specs.FrameLog.{flags_of, is_same}
use Rattle.runlaws.proofs.Logged.{log_length}
use Rattle.runlaws.specs.Mapped.{mapped_refused}
use Rattle.runlaws.specs.OnStart.{run_in, OnStart, checked_read, checked_start}
use Rattle.runlaws.specs.Outcomes.{carrying_passed}
use Rattle.runlaws.specs.Run.{Run, run_of}
use Rattle.framelog.specs.LogIn.{log_in, Started}

module _ (caller : Caller) (s : List ℕ) (Q : Pauli) where
  -- the answer a, and u left in the output
  abbrev pub Logs : List ℕ → Answer ℕ → List ℕ → Type 0
  Logs out a u = (a ≡ (logging caller s Q out).answer) × (u ≡ (logging caller s Q out).lent)

  -- ---- a run that is refused

  module _ (n at : ℕ) (e : checking_with_start caller s ≡ refused_at n at) where
    refused_run : run_of caller s ≡ refused_at n at
    unfolding checking_with_start
    refused_run = mapped_refused checked_run_of (run_of caller s) n at e

    pub not_logged : (out : List ℕ) → Logs out (refused_at n at) out
    unfolding logging on_run
    not_logged out = rw refused_run (refl, refl)

    pub not_judged : (log : List ℕ) → refused_at n at ≡ judging caller s Q log
    unfolding judging of_run on_run
    not_judged log = rw refused_run

  -- ---- a run that is checked: its start width, and the right log's length by the walk

  module _ {width : ℕ} {v : Survey} (checked : checking_with_start caller s ≡ accepted (record { start = width; survey = v })) where
    abbrev R : Run
    R = run_in caller s

    abbrev right : List ℕ
    right = log_in caller s Q

    pub started : Started caller s width
    started = record { read = checked_read caller s checked; start = checked_start caller s checked }

    -- where no row refuses
    on_start : placed_row Q width ≡ 0 → OnStart caller s Q
    on_start z =
        let placed = placed_passed Q width z in
        record { read = checked_read caller s checked; admitted = placed.0; width = placed.1 ∙ checked_start caller s checked }

    module _ {size : ℕ} (sized : size ≡ length (flags_of R.steps) + 17) where
      pub size_is : size ≡ length right
      size_is = sized ∙ sym (log_length Q R.steps)

      module _ (out : List ℕ) {r : ℕ} (is : r ≡ first (placed_row Q width) (row (ltb (length out) size) 16 0)) where
        abbrev new : List ℕ
        new = right ++ drop (length right) out

        logging_row : r ≡ carrying_row Q R.width (length right) (length out)
        unfolding carrying_row
        logging_row = is ∙ ap₂ (λ (n k : ℕ). first (placed_row Q n) (row (ltb (length out) k) 16 0)) (checked_start caller s checked) size_is

        pub log_refused : (r ≡ 0 → ⊥) → Logs out (refused r) out
        unfolding logging on_run
        log_refused ne =
            rw (checked_read caller s checked) (refusing (carrying_row Q R.width (length right) (length out)) (length right) new out r logging_row ne)

        pub log_ready : r ≡ 0 → OnStart caller s Q × (length right ≤ length out)
        log_ready z =
            (on_start (first_passed (placed_row Q width) _ (sym is ∙ z)).0, (carrying_passed Q R.width (length right) (length out) (sym logging_row ∙ z)).2)

        pub logged : r ≡ 0 → (out' : List ℕ) → out' ≡ new → Logs out (accepted size) out'
        unfolding logging on_run
        logged z out' writes =
            rw (checked_read caller s checked, size_is)
            (passing (carrying_row Q R.width (length right) (length out)) (length right) new out out' (sym logging_row ∙ z) writes)

      module _ (log : List ℕ) {r : ℕ} (is : r ≡ first (placed_row Q width) (row (not (eqb (length log) size)) 24 0)) where
        judging_row_lem : r ≡ judging_row Q R.width (length right) (length log)
        unfolding judging_row
        judging_row_lem = is ∙ ap₂ (λ (n k : ℕ). first (placed_row Q n) (row (not (eqb (length log) k)) 24 0)) (checked_start caller s checked) size_is

        judged_by_lem : judging caller s Q log ≡ answered r (is_same log right)
        unfolding judging of_run on_run
        judged_by_lem = rw (checked_read caller s checked, ← judging_row_lem)

        pub judge_refused : (r ≡ 0 → ⊥) → refused r ≡ judging caller s Q log
        judge_refused ne = sym (judged_by_lem ∙ answered_some r (is_same log right) (some_row r ne))

        pub judge_ready : r ≡ 0 → OnStart caller s Q × (length log ≡ length right)
        judge_ready z =
            let rows = first_passed (placed_row Q width) _ (sym is ∙ z) in
            let same = not-false (eqb (length log) size) (row_passed (not (eqb (length log) size)) 24 0 (lit< tt) rows.1).0 in
            (on_start rows.0, eqb-true (length log) size same ∙ size_is)

        pub judged : r ≡ 0 → (same : Bool) → same ≡ is_same log right → accepted same ≡ judging caller s Q log
        judged z same e = ap accepted e ∙ sym (judged_by_lem ∙ answered_none r (is_same log right) z)

-- callers under whom the same may be asked
pub logs_under : (s : List ℕ) (Q : Pauli) (out : List ℕ) {k l : Caller} {a : Answer ℕ} {u : List ℕ} → k ≡ l → Logs k s Q out a u → Logs l s Q out a u
logs_under s Q out {k} {l} {a} {u} same did = subst (λ (c : Caller). Logs c s Q out a u) same did
