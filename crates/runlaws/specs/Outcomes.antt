-- What is known of a call on a run that is accepted, and of one that is not.
use Rattle.std.proofs.Math.Path.{◌≡◌, refl}
use Rattle.std.proofs.Common.{sym, arith, lit<, ltb-false}
use Rattle.std.specs.Prelude.{Bool, true, not, ◌&&◌, List, [], ◌∷◌, ◌++◌, ltb, Float, length, drop}
use Rattle.std.proofs.Math.Bool.{false}
use Prim.Native.Nat.{ℕ, zero, suc, ◌≤◌}
use Rattle.std.proofs.lemmas.Bool.{not-false}
use Rattle.answers.specs.Answer.{Answer, is_accepted}
use Rattle.answers.specs.Answer.Answer.{accepted, refused, refused_at}
use Rattle.answers.specs.Row.{row, answered, left, refused_accepted, refused_at_accepted, accepted_row, answered_none, left_none, row_passed, first_passed}
use Rattle.paulilaws.specs.Pauli.{Pauli}
use Rattle.paulilaws.specs.Fitting.{Admitted, both_left, both_right}
use Rattle.amplitudelaws.specs.Rows.{room_row}
use Rattle.amplitudelaws.specs.State.{room_for, room}
use Rattle.framelaws.specs.Caller.{Caller}
use Rattle.framelaws.specs.Allowed.{Allowed}
use Rattle.framelaws.specs.Carrying.{end_pauli}
use Rattle.framelaws.specs.Memory.{Memory, ran}
use Rattle.framelaws.specs.PassRow.{placed_row}
use Rattle.framelaws.specs.Passing.{width_kept}
use Rattle.framelaws.specs.Suited.{placed_passed}
use Rattle.amplitudelaws.specs.Step.{Step, width_after, last_width}
use Rattle.framelaws.specs.Survey.{Survey}
use Rattle.framelaws.specs.Surveyed.{survey_width}
use Rattle.runlaws.specs.FoldedRun.{folded_run}
use Rattle.runlaws.specs.FrameLog.{frame_log}
use Rattle.runlaws.specs.Run.{Run, run_of}
use Rattle.runlaws.specs.Calls.{Outcome, on_run, by_row, survey_of, Ending, ending_of, memory_row, running, carrying_row, carried_run, carrying, Folding, folding_of, folding_row, folding, logging}
use Rattle.runlaws.specs.WholeRun.{run_allowed}

-- a call that has done its work: the run that it read, and no row of its own
pub record Done {A B : Type 0} (read : Answer Run) (o : Outcome A B) (row : Run → ℕ) (value : Run → A) (new : Run → B) (a : A) : Type 0 where
  pub run : Run
  pub was : read ≡ accepted run
  pub passed : row run ≡ 0
  pub value_is : a ≡ value run
  pub lent_is : o.lent ≡ new run

module _ {A B : Type 0} (row : Run → ℕ) (value : Run → A) (new : Run → B) (old : B) where
  -- what a call on a run does
  abbrev pub outcome : Answer Run → Outcome A B
  outcome read = on_run read old (λ R. by_row (row R) (value R) (new R) old)

  pub done : (read : Answer Run) (a : A) → (outcome read).answer ≡ accepted a → Done read (outcome read) row value new a
  unfolding on_run
  done (accepted R) a e =
      let known = accepted_row (row R) (value R) a (sym e) in
      record { run = R; was = refl; passed = known.0; value_is = known.1; lent_is = left_none (row R) (new R) old known.0 }
  done (refused n) a e = absurd (refused_accepted e)
  done (refused_at n at) a e = absurd (refused_at_accepted e)

  answers : (read : Answer Run) (R : Run) → read ≡ accepted R → row R ≡ 0 → ((outcome read).answer ≡ accepted (value R)) × ((outcome read).lent ≡ new R)
  unfolding on_run
  answers read R e z = rw e (answered_none (row R) (value R) z, left_none (row R) (new R) old z)

  kept : (read : Answer Run) → is_accepted (outcome read).answer ≡ false → (outcome read).lent ≡ old
  unfolding on_run is_accepted
  kept (accepted R) e = by_row_lem (row R) e
    where
      by_row_lem : (r : ℕ) → is_accepted (answered r (value R)) ≡ false → left r (new R) old ≡ old
      by_row_lem zero e = absurd (let z : ◌≡◌ {A = ℕ} 0 1 = unfold answered in cc in omega arith)
      by_row_lem (suc r) e = unfold left in refl
  kept (refused n) e = refl
  kept (refused_at n at) e = refl

-- ---- running

-- both groups of buffers have their room
pub room_both : (v : Survey) (m : Memory) → memory_row v m ≡ 0 → (room v.greatest m.state ≡ true) × (room_for v.scratch m.scratch ≡ true)
unfolding memory_row room_row
room_both v m e =
    let a : Bool = room v.greatest m.state in
    let b : Bool = room_for v.scratch m.scratch in
    let enough = not-false (a && b) (row_passed (not (a && b)) 13 0 (lit< tt) e).0 in
    (both_left a b enough, both_right a b enough)

module _ (caller : Caller) (s : List ℕ) (m : Memory) where
  abbrev own_row : Run → ℕ
  own_row R = memory_row (survey_of R) m

  abbrev ends : Run → Ending
  ends R = ending_of (survey_of R)

  abbrev after : Run → Memory
  after R = ran R.width R.steps m

  pub running_done : (E : Ending) → (running caller s m).answer ≡ accepted E → Done (run_of caller s) (running caller s m) own_row ends after E
  unfolding running
  running_done E e = done own_row ends after m (run_of caller s) E e

  pub running_answers : (R : Run) → run_of caller s ≡ accepted R → own_row R ≡ 0 → ((running caller s m).answer ≡ accepted (ends R)) × ((running caller s m).lent ≡ after R)
  unfolding running
  running_answers R e z = answers own_row ends after m (run_of caller s) R e z

  -- a refused run leaves the state and the scratch as they were
  pub running_kept : is_accepted (running caller s m).answer ≡ false → (running caller s m).lent ≡ m
  unfolding running
  running_kept e = kept own_row ends after m (run_of caller s) e

-- ---- where an accepted run ends

pub last_within : (caller : Caller) (n : ℕ) (ts : List (Step Float)) → n ≤ caller.widest → Allowed caller n ts → last_width n ts ≤ caller.widest
unfolding last_width
last_within caller n [] h a = h
last_within caller n (t ∷ ts) h a = last_within caller (width_after n t) ts (width_kept caller n t h a.1) a.2

pub ending_within : (caller : Caller) (s : List ℕ) (m : Memory) (E : Ending) → (running caller s m).answer ≡ accepted E → E.width ≤ caller.widest
unfolding survey_of
ending_within caller s m E e =
    let known = running_done caller s m E e in
    let R : Run = known.run in
    let read = run_allowed caller s R known.was in
    rw (known.value_is, survey_width R.width R.steps) (last_within caller R.width R.steps read.width read.allowed)

-- ---- carrying

-- Q is a Pauli on the start qubits, and the output has room
pub carrying_passed : (Q : Pauli) (width size room : ℕ) → carrying_row Q width size room ≡ 0 → Admitted Q × (Q.n ≡ width) × (size ≤ room)
unfolding carrying_row
carrying_passed Q width size room e =
    let rows = first_passed (placed_row Q width) (row (ltb room size) 16 0) e in
    let placed = placed_passed Q width rows.0 in
    (placed.0, placed.1, ltb-false room size (row_passed (ltb room size) 16 0 (lit< tt) rows.1).0)

module _ (caller : Caller) (s : List ℕ) (Q : Pauli) (out : List ℕ) where
  abbrev carry_row : Run → ℕ
  carry_row R = carrying_row Q R.width (length s) (length out)

  abbrev ending : Run → Pauli
  ending R = end_pauli Q R.steps

  abbrev output : Run → List ℕ
  output R = carried_run Q R s ++ drop (length s) out

  pub carrying_done : (end : Pauli) → (carrying caller s Q out).answer ≡ accepted end → Done (run_of caller s) (carrying caller s Q out) carry_row ending output end
  unfolding carrying
  carrying_done end e = done carry_row ending output out (run_of caller s) end e

  pub carrying_answers : (R : Run) → run_of caller s ≡ accepted R → carry_row R ≡ 0 → ((carrying caller s Q out).answer ≡ accepted (ending R)) × ((carrying caller s Q out).lent ≡ output R)
  unfolding carrying
  carrying_answers R e z = answers carry_row ending output out (run_of caller s) R e z

  -- a refused call leaves the output as it was
  pub carrying_kept : is_accepted (carrying caller s Q out).answer ≡ false → (carrying caller s Q out).lent ≡ out
  unfolding carrying
  carrying_kept e = kept carry_row ending output out (run_of caller s) e

-- ---- folding

module _ (caller : Caller) (s out : List ℕ) where
  abbrev fold_row : Run → ℕ
  fold_row R = folding_row (length (folded_run R s)) (length out)

  abbrev closed : Run → List ℕ
  closed R = folded_run R s ++ drop (length (folded_run R s)) out

  pub folding_done : (f : Folding) → (folding caller s out).answer ≡ accepted f → Done (run_of caller s) (folding caller s out) fold_row (folding_of s) closed f
  unfolding folding
  folding_done f e = done fold_row (folding_of s) closed out (run_of caller s) f e

  pub folding_answers : (R : Run) → run_of caller s ≡ accepted R → fold_row R ≡ 0
      → ((folding caller s out).answer ≡ accepted (folding_of s R)) × ((folding caller s out).lent ≡ closed R)
  unfolding folding
  folding_answers R e z = answers fold_row (folding_of s) closed out (run_of caller s) R e z

  -- a refused call leaves the output as it was
  pub folding_kept : is_accepted (folding caller s out).answer ≡ false → (folding caller s out).lent ≡ out
  unfolding folding
  folding_kept e = kept fold_row (folding_of s) closed out (run_of caller s) e

-- ---- logging

module _ (caller : Caller) (s : List ℕ) (Q : Pauli) (out : List ℕ) where
  abbrev log : Run → List ℕ
  log R = frame_log Q R.steps

  abbrev log_row : Run → ℕ
  log_row R = carrying_row Q R.width (length (log R)) (length out)

  abbrev size : Run → ℕ
  size R = length (log R)

  abbrev logged : Run → List ℕ
  logged R = log R ++ drop (length (log R)) out

  pub logging_done : (n : ℕ) → (logging caller s Q out).answer ≡ accepted n → Done (run_of caller s) (logging caller s Q out) log_row size logged n
  unfolding logging
  logging_done n e = done log_row size logged out (run_of caller s) n e

  -- a refused call leaves the output as it was
  pub logging_kept : is_accepted (logging caller s Q out).answer ≡ false → (logging caller s Q out).lent ≡ out
  unfolding logging
  logging_kept e = kept log_row size logged out (run_of caller s) e
