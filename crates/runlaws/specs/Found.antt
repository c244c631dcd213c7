-- What finding a step answers, by the run that is read and by its rows.
use Rattle.std.specs.Prelude.{◌≡◌, refl, List, ℕ, zero, suc, ◌<◌, Float}
use Rattle.std.proofs.Common.{sym, ap, ◌∙◌, zero-lt-suc}
use Rattle.std.proofs.Math.Option.{Option, none, some}
use Rattle.std.proofs.Math.ListN.{get_elem?}
use Rattle.answers.specs.Answer.{Answer}
use Rattle.answers.specs.Answer.Answer.{accepted, refused, refused_at}
use Rattle.answers.specs.Row.{answered, answered_some, refused_accepted, refused_at_accepted, accepted_same}
use Rattle.paulilaws.specs.Pauli.{Pauli}
use Rattle.framelaws.specs.Caller.{Caller}
use Rattle.framelaws.specs.PassRow.{placed_row}
use Rattle.framelaws.specs.Reporting.{Framed, framed_steps}
use Rattle.runlaws.specs.Run.{Run, chained, run_of}
use Rattle.runlaws.specs.Calls.{on_run, of_run, framing, found, finding, frames_of}

module _ (caller : Caller) (s : List ℕ) (Q : Pauli) where
  pub framing_refused : (r at : ℕ) → run_of caller s ≡ refused_at r at → framing caller s Q ≡ refused_at r at
  unfolding framing of_run on_run
  framing_refused r at e = rw e

  module _ (R : Run) (e : run_of caller s ≡ accepted R) where
    pub framing_by : framing caller s Q ≡ answered (placed_row Q R.width) (frames_of Q R)
    unfolding framing of_run on_run
    framing_by = rw e

    pub framing_row : (r : ℕ) → placed_row Q R.width ≡ r → 0 < r → framing caller s Q ≡ refused r
    framing_row r is h = rw (framing_by, is) (answered_some r (frames_of Q R) h)

    pub framing_is : placed_row Q R.width ≡ 0 → framing caller s Q ≡ accepted (frames_of Q R)
    unfolding answered
    framing_is z = rw (framing_by, z)

  module _ (i : ℕ) where
    pub finding_refused : (r at : ℕ) → run_of caller s ≡ refused_at r at → finding caller s Q i ≡ refused_at r at
    unfolding finding chained
    finding_refused r at e = rw (framing_refused r at e)

    -- a run is refused with a place; this is the other case of an answer
    finding_unplaced : (r : ℕ) → run_of caller s ≡ refused r → finding caller s Q i ≡ refused r
    unfolding finding chained framing of_run on_run
    finding_unplaced r e = rw e

    module _ (R : Run) (e : run_of caller s ≡ accepted R) where
      pub finding_row : (r : ℕ) → placed_row Q R.width ≡ r → 0 < r → finding caller s Q i ≡ refused r
      unfolding finding chained
      finding_row r is h = rw (framing_row R e r is h)

      pub finding_is : placed_row Q R.width ≡ 0 → finding caller s Q i ≡ found (get_elem? (framed_steps Q R.steps) i)
      unfolding finding chained
      finding_is z = rw (framing_is R e z)

-- ---- a step that is found

found_some : (o : Option (Framed Float)) (f : Framed Float) → found o ≡ accepted f → o ≡ some f
unfolding found
found_some none f e = absurd (refused_accepted e)
found_some (some g) f e = ap some (accepted_same e)

pub record Found (caller : Caller) (s : List ℕ) (Q : Pauli) (i : ℕ) (f : Framed Float) : Type 0 where
  pub run : Run
  pub read : run_of caller s ≡ accepted run
  pub placed : placed_row Q run.width ≡ 0
  pub is : get_elem? (framed_steps Q run.steps) i ≡ some f

pub finding_found : (caller : Caller) (s : List ℕ) (Q : Pauli) (i : ℕ) (f : Framed Float) → finding caller s Q i ≡ accepted f → Found caller s Q i f
finding_found caller s Q i f e = by (run_of caller s) refl
  where
    by_row_lem : (R : Run) → run_of caller s ≡ accepted R → (r : ℕ) → placed_row Q R.width ≡ r → Found caller s Q i f
    by_row_lem R read zero row = record { run = R; read = read; placed = row; is = found_some _ f (sym (finding_is caller s Q i R read row) ∙ e) }
    by_row_lem R read (suc r) row = absurd (refused_accepted (sym (finding_row caller s Q i R read (suc r) row (zero-lt-suc r)) ∙ e))

    by : (a : Answer Run) → run_of caller s ≡ a → Found caller s Q i f
    by (accepted R) read = by_row_lem R read (placed_row Q R.width) refl
    by (refused n) read = absurd (refused_accepted (sym (finding_unplaced caller s Q i n read) ∙ e))
    by (refused_at n at) read = absurd (refused_at_accepted (sym (finding_refused caller s Q i n at read) ∙ e))
