-- Of a Pauli with masks of one word nothing else is listed: a run is on so few qubits. And what is read from a text fits.
use Rattle.std.specs.Prelude.{◌≡◌, Bool, true, false, not, List, [], ◌∷◌, ltb, eqb, length}
use Rattle.std.proofs.Math.Path.{refl, ap}
use Rattle.std.proofs.Common.{subst, arith}
use Rattle.std.proofs.Math.Option.{Option, none, some}
use Prim.Native.Nat.{ℕ, zero, suc, ◌+◌, ◌≤◌}
use Rattle.std.proofs.Math.ListN.{get_elem?}
use Rattle.activepauli.specs.Narrowed.{narrowed, narrowed_small, narrowed_fits}
use Rattle.answers.specs.Answer.{Answer, refuse}
use Rattle.answers.specs.Answer.Answer.{accepted, refused, refused_at}
use Rattle.answers.specs.Row.{row, answered, refused_accepted, refused_at_accepted, accepted_same}
use Rattle.paulilaws.specs.Pauli.{Pauli, identity, most_qubits}
use Rattle.paulilaws.specs.Fitting.{Fitting, identity_fitting, letter_fitting}
use Rattle.paulilaws.specs.Letter.{Letter, with_letter}
use Rattle.paulitext.specs.Calls.{read_call}
use Rattle.paulitext.specs.Text.{letter_of_byte, on_letter, reading}
use Rattle.framelaws.specs.Caller.{service}
use Rattle.framelaws.specs.PassRow.{placed_row}
use Rattle.framelaws.specs.Suited.{placed_passed}
use Rattle.runlaws.specs.Calls.{Frames, frames_of, on_run, of_run, framing, found, finding}
use Rattle.runlaws.specs.Run.{Run, chained, run_of}
use Rattle.runlaws.specs.WholeRun.{run_allowed}
use Rattle.reports.specs.Listing.{frames_text, answer_text, step_listed, steps_listed, asked}
use Rattle.reports.specs.Input.{after, number}
use Rattle.reports.specs.Text.{step_line}

module _ (Q : Pauli) (f : Fitting Q) where
  narrowed_row : (n : ℕ) → placed_row (narrowed Q) n ≡ placed_row Q n
  unfolding narrowed placed_row
  narrowed_row n = ap (λ (t : Bool). row (not t) 3 (row (not (eqb Q.n n)) 4 0)) (narrowed_fits Q f)

  -- where no row refuses, it is on the run's qubits, which are few
  frames_narrowed : (s : List ℕ) (R : Run) → run_of service s ≡ accepted R
      → answered (placed_row (narrowed Q) R.width) (frames_of (narrowed Q) R) ≡ answered (placed_row Q R.width) (frames_of Q R)
  unfolding answered
  frames_narrowed s R read = by (placed_row Q R.width) refl
    where
      by : (r : ℕ) → placed_row Q R.width ≡ r
          → answered (placed_row (narrowed Q) R.width) (frames_of (narrowed Q) R) ≡ answered (placed_row Q R.width) (frames_of Q R)
      by zero e =
          let few = (run_allowed service s R read).width in
          ap (λ (P : Pauli). answered (placed_row P R.width) (frames_of P R)) (narrowed_small Q f (omega (arith, few, (placed_passed Q R.width e).1)))
      by (suc r) e = rw (narrowed_row R.width, e)

  framing_narrowed : (s : List ℕ) → framing service s (narrowed Q) ≡ framing service s Q
  unfolding framing of_run on_run
  framing_narrowed s = by (run_of service s) refl
    where
      framed : Pauli → Answer Run → Answer Frames
      framed P a = of_run a (λ R. answered (placed_row P R.width) (frames_of P R))

      by : (a : Answer Run) → run_of service s ≡ a → framed (narrowed Q) a ≡ framed Q a
      by (accepted R) read = frames_narrowed s R read
      by (refused n) read = refl
      by (refused_at n at) read = refl

  pub steps_narrowed : (s : List ℕ) → steps_listed s (narrowed Q) ≡ steps_listed s Q
  unfolding steps_listed
  steps_narrowed s = ap (answer_text frames_text) (framing_narrowed s)

  pub step_narrowed : (s : List ℕ) (i : ℕ) → step_listed s (narrowed Q) i ≡ step_listed s Q i
  unfolding step_listed finding
  step_narrowed s i = ap (λ (a : Answer Frames). answer_text (step_line i) (chained a (λ F. found (get_elem? F.steps i)))) (framing_narrowed s)

  pub asked_narrowed : (line s : List ℕ) → asked line s (narrowed Q) ≡ asked line s Q
  unfolding asked
  asked_narrowed line s = rw (step_narrowed s (number (after 32 line)), steps_narrowed s)

-- ---- a text that is read

reading_fitting : (q : ℕ) (bs : List ℕ) (P R : Pauli) → q + length bs ≤ P.n → Fitting P → reading q bs P ≡ accepted R → Fitting R
unfolding reading with_letter
reading_fitting q [] P R h f e = subst Fitting (accepted_same e) f
reading_fitting q (b ∷ bs) P R h f e =
    by (letter_of_byte b) (λ l. reading_fitting (suc q) bs (with_letter q l P) R (omega (arith, h)) (letter_fitting q l P (omega (arith, h)) f)) e
  where
    by : (o : Option Letter) → ((l : Letter) → reading (suc q) bs (with_letter q l P) ≡ accepted R → Fitting R)
        → on_letter o (refused_at 2 q) (λ l. reading (suc q) bs (with_letter q l P)) ≡ accepted R → Fitting R
    by none rest e = absurd (refused_at_accepted e)
    by (some l) rest e = rest l e

pub read_fitting : (s : List ℕ) (P : Pauli) → read_call s ≡ accepted P → Fitting P
unfolding read_call refuse
read_fitting s P e = by (ltb most_qubits (length s)) e
  where
    by : (t : Bool) → refuse t 1 (reading 0 s (identity (length s))) ≡ accepted P → Fitting P
    by true e = absurd (refused_accepted e)
    by false e = reading_fitting 0 s (identity (length s)) P (omega arith) (identity_fitting (length s)) e
