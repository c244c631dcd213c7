-- RUNS WITHOUT CORRECTIONS, as it is stated: E2 of the change requests, over the definitions that fold_run, run_contiguous and correct_contiguous_active promise to the
-- service, and the first two to the emulator. Folding.antt proves it. Quarter turns are no corrections: they stay.
use Rattle.std.specs.Prelude.{◌≡◌, true, false, List, [], ◌∷◌, ◌++◌, ◌⊎◌, ℕ, ◌+◌, ◌*◌, ◌^◌, ◌≤◌, ◌<◌, length, take, drop}
use Rattle.std.proofs.Math.Option.{some}
use Rattle.answers.specs.Answer.{is_accepted}
use Rattle.answers.specs.Answer.Answer.{accepted, refused, refused_at}
use Rattle.paulilaws.specs.Pauli.{Pauli, identity}
use Rattle.amplitudelaws.specs.Rows.{correction_row}
use Rattle.amplitudelaws.specs.State.{point}
use Rattle.framelaws.specs.Caller.{Caller}
use Rattle.framelaws.specs.Folding.{corrections, Bare}
use Rattle.framelaws.specs.Memory.{Memory}
use Rattle.framelaws.specs.Survey.{Survey}
use Rattle.runlaws.specs.Bytes.{byte_at}
use Rattle.runlaws.specs.Calls.{Ending, Folding, checking, running, carrying, folding}
use Rattle.runlaws.specs.Field.{most_bytes, field_at}
use Rattle.runlaws.specs.Flags.{FlagIn}
use Rattle.runlaws.specs.FoldedRun.{kept_run}
use Rattle.runlaws.specs.Frame.{SameNumbers, Agreeing, FiniteRun, fired, sent}
use Rattle.runlaws.specs.Run.{Run, run_of, start_width}
use Rattle.runlaws.specs.WithCorrection.{behind_start}

-- ---- accepted

-- All that is asked. No row refuses running the run, here on two sets of buffers, or folding it. The two begin with the same start state; what lies past it, their
-- lengths, the scratch and the output's old bytes are any.
pub record Accepted (caller : Caller) (s out : List ℕ) (m u : Memory) : Type 0 where
  pub here : is_accepted (running caller s m).answer ≡ true
  pub there : is_accepted (running caller s u).answer ≡ true
  pub folds : is_accepted (folding caller s out).answer ≡ true
  pub start : (n : ℕ) → start_width (field_at s 0) ≡ some n → Agreeing n m.state u.state

-- The folded run t, which reads as `left`, against the run s, which reads as `run`.
pub record Shorter (s t : List ℕ) (run left : Run) : Type 0 where
  -- It starts at the same width. Every correction is removed, and all the other steps are left.
  pub start : left.width ≡ run.width
  pub bare : Bare left.steps
  pub others : length left.steps + corrections run.steps ≡ length run.steps
  -- Freed bytes are closed up, twenty for each correction: what is left are the bytes of the other fields, but for signs and branches.
  pub freed : length t + 20 * corrections run.steps ≡ length s
  pub size : length t ≡ length (kept_run run s)
  pub bytes : (i : ℕ) → (byte_at t i ≡ byte_at (kept_run run s) i) ⊎ FlagIn 4 left.steps i

-- What comes of it: on m the run is run; on u the folded run is run and the end Pauli is applied.
pub record Folded (caller : Caller) (s out : List ℕ) (m u : Memory) : Type 0 where
  -- What is answered: the end Pauli, and the length of the folded run t, which stands in the output's first bytes. What lies past it stays.
  pub end : Pauli
  pub t : List ℕ
  pub folds : folding caller s out ≡ record { answer = accepted (record { end = end; size = length t }); lent = t ++ drop (length t) out }
  -- What the two runs are.
  pub run : Run
  pub left : Run
  pub reads : run_of caller s ≡ accepted run
  pub read : run_of caller t ≡ accepted left
  pub shorter : Shorter s t run left
  -- The folded run is accepted too, with the same last width and the steps that are left; and on any buffers exactly where the run is.
  pub ending : Ending
  pub whole : (running caller s m).answer ≡ accepted ending
  pub runs : (running caller t u).answer ≡ accepted (record { width = ending.width; steps = length left.steps })
  pub alike : (w : Memory) → is_accepted (running caller t w).answer ≡ is_accepted (running caller s w).answer
  -- Nor does a row refuse the end Pauli behind it, which is on the last qubits.
  pub last : end.n ≡ ending.width
  pub behind : correction_row end (running caller t u).lent.state ≡ 0
  -- Where every amplitude of the folded run is finite at its start and after each step, both ways leave the same numbers in the first 2^n entries of re and im, n being
  -- the last width.
  pub same : FiniteRun caller t u → (b : ℕ) → b < 2 ^ ending.width
      → SameNumbers (point (running caller s m).lent.state b) (point (fired end (running caller t u).lent).state b)
  -- Folding it again, into any output that has room, gives it back with the identity.
  pub again : (o : List ℕ) → length t ≤ length o
      → folding caller t o ≡ record { answer = accepted (record { end = identity ending.width; size = length t }); lent = t ++ drop (length t) o }

-- ---- the theorem

pub record WithoutCorrections (caller : Caller) : Type 0 where
  pub accepts : (s out : List ℕ) (m u : Memory) → Accepted caller s out m u → Folded caller s out m u
  -- A run without corrections is given back with the identity; one of nothing but corrections becomes start and end, seven bytes.
  pub none : (s out : List ℕ) (R : Run) (v : Survey) → run_of caller s ≡ accepted R → checking caller s ≡ accepted v → Bare R.steps → length s ≤ length out
      → folding caller s out ≡ record { answer = accepted (record { end = identity v.width; size = length s }); lent = s ++ drop (length s) out }
  pub nothing_else : (s out : List ℕ) (R : Run) (f : Folding) → run_of caller s ≡ accepted R → corrections R.steps ≡ length R.steps
      → (folding caller s out).answer ≡ accepted f → (f.size ≡ 7) × (take 7 (folding caller s out).lent ≡ 1 ∷ 1 ∷ 0 ∷ R.width ∷ 6 ∷ 0 ∷ 0 ∷ [])
  -- Where the only correction is by Q and stands right behind the start field, folding is carrying Q through the rest: the same bytes are left, and the same end Pauli.
  pub first : (s out other : List ℕ) (Q end : Pauli) (R : Run) → run_of caller s ≡ accepted R → Bare R.steps → length s + 20 ≤ most_bytes
      → (carrying caller s Q other).answer ≡ accepted end → length s ≤ length out
      → folding caller (behind_start Q s) out ≡ record { answer = accepted (record { end = end; size = length s }); lent = sent caller s Q other ++ drop (length s) out }
  -- The rows in their order. The run's own, with their places, whatever the output is:
  pub run_first : (s out : List ℕ) (r at : ℕ) → checking caller s ≡ refused_at r at → (folding caller s out).answer ≡ refused_at r at
  -- then 16, by the folded run's length: an output that holds it is enough.
  pub short : (s out : List ℕ) (R : Run) → run_of caller s ≡ accepted R → length out + 20 * corrections R.steps < length s → (folding caller s out).answer ≡ refused 16
  pub room : (s out : List ℕ) (R : Run) → run_of caller s ≡ accepted R → length s ≤ length out + 20 * corrections R.steps → is_accepted (folding caller s out).answer ≡ true
  -- On a refusal the output stays as it was.
  pub kept : (s out : List ℕ) → is_accepted (folding caller s out).answer ≡ false → (folding caller s out).lent ≡ out
