-- THE FRAME THEOREM, as it is stated: demand 3, in the scope's own sentences (its paragraph on carrying), over the definitions that the calls run_contiguous,
-- carry_run and correct_contiguous_active promise, to the service, and the first two to the emulator. Theorem.antt proves it.
use Rattle.std.specs.Prelude.{◌≡◌, true, false, List, ◌⊎◌, ℕ, ◌^◌, ◌≤◌, ◌<◌, T, Float, length, take, drop}
use Rattle.std.proofs.Math.Option.{some}
use Rattle.answers.specs.Answer.{is_accepted}
use Rattle.answers.specs.Answer.Answer.{accepted}
use Rattle.answers.specs.Row.{left}
use Rattle.floatlaws.specs.Same.{is_zero}
use Rattle.paulilaws.specs.Pauli.{Pauli}
use Rattle.amplitudelaws.specs.Binary.{Point}
use Rattle.amplitudelaws.specs.Rows.{correction_row}
use Rattle.amplitudelaws.specs.State.{State, point}
use Rattle.amplitudelaws.specs.Steps.{correction}
use Rattle.framelaws.specs.Caller.{Caller}
use Rattle.framelaws.specs.Allowed.{FiniteSteps}
use Rattle.framelaws.specs.Memory.{Memory}
use Rattle.runlaws.specs.Bytes.{byte_at}
use Rattle.runlaws.specs.Field.{field_at}
use Rattle.runlaws.specs.Flags.{FlagIn}
use Rattle.runlaws.specs.Run.{Run, run_of, start_width}
use Rattle.runlaws.specs.Calls.{Ending, running, carrying}

-- ---- the words

-- Two floats are the same number when they are equal or both are zeros.
abbrev pub SameNumber : Float → Float → Type 0
SameNumber x y = (x ≡ y) ⊎ (T (is_zero x) × T (is_zero y))

abbrev pub SameNumbers : Point → Point → Type 0
SameNumbers p q = SameNumber p.re q.re × SameNumber p.im q.im

-- A start state is any amplitudes of n qubits; what lies past them plays no part.
pub record Agreeing (n : ℕ) (S T : State) : Type 0 where
  pub at : (b : ℕ) → b < 2 ^ n → point S b ≡ point T b

-- Every amplitude of the run that s is, on m, is finite at its start and after each step: neither part is an infinity or a NaN.
abbrev pub FiniteRun : Caller → List ℕ → Memory → Type 0
FiniteRun caller s m = (R : Run) → run_of caller s ≡ accepted R → FiniteSteps R.width R.steps m

-- Applying a Pauli is the correction: what correct_contiguous_active leaves of the state.
unfoldable pub fired : Pauli → Memory → Memory
fired P m = record { state = left (correction_row P m.state) (correction P m.state) m.state; scratch = m.scratch }

-- The carried run: what carry_run leaves in the output's first bytes.
abbrev pub sent : Caller → List ℕ → Pauli → List ℕ → List ℕ
sent caller s Q out = take (length s) (carrying caller s Q out).lent

-- ---- accepted

-- All that is asked. A list is accepted when no row refuses running it, here on two sets of buffers, or carrying Q through it. The two begin with the same start
-- state; what lies past it, their lengths, the scratch and the output's old bytes are any.
pub record Accepted (caller : Caller) (s out : List ℕ) (Q : Pauli) (m u : Memory) : Type 0 where
  pub here : is_accepted (running caller s m).answer ≡ true
  pub there : is_accepted (running caller s u).answer ≡ true
  pub carries : is_accepted (carrying caller s Q out).answer ≡ true
  pub start : Agreeing Q.n m.state u.state

-- What comes of it: on m Q is applied and the list is run; on u the carried list is run and the carried Pauli is applied.
pub record Frame (caller : Caller) (s out : List ℕ) (Q : Pauli) (m u : Memory) : Type 0 where
  -- The carried Pauli is the end Pauli. The last width and the number of steps are the same both ways.
  pub end : Pauli
  pub ending : Ending
  pub ends : (carrying caller s Q out).answer ≡ accepted end
  -- Q is applied at the start width, the start field's, and the end Pauli at the last.
  pub first : start_width (field_at s 0) ≡ some Q.n
  pub last : end.n ≡ ending.width
  -- The carried run has the run's length and differs from it in sign and branch bytes only; what lies past it in the output stays.
  pub size : length (sent caller s Q out) ≡ length s
  pub flags : (R : Run) → run_of caller s ≡ accepted R → (i : ℕ) → (byte_at (sent caller s Q out) i ≡ byte_at s i) ⊎ FlagIn 4 R.steps i
  pub tail : drop (length s) (carrying caller s Q out).lent ≡ drop (length s) out
  -- Q, then the list: no row refuses either.
  pub before : correction_row Q m.state ≡ 0
  pub plain : (running caller s (fired Q m)).answer ≡ accepted ending
  -- The carried list is accepted too: no row refuses running it, or carrying Q through it into any output that has room.
  pub carried : (running caller (sent caller s Q out) u).answer ≡ accepted ending
  pub again : (o : List ℕ) → length s ≤ length o → is_accepted (carrying caller (sent caller s Q out) Q o).answer ≡ true
  -- Nor does a row refuse the end Pauli behind it.
  pub behind : correction_row end (running caller (sent caller s Q out) u).lent.state ≡ 0
  -- Where every amplitude of the carried list is finite at its start and after each step, both ways leave the same numbers in the first 2^n entries of re and
  -- im, n being the last width.
  pub same : FiniteRun caller (sent caller s Q out) u → (b : ℕ) → b < 2 ^ ending.width
      → SameNumbers (point (running caller s (fired Q m)).lent.state b) (point (fired end (running caller (sent caller s Q out) u).lent).state b)

-- ---- the theorem

-- For every run, output, Pauli and buffers: the accepted half, and the refused half, in which nothing lent is written.
pub record FrameTheorem (caller : Caller) : Type 0 where
  pub accepts : (s out : List ℕ) (Q : Pauli) (m u : Memory) → Accepted caller s out Q m u → Frame caller s out Q m u
  pub refused_run : (s : List ℕ) (m : Memory) → is_accepted (running caller s m).answer ≡ false → (running caller s m).lent ≡ m
  pub refused_carrying : (s out : List ℕ) (Q : Pauli) → is_accepted (carrying caller s Q out).answer ≡ false → (carrying caller s Q out).lent ≡ out
  pub refused_correction : (P : Pauli) (m : Memory) → (correction_row P m.state ≡ 0 → ⊥) → fired P m ≡ m
