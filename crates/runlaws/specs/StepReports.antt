-- TELL ME ABOUT STEP 40, as it is stated: E7 of the change requests, over the definitions that report_step and carry_run promise to the service, and
-- to the emulator. Reporting.antt proves it. No amplitude is read, so there is no premise on any.
use Rattle.std.specs.Prelude.{◌≡◌, Bool, true, false, not, List, ◌++◌, ℕ, ◌+◌, ◌%◌, ◌^◌, ◌≤◌, ◌<◌, eqb, Float, length, take}
use Rattle.std.specs.Int.Count.{ones}
use Rattle.answers.specs.Answer.Answer.{accepted, refused, refused_at}
use Rattle.bitlaws.specs.Digit.{bit_of}
use Rattle.paulilaws.specs.Pauli.{Pauli, fits}
use Rattle.paulilaws.specs.AntiMask.{AntiMask}
use Rattle.amplitudelaws.specs.Step.{Step}
use Rattle.amplitudelaws.specs.Step.Step.{rotation, promotion, projection, correction, quarter_turn}
use Rattle.framelaws.specs.Caller.{Caller}
use Rattle.framelaws.specs.Reporting.{Framed, Report}
use Rattle.framelaws.specs.Reporting.Report.{no_flag, flagged}
use Rattle.runlaws.specs.Bytes.{byte_at}
use Rattle.runlaws.specs.Calls.{CheckedRun, Frames, checking_with_start, carrying, framing, finding, reporting}
use Rattle.runlaws.specs.Pieces.{end_bytes}
pub use Rattle.runlaws.specs.StepOf.{StepOf}

-- ---- what is reported of step number i, which is at a place in the run's bytes (StepOf)

-- F is the Pauli carried so far: carrying Q through the run that is cut before the field at `place`, and ended there, ends in F.
abbrev pub SoFar : Caller → List ℕ → Pauli → ℕ → Pauli → Type 0
SoFar caller s Q place F = (out : List ℕ) → place + 3 ≤ length out → (carrying caller (take place s ++ end_bytes) Q out).answer ≡ accepted F

-- Of a step with a sign or a branch, which is the byte at `flag`, and with the Pauli P:
pub record Flag (caller : Caller) (s : List ℕ) (Q : Pauli) (flag : ℕ) (F P : Pauli) (r : Report) : Type 0 where
  pub changed : Bool
  pub mask : ℕ
  pub is : r ≡ flagged changed mask
  -- it was changed exactly where its byte in the run that carrying Q leaves differs from the run's own;
  pub byte : (out : List ℕ) → length s ≤ length out → changed ≡ not (eqb (byte_at (carrying caller s Q out).lent flag) (byte_at s flag))
  -- the mask holds exactly the qubits on which F and P anticommute, each by its two letters alone, and none past F's;
  pub qubits : AntiMask F P mask
  pub inside : mask < 2 ^ F.n
  -- and its count of ones is odd exactly when the flag changed.
  pub odd : ones mask % 2 ≡ bit_of changed

-- A rotation's sign is byte 20 of its field and a projection's branch byte 21; promotions, corrections and quarter turns report no flag.
abbrev pub Reports : Caller → List ℕ → Pauli → ℕ → Pauli → Step Float → Report → Type 0
Reports caller s Q place F (rotation P sign c q) r = Flag caller s Q (place + 20) F P r
Reports caller s Q place F (promotion c q) r = r ≡ no_flag
Reports caller s Q place F (projection M p v invnorm) r = Flag caller s Q (place + 21) F M r
Reports caller s Q place F (correction P) r = r ≡ no_flag
Reports caller s Q place F (quarter_turn P) r = r ≡ no_flag

-- the step of that number, the Pauli carried so far, and what r says of the two
pub record Told (caller : Caller) (s : List ℕ) (Q : Pauli) (i : ℕ) (r : Report) : Type 0 where
  pub step : Step Float
  pub number : StepOf caller s i step
  pub frame : Pauli
  pub so_far : SoFar caller s Q number.place frame
  pub reports : Reports caller s Q number.place frame step r

-- a report that the call answers
pub record SomeReport (caller : Caller) (s : List ℕ) (Q : Pauli) (i : ℕ) : Type 0 where
  pub report : Report
  pub answered : reporting caller s Q i ≡ accepted report

-- a step that the call answers, and the frame beside it
pub record Carried (caller : Caller) (s : List ℕ) (Q : Pauli) (i : ℕ) (f : Framed Float) : Type 0 where
  pub number : StepOf caller s i f.step
  pub so_far : SoFar caller s Q number.place f.frame

-- ---- the theorem

pub record StepReports (caller : Caller) : Type 0 where
  -- What is answered is told of the step of that number.
  pub tells : (s : List ℕ) (Q : Pauli) (i : ℕ) (r : Report) → reporting caller s Q i ≡ accepted r → Told caller s Q i r
  -- The rows in their order. The run's own, with their places, whatever Q and i are:
  pub run_first : (s : List ℕ) (Q : Pauli) (i r at : ℕ) → checking_with_start caller s ≡ refused_at r at → reporting caller s Q i ≡ refused_at r at
  -- then 3 where Q is no Pauli, and 4 where it is not on the start qubits;
  pub three : (s : List ℕ) (Q : Pauli) (i : ℕ) (C : CheckedRun) → checking_with_start caller s ≡ accepted C → fits Q ≡ false → reporting caller s Q i ≡ refused 3
  pub four : (s : List ℕ) (Q : Pauli) (i : ℕ) (C : CheckedRun) → checking_with_start caller s ≡ accepted C → fits Q ≡ true → (Q.n ≡ C.start → ⊥)
      → reporting caller s Q i ≡ refused 4
  -- then 20 where the run has no step of that number;
  pub twenty : (s : List ℕ) (Q : Pauli) (i : ℕ) (C : CheckedRun) → checking_with_start caller s ≡ accepted C → fits Q ≡ true → Q.n ≡ C.start
      → C.survey.steps ≤ i → reporting caller s Q i ≡ refused 20
  -- and of every other there is a report.
  pub each : (s : List ℕ) (Q : Pauli) (i : ℕ) (C : CheckedRun) → checking_with_start caller s ≡ accepted C → fits Q ≡ true → Q.n ≡ C.start
      → i < C.survey.steps → SomeReport caller s Q i
  -- What is found is the step of that number, and the frame beside it is the Pauli carried so far; the frame behind the last step is the end Pauli of carrying.
  pub finds : (s : List ℕ) (Q : Pauli) (i : ℕ) (f : Framed Float) → finding caller s Q i ≡ accepted f → Carried caller s Q i f
  pub ends : (s : List ℕ) (Q : Pauli) (F : Frames) → framing caller s Q ≡ accepted F
      → (out : List ℕ) → length s ≤ length out → (carrying caller s Q out).answer ≡ accepted F.last
