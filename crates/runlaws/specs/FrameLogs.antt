-- JUDGING THE CHIP'S FRAME LOG, as it is stated: E10 of the change requests, over the definitions that judge_log, log_run and carry_run promise to the service, and
-- to the emulator. Judging.antt proves it. No amplitude is read, so there is no premise on any.
use Rattle.std.specs.Prelude.{◌≡◌, Bool, true, false, List, [], ◌∷◌, ℕ, suc, ◌+◌, ◌≤◌, ◌<◌, Float, length, take, drop}
use Rattle.answers.specs.Answer.{is_accepted}
use Rattle.answers.specs.Answer.Answer.{accepted, refused, refused_at}
use Rattle.paulilaws.specs.Pauli.{Pauli, fits}
use Rattle.amplitudelaws.specs.Step.{Step, last_width}
use Rattle.amplitudelaws.specs.Step.Step.{rotation, promotion, projection, correction, quarter_turn}
use Rattle.framelaws.specs.Caller.{Caller}
use Rattle.runlaws.specs.Bytes.{byte_at, pauli_at}
use Rattle.runlaws.specs.Calls.{carrying, logging, judging}
use Rattle.runlaws.specs.Flags.{FlagOf}
use Rattle.runlaws.specs.FrameLog.{frame_log}
use Rattle.runlaws.specs.PauliBytes.{pauli_bytes}
use Rattle.runlaws.specs.Run.{Run, run_of}
use Rattle.runlaws.specs.StepOf.{StepOf}

-- ---- a log that agrees with carrying

-- how many rotations and projections; quarter turns, promotions and corrections have no byte
abbrev pub flag_count : List (Step Float) → ℕ
flag_count [] = 0
flag_count (rotation P sign c q ∷ ts) = suc (flag_count ts)
flag_count (promotion c q ∷ ts) = flag_count ts
flag_count (projection M p v invnorm ∷ ts) = suc (flag_count ts)
flag_count (correction P ∷ ts) = flag_count ts
flag_count (quarter_turn P ∷ ts) = flag_count ts

-- All agree with carrying Q through the run s, whatever output it is lent that has room:
pub record Agrees (caller : Caller) (s : List ℕ) (Q : Pauli) (log : List ℕ) : Type 0 where
  pub run : Run
  pub is : run_of caller s ≡ accepted run
  -- one byte per rotation and projection in run order, which is the sign or branch that carrying leaves in the step's field;
  pub flags : (i : ℕ) (t : Step Float) (step : StepOf caller s i t) (flag : ℕ) → FlagOf step.place t flag
      → (out : List ℕ) → length s ≤ length out → byte_at log (flag_count step.at.before) ≡ byte_at (carrying caller s Q out).lent flag
  -- after them the 17 bytes of the Pauli that carrying ends in, with no other bytes.
  pub end : Pauli
  pub ends : (out : List ℕ) → length s ≤ length out → (carrying caller s Q out).answer ≡ accepted end
  pub tail : drop (flag_count run.steps) log ≡ pauli_bytes end
  pub size : length log ≡ flag_count run.steps + 17

-- ---- what is asked: a run that is read as R, a Pauli on its start qubits, and a log of the length that suits the run

pub record Asked (caller : Caller) (s : List ℕ) (R : Run) (Q : Pauli) : Type 0 where
  pub read : run_of caller s ≡ accepted R
  pub pauli : fits Q ≡ true
  pub width : Q.n ≡ R.width

abbrev pub Suits : Run → List ℕ → Type 0
Suits R log = length log ≡ flag_count R.steps + 17

-- an answer, yes or no
pub record Judged (caller : Caller) (s : List ℕ) (Q : Pauli) (log : List ℕ) : Type 0 where
  pub says : Bool
  pub is : judging caller s Q log ≡ accepted says

-- ---- the theorem

pub record FrameLogs (caller : Caller) : Type 0 where
  -- Yes exactly when all agree with carrying, whoever made the log, and no otherwise;
  pub yes : (s : List ℕ) (Q : Pauli) (log : List ℕ) → judging caller s Q log ≡ accepted true → Agrees caller s Q log
  pub whenever : (s : List ℕ) (Q : Pauli) (log : List ℕ) → Agrees caller s Q log → judging caller s Q log ≡ accepted true
  pub no : (s : List ℕ) (R : Run) (Q : Pauli) (log : List ℕ) → Asked caller s R Q → Suits R log → (Agrees caller s Q log → ⊥) → judging caller s Q log ≡ accepted false
  -- byte for byte, so that one log alone does.
  pub bytes : (s : List ℕ) (R : Run) (Q : Pauli) (log : List ℕ) → Asked caller s R Q
      → (judging caller s Q log ≡ accepted true → log ≡ frame_log Q R.steps) × (log ≡ frame_log Q R.steps → judging caller s Q log ≡ accepted true)
  -- The rows in their order. The run's own, with their places, whatever Q and the log are:
  pub run_first : (s : List ℕ) (Q : Pauli) (log : List ℕ) (r at : ℕ) → run_of caller s ≡ refused_at r at → judging caller s Q log ≡ refused_at r at
  -- then 3 where Q is no Pauli, and 4 where it is not on the start qubits;
  pub three : (s : List ℕ) (R : Run) (Q : Pauli) (log : List ℕ) → run_of caller s ≡ accepted R → fits Q ≡ false → judging caller s Q log ≡ refused 3
  pub four : (s : List ℕ) (R : Run) (Q : Pauli) (log : List ℕ) → run_of caller s ≡ accepted R → fits Q ≡ true → (Q.n ≡ R.width → ⊥) → judging caller s Q log ≡ refused 4
  -- then 24 where the log's length does not suit the run.
  pub twenty_four : (s : List ℕ) (R : Run) (Q : Pauli) (log : List ℕ) → Asked caller s R Q → (Suits R log → ⊥) → judging caller s Q log ≡ refused 24
  -- A log of the right length is never refused:
  pub each : (s : List ℕ) (R : Run) (Q : Pauli) (log : List ℕ) → Asked caller s R Q → Suits R log → Judged caller s Q log
  -- a byte over 1, or 17 bytes that are no Pauli of the last width, is a no.
  pub over_one : (s : List ℕ) (R : Run) (Q : Pauli) (log : List ℕ) → Asked caller s R Q → Suits R log → (i : ℕ) → i < flag_count R.steps → 1 < byte_at log i
      → judging caller s Q log ≡ accepted false
  pub no_pauli : (s : List ℕ) (R : Run) (Q : Pauli) (log : List ℕ) → Asked caller s R Q → Suits R log
      → fits (pauli_at (last_width R.width R.steps) (drop (flag_count R.steps) log)) ≡ false → judging caller s Q log ≡ accepted false
  -- The log that is written is judged a yes, and there is one wherever there is room for it; what lay past it stays.
  pub written : (s : List ℕ) (Q : Pauli) (out : List ℕ) (size : ℕ) → (logging caller s Q out).answer ≡ accepted size
      → judging caller s Q (take size (logging caller s Q out).lent) ≡ accepted true
  pub past : (s : List ℕ) (Q : Pauli) (out : List ℕ) (size : ℕ) → (logging caller s Q out).answer ≡ accepted size → drop size (logging caller s Q out).lent ≡ drop size out
  pub room : (s : List ℕ) (R : Run) (Q : Pauli) (out : List ℕ) → Asked caller s R Q → flag_count R.steps + 17 ≤ length out
      → (logging caller s Q out).answer ≡ accepted (flag_count R.steps + 17)
  -- It is refused as judging is, but by 16 and not by 24, where the output is shorter; and a refusal leaves the output as it was.
  pub log_run_first : (s : List ℕ) (Q : Pauli) (out : List ℕ) (r at : ℕ) → run_of caller s ≡ refused_at r at → (logging caller s Q out).answer ≡ refused_at r at
  pub log_three : (s : List ℕ) (R : Run) (Q : Pauli) (out : List ℕ) → run_of caller s ≡ accepted R → fits Q ≡ false → (logging caller s Q out).answer ≡ refused 3
  pub log_four : (s : List ℕ) (R : Run) (Q : Pauli) (out : List ℕ) → run_of caller s ≡ accepted R → fits Q ≡ true → (Q.n ≡ R.width → ⊥)
      → (logging caller s Q out).answer ≡ refused 4
  pub short : (s : List ℕ) (R : Run) (Q : Pauli) (out : List ℕ) → Asked caller s R Q → length out < flag_count R.steps + 17 → (logging caller s Q out).answer ≡ refused 16
  pub kept : (s : List ℕ) (Q : Pauli) (out : List ℕ) → is_accepted (logging caller s Q out).answer ≡ false → (logging caller s Q out).lent ≡ out
  -- No log has more than 2,201 bytes, whatever run is read.
  pub longest : (s : List ℕ) (R : Run) → run_of caller s ≡ accepted R → flag_count R.steps + 17 ≤ 2201
