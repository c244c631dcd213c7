-- What the walks ask for once a run is checked, and the log that they give.
use Rattle.std.specs.Prelude.{◌≡◌, List, ℕ}
use Rattle.answers.specs.Answer.Answer.{accepted}
use Rattle.paulilaws.specs.Pauli.{Pauli}
use Rattle.framelaws.specs.Caller.{Caller}
use Rattle.runlaws.specs.FrameLog.{frame_log}
use Rattle.runlaws.specs.OnStart.{run_in}
use Rattle.runlaws.specs.Run.{run_of}

-- the log of the run that the bytes are
abbrev pub log_in : Caller → List ℕ → Pauli → List ℕ
log_in caller s Q = frame_log Q (run_in caller s).steps

-- an accepted run that starts on so many qubits
pub record Started (caller : Caller) (s : List ℕ) (width : ℕ) : Type 0 where
  pub read : run_of caller s ≡ accepted (run_in caller s)
  pub start : width ≡ (run_in caller s).width
