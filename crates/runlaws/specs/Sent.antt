-- What is known of a run and a Pauli that no row refuses to carry through it: the run, the output, and how the carried run reads.
use Rattle.std.specs.Prelude.{◌≡◌, List, ◌++◌, ℕ, ◌≤◌, length, drop}
use Rattle.std.proofs.Common.{le-ltb}
use Rattle.answers.specs.Answer.Answer.{accepted}
use Rattle.answers.specs.Row.{row, first}
use Rattle.paulilaws.specs.Pauli.{Pauli}
use Rattle.paulilaws.specs.Fitting.{Admitted}
use Rattle.framelaws.specs.Caller.{Caller}
use Rattle.framelaws.specs.Carrying.{carried_steps, end_pauli}
use Rattle.framelaws.specs.Suited.{placed_row_lem}
use Rattle.runlaws.specs.Run.{Run, run_of}
use Rattle.runlaws.specs.Calls.{carrying_row, carried_run, carrying}
use Rattle.runlaws.specs.Frame.{sent}

-- no row refuses to carry a Pauli through a run of its own width
pub may_carry : (Q : Pauli) (width size room : ℕ) → Admitted Q → Q.n ≡ width → size ≤ room → carrying_row Q width size room ≡ 0
unfolding carrying_row row first
may_carry Q width size room f e h = rw (placed_row_lem Q width f e, le-ltb room size h)

-- the run that the carried bytes are read as
abbrev pub carried_of : Pauli → Run → Run
carried_of Q R = record { width = R.width; steps = carried_steps Q R.steps }

pub record Sent (caller : Caller) (s : List ℕ) (Q : Pauli) (out : List ℕ) (R : Run) : Type 0 where
  pub read : run_of caller s ≡ accepted R
  pub admitted : Admitted Q
  pub width : Q.n ≡ R.width
  pub room : length s ≤ length out
  pub ends : (carrying caller s Q out).answer ≡ accepted (end_pauli Q R.steps)
  pub output : (carrying caller s Q out).lent ≡ carried_run Q R s ++ drop (length s) out
  pub is : sent caller s Q out ≡ carried_run Q R s
  pub size : length (sent caller s Q out) ≡ length s
  pub again : run_of caller (sent caller s Q out) ≡ accepted (carried_of Q R)

pub record SomeSent (caller : Caller) (s : List ℕ) (Q : Pauli) (out : List ℕ) : Type 0 where
  pub run : Run
  pub known : Sent caller s Q out run
