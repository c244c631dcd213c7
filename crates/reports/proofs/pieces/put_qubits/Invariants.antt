use Rattle.std.proofs.Common.{◌≡◌, ℕ, ◌+◌, ◌-◌, ◌*◌, ◌≤◌, List, length}
use Rattle.framelaws.specs.Caller.{widest_run}
use Rattle.lines.specs.Stored.{Stored}
use Rattle.reports.specs.Text.{qubits_from}
use Rattle.reports.proofs.pieces.put_qubits.Given as goal

pub record Left (mask width at : ℕ) (old : List ℕ) (q end : ℕ) (now : List ℕ) : Type 0 where
  pub narrow : width ≤ widest_run
  pub room : end + 3 * (width - q) ≤ length now
  pub long : length now ≡ length old
  pub whole : {last : ℕ} {left : List ℕ} → Stored (qubits_from q (width - q) mask) end now last left → Stored (qubits_from 0 width mask) at old last left

abbrev pub invariant-loop-q : goal.invariant-loop-q
invariant-loop-q l = Left l.mask l.width l.at l.initial.out l.q l.end l.out
