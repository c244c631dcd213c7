-- An accepted run, and a Pauli on its start qubits: what a walk over the run with a Pauli begins with; and what the check says of the run.
use Rattle.std.specs.Prelude.{◌≡◌, List, [], ℕ}
use Rattle.std.proofs.Common.{ap}
use Rattle.answers.specs.Answer.{value_or}
use Rattle.answers.specs.Answer.Answer.{accepted}
use Rattle.paulilaws.specs.Pauli.{Pauli}
use Rattle.paulilaws.specs.Fitting.{Admitted}
use Rattle.framelaws.specs.Caller.{Caller}
use Rattle.framelaws.specs.Survey.{Survey}
use Rattle.runlaws.specs.Run.{Run, run_of}
use Rattle.runlaws.specs.Calls.{CheckedRun, survey_of, checked_run_of, checking_with_start}
use Rattle.runlaws.specs.Mapped.{From, mapped_accepted}

-- the run that the bytes are, one without steps where they are refused
unfoldable pub run_in : Caller → List ℕ → Run
run_in caller s = value_or (record { width = 0; steps = [] }) (run_of caller s)

pub record OnStart (caller : Caller) (s : List ℕ) (Q : Pauli) : Type 0 where
  pub read : run_of caller s ≡ accepted (run_in caller s)
  pub admitted : Admitted Q
  pub width : Q.n ≡ (run_in caller s).width

-- ---- a run that is checked

module _ (caller : Caller) (s : List ℕ) {width : ℕ} {v : Survey} (checked : checking_with_start caller s ≡ accepted (record { start = width; survey = v })) where
  from : From checked_run_of (run_of caller s) (record { start = width; survey = v })
  unfolding checking_with_start
  from = mapped_accepted checked_run_of (run_of caller s) (record { start = width; survey = v }) checked

  pub checked_read : run_of caller s ≡ accepted (run_in caller s)
  unfolding run_in value_or
  checked_read = rw from.was

  pub checked_start : width ≡ (run_in caller s).width
  unfolding run_in value_or
  checked_start = rw from.was (ap (λ (k : CheckedRun). k.start) from.is)

  pub checked_survey : v ≡ survey_of (run_in caller s)
  unfolding run_in value_or
  checked_survey = rw from.was (ap (λ (k : CheckedRun). k.survey) from.is)
