-- What is known of a run and a Pauli that no row refuses to carry through it: the run, the output, and how the carried run reads.
use Rattle.std.specs.Prelude.{◌≡◌, true, List, ℕ, ◌≤◌, length, take, drop}
use Rattle.std.proofs.Common.{sym, ap, ◌∙◌, take_at}
use Rattle.answers.specs.Answer.{is_accepted}
use Rattle.answers.specs.Answer.Answer.{accepted}
use Rattle.answers.specs.Row.{accepted_value}
use Rattle.paulilaws.specs.Pauli.{Pauli}
use Rattle.paulilaws.specs.Fitting.{Admitted}
use Rattle.framelaws.specs.Caller.{Caller}
use Rattle.runlaws.specs.Run.{Run, run_of}
use Rattle.runlaws.specs.Calls.{carried_run, carrying}
use Rattle.runlaws.specs.Frame.{sent}
use Rattle.runlaws.specs.Outcomes.{carrying_passed, carrying_done, carrying_answers}
use Rattle.runlaws.proofs.Reread.{carried_length, reread}
use Rattle.runlaws.specs.Sent.{may_carry, Sent, SomeSent}

module _ (caller : Caller) (s : List ℕ) (Q : Pauli) (out : List ℕ) where
  -- a Pauli on the start qubits, and room
  pub sent_by : (R : Run) → run_of caller s ≡ accepted R → Admitted Q → Q.n ≡ R.width → length s ≤ length out → Sent caller s Q out R
  sent_by R read admitted width room =
      let answers = carrying_answers caller s Q out R read (may_carry Q R.width (length s) (length out) admitted width room) in
      let is : sent caller s Q out ≡ carried_run Q R s
      = ap (take (length s)) answers.1 ∙ take_at (carried_run Q R s) (drop (length s) out) (length s) (carried_length Q R s) in
      record {
        read = read;
        admitted = admitted;
        width = width;
        room = room;
        ends = answers.0;
        output = answers.1;
        is = is;
        size = ap length is ∙ carried_length Q R s;
        again = rw is (reread caller s Q R read);
      }

  -- no row refuses
  pub sent_accepted : is_accepted (carrying caller s Q out).answer ≡ true → SomeSent caller s Q out
  sent_accepted e =
      let done = carrying_done caller s Q out _ (accepted_value (carrying caller s Q out).answer e).is in
      let R : Run = done.run in
      let pauli = carrying_passed Q R.width (length s) (length out) done.passed in
      record { run = R; known = sent_by R done.was pauli.0 pauli.1 pauli.2 }

-- what is answered and sent is the same in any output that has room
pub elsewhere : (caller : Caller) (s out other : List ℕ) (Q end : Pauli) → (carrying caller s Q out).answer ≡ accepted end → length s ≤ length other
    → ((carrying caller s Q other).answer ≡ accepted end) × (sent caller s Q other ≡ sent caller s Q out)
unfolding is_accepted
elsewhere caller s out other Q end e room =
    let one = sent_accepted caller s Q out (rw e) in
    let a = one.known in
    let b = sent_by caller s Q other one.run a.read a.admitted a.width room in
    (b.ends ∙ sym a.ends ∙ e, b.is ∙ sym a.is)
