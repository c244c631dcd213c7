-- B carried through a run and A through the result leave what B A leaves, and A is refused through the result as it is through the run.
use Rattle.std.specs.Prelude.{◌≡◌, refl, List, ◌++◌, ◌↔◌, ℕ, ◌≤◌, Float, length, drop}
use Rattle.std.proofs.Common.{sym, ap, ap₂, ◌∙◌}
use Rattle.answers.specs.Answer.{is_accepted}
use Rattle.answers.specs.Answer.Answer.{accepted, refused}
use Rattle.answers.specs.Row.{answered, accepted_same, row_accepts, row_refuses}
use Rattle.paulilaws.specs.Pauli.{Pauli, product}
use Rattle.paulilaws.specs.Fitting.{Admitted, product_fitting, admitted_beside}
use Rattle.amplitudelaws.specs.Step.{Step}
use Rattle.framelaws.specs.Caller.{Caller}
use Rattle.framelaws.specs.Carrying.{carried_steps, end_pauli}
use Rattle.framelaws.specs.Merging.{MergedSteps}
use Rattle.framelaws.proofs.Merging.{merged_steps}
use Rattle.runlaws.specs.Run.{Run, run_of}
use Rattle.runlaws.specs.Calls.{on_run, carrying_row, carried_run, carrying}
use Rattle.runlaws.specs.Flags.{flagged}
use Rattle.runlaws.specs.Frame.{sent}
use Rattle.runlaws.proofs.Overwritten.{flags_over}
use Rattle.runlaws.specs.Sent.{carried_of, Sent, SomeSent}
use Rattle.runlaws.proofs.Sent.{sent_by}
use Rattle.runlaws.specs.TwoCorrections.{OneCarry}
use Rattle.runlaws.specs.WholeRun.{run_allowed}

-- ---- accepted

-- the flags that A leaves, written over those that B leaves, are those of the product
merged_run : (R : Run) (s : List ℕ) (B A : Pauli) → MergedSteps R.steps B A
    → carried_run A (carried_of B R) (carried_run B R s) ≡ carried_run (product B A) R s
unfolding carried_run
merged_run R s B A law = flags_over 4 A (carried_steps B R.steps) s ∙ ap (λ (ts : List (Step Float)). flagged 4 ts s) law.steps

module _ (caller : Caller) (s first second : List ℕ) (B A : Pauli) (R : Run) (one : Sent caller s B first R) where
  -- what B leaves, and A through it
  abbrev t : List ℕ
  t = sent caller s B first

  then_sent : Admitted A → A.n ≡ R.width → length s ≤ length second → Sent caller t A second (carried_of B R)
  then_sent admitted width room = sent_by caller t A second (carried_of B R) one.again admitted width (rw one.size room)

  pub product_sent : (third : List ℕ) → Admitted A → A.n ≡ R.width → length s ≤ length third → Sent caller s (product B A) third R
  product_sent third admitted width room =
      let fitting = product_fitting (width ∙ sym one.width) one.admitted.fitting admitted.fitting in
      sent_by caller s (product B A) third R one.read (admitted_beside one.admitted (unfold product in refl) fitting) (unfold product in one.width) room

  module _ (third : List ℕ) (admitted : Admitted A) (width : A.n ≡ R.width) (room : length s ≤ length second) (enough : length s ≤ length third) where
    law : MergedSteps R.steps B A
    law = merged_steps caller R.width R.steps B A one.admitted one.width (run_allowed caller s R one.read).allowed

    pub one_carry : OneCarry caller s first second third B A
    one_carry =
        let two = then_sent admitted width room in
        let both = product_sent third admitted width enough in
        let run : carried_run A (carried_of B R) t ≡ carried_run (product B A) R s
        = ap (carried_run A (carried_of B R)) one.is ∙ merged_run R s B A law in
        record {
          end_b = end_pauli B R.steps;
          end_a = end_pauli A (carried_steps B R.steps);
          first_ends = one.ends;
          second_ends = two.ends;
          merged_ends = both.ends ∙ ap accepted (sym law.end);
          same = two.is ∙ run ∙ sym both.is;
          whole = λ tails.
              two.output ∙ ap₂ (λ (run tail : List ℕ). run ++ tail) run (ap (λ (n : ℕ). drop n second) one.size ∙ tails) ∙ sym both.output;
        }

-- A, that no row refuses through the run either, is on its start qubits
module _ (caller : Caller) (s first second : List ℕ) (B A : Pauli) (one : SomeSent caller s B first) (other : SomeSent caller s A second) where
  pub beside : A.n ≡ one.run.width
  beside = other.known.width ∙ ap (λ (r : Run). r.width) (accepted_same (sym other.known.read ∙ one.known.read))

  pub carried_once : (third : List ℕ) → length s ≤ length third → OneCarry caller s first second third B A
  carried_once third enough = one_carry caller s first second B A one.run one.known third other.known.admitted beside other.known.room enough

-- ---- refused

-- what carrying answers of a run that reads as R
carrying_is : (caller : Caller) (s : List ℕ) (Q : Pauli) (out : List ℕ) (R : Run) → run_of caller s ≡ accepted R
    → (carrying caller s Q out).answer ≡ answered (carrying_row Q R.width (length s) (length out)) (end_pauli Q R.steps)
unfolding carrying on_run
carrying_is caller s Q out R e = rw e

module _ (caller : Caller) (s first second : List ℕ) (B A : Pauli) (R : Run) (one : Sent caller s B first R) where
  abbrev row : ℕ
  row = carrying_row A R.width (length s) (length second)

  through_run : (carrying caller s A second).answer ≡ answered row (end_pauli A R.steps)
  through_run = carrying_is caller s A second R one.read

  through_result : (carrying caller (sent caller s B first) A second).answer ≡ answered row (end_pauli A (carried_steps B R.steps))
  through_result =
      carrying_is caller (sent caller s B first) A second (carried_of B R) one.again
      ∙ ap (λ (n : ℕ). answered (carrying_row A R.width n (length second)) (end_pauli A (carried_steps B R.steps))) one.size

  pub alike_sent : is_accepted (carrying caller (sent caller s B first) A second).answer ≡ is_accepted (carrying caller s A second).answer
  alike_sent = rw (through_run, through_result) (row_accepts row _ _)

  pub refused_sent : (r : ℕ) → ((carrying caller s A second).answer ≡ refused r) ↔ ((carrying caller (sent caller s B first) A second).answer ≡ refused r)
  refused_sent r = rw (through_run, through_result) (row_refuses row _ _ r, row_refuses row _ _ r)
