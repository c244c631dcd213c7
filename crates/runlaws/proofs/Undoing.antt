-- Carrying the identity times a phase changes nothing; so a Pauli that is carried twice gives the run back.
use Rattle.std.specs.Prelude.{◌≡◌, ℕ, ◌≤◌, Float, length, drop}
use Rattle.std.proofs.Math.Path.{refl, ap}
use Rattle.std.proofs.Common.{sym, ◌∙◌, subst, le_refl}
use mathlib.Core.List.{List, ◌++◌}
use Rattle.std.proofs.Math.ListN.{take}
use Rattle.std.proofs.Math.Seq.{take_at}
use Rattle.answers.specs.Outcome.{outcome_same}
use Rattle.answers.specs.Answer.Answer.{accepted}
use Rattle.answers.specs.Row.{accepted_same}
use Rattle.bitlaws.specs.Xor.{xor_self}
use Rattle.paulilaws.specs.Pauli.{Pauli, product, same}
use Rattle.paulilaws.specs.Fitting.{Admitted}
use Rattle.amplitudelaws.specs.Step.{Step, last_width}
use Rattle.framelaws.specs.Caller.{Caller}
use Rattle.framelaws.specs.Carrying.{carried_steps, end_pauli}
use Rattle.framelaws.specs.Identity.{phase_on}
use Rattle.framelaws.proofs.Identity.{unchanged}
use Rattle.framelaws.specs.Survey.{Survey}
use Rattle.framelaws.specs.Surveyed.{survey_width}
use Rattle.runlaws.specs.Run.{Run, mapped}
use Rattle.runlaws.specs.Calls.{Outcome, survey_of, checking, carried_run, carrying}
use Rattle.runlaws.specs.Flags.{flagged}
use Rattle.runlaws.proofs.OneCarry.{one_carry, product_sent, beside}
use Rattle.runlaws.proofs.Overwritten.{flags_own}
use Rattle.runlaws.specs.Sent.{Sent, SomeSent}
use Rattle.runlaws.specs.TwoCorrections.{Undone}
use Rattle.runlaws.specs.WholeRun.{run_allowed}

-- where no row refuses it
phase_carried : (caller : Caller) (s out : List ℕ) (n k : ℕ) (R : Run) → Sent caller s (phase_on n k) out R
    → carrying caller s (phase_on n k) out ≡ record { answer = accepted (phase_on (last_width R.width R.steps) k); lent = s ++ drop (length s) out }
phase_carried caller s out n k R known =
    let law = unchanged caller R.width k R.steps known.admitted.fitting.phase (run_allowed caller s R known.read).allowed in
    let wide : phase_on n k ≡ phase_on R.width k = ap (λ (m : ℕ). phase_on m k) known.width in
    let end : end_pauli (phase_on n k) R.steps ≡ phase_on (last_width R.width R.steps) k = ap (λ (Q : Pauli). end_pauli Q R.steps) wide ∙ law.end in
    outcome_same (known.ends ∙ ap accepted end) (known.output ∙ ap (λ (run : List ℕ). run ++ drop (length s) out) (own law.steps wide))
  where
    own : carried_steps (phase_on R.width k) R.steps ≡ R.steps → phase_on n k ≡ phase_on R.width k → carried_run (phase_on n k) R s ≡ s
    own steps wide =
        unfold carried_run in (ap (λ (Q : Pauli). flagged 4 (carried_steps Q R.steps) s) wide ∙ ap (λ (ts : List (Step Float)). flagged 4 ts s) steps ∙ flags_own caller s R known.read)

-- behind the same masks
module _ (caller : Caller) (s first second : List ℕ) (B A : Pauli) (R : Run) (one : Sent caller s B first R) (xs : A.x ≡ B.x) (zs : A.z ≡ B.z) where
  abbrev phase : Pauli
  phase = phase_on B.n (product B A).k

  is_phase : product B A ≡ phase
  unfolding product
  is_phase = same refl refl (rw xs (xor_self B.x)) (rw zs (xor_self B.z))

  undone : Admitted A → A.n ≡ R.width → length s ≤ length second → Undone caller s first second B A
  undone admitted width room =
      let law = one_carry caller s first second B A R one s admitted width room (le_refl (length s)) in
      let sends = product_sent caller s first second B A R one s admitted width (le_refl (length s)) in
      let whole = phase_carried caller s s B.n (product B A).k R (subst (λ (Q : Pauli). Sent caller s Q s R) is_phase sends) in
      let all = ap (λ (Q : Pauli). carrying caller s Q s) is_phase ∙ whole in
      let ends = accepted_same (sym law.merged_ends ∙ ap (λ (o : Outcome Pauli (List ℕ)). o.answer) all) in
      record {
        end_b = law.end_b;
        end_a = law.end_a;
        first_ends = law.first_ends;
        second_ends = law.second_ends;
        phase = ends ∙ ap (λ (m : ℕ). phase_on m (product B A).k) (sym (ap (λ (Q : Pauli). Q.n) ends) ∙ unfold product in refl);
        back = law.same ∙ ap (λ (o : Outcome Pauli (List ℕ)). take (length s) o.lent) all ∙ take_at s (drop (length s) s) (length s) refl;
      }

-- where A is carried through the run too
pub carried_back : (caller : Caller) (s first second : List ℕ) (B A : Pauli) → SomeSent caller s B first → SomeSent caller s A second → A.x ≡ B.x → A.z ≡ B.z
    → Undone caller s first second B A
carried_back caller s first second B A one other xs zs =
    undone caller s first second B A one.run one.known xs zs other.known.admitted (beside caller s first second B A one other) other.known.room

-- ---- a phase, by the run's survey

pub phase_checked : (caller : Caller) (s out : List ℕ) (n k : ℕ) (v : Survey) → checking caller s ≡ accepted v → SomeSent caller s (phase_on n k) out
    → carrying caller s (phase_on n k) out ≡ record { answer = accepted (phase_on v.width k); lent = s ++ drop (length s) out }
unfolding checking mapped survey_of
phase_checked caller s out n k v e one =
    let R : Run = one.run in
    let is : survey_of R ≡ v = accepted_same (sym (rw one.known.read) ∙ e) in
    let last : last_width R.width R.steps ≡ v.width = sym (survey_width R.width R.steps) ∙ ap (λ (v : Survey). v.width) is in
    phase_carried caller s out n k R one.known
    ∙ ap (λ (m : ℕ). record { answer = accepted (phase_on m k); lent = s ++ drop (length s) out }) last
