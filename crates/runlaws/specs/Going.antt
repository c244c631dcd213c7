-- What a loop knows that walks an accepted run with a Pauli. Each such loop adds its own equation to it.
use Rattle.std.specs.Prelude.{◌≡◌, refl, List, [], ◌∷◌, ℕ, ◌-◌, ◌<◌, Float, length}
use Rattle.std.proofs.Common.{sym, ◌∙◌, subst, arith}
use Rattle.std.proofs.Math.Path.{ap}
use Rattle.answers.specs.Answer.Answer.{accepted}
use Rattle.paulilaws.specs.Pauli.{Pauli}
use Rattle.paulilaws.specs.Fitting.{Admitted}
use Rattle.amplitudelaws.specs.Step.{Step, width_after}
use Rattle.framelaws.specs.Caller.{Caller}
use Rattle.framelaws.specs.Carrying.{passed, end_pauli}
use Rattle.framelaws.proofs.Folded.{folded_admitted, folded_width}
use Rattle.framelaws.specs.Folding.{folded_past}
use Rattle.framelaws.specs.PassRow.{pass_row}
use Rattle.framelaws.proofs.Suited.{passed_width, passed_admitted, step_passes}
use Rattle.runlaws.specs.Reading.{Cursor, read_at}
use Rattle.runlaws.specs.Reading.Read.{step_read}
use Rattle.runlaws.specs.Run.{Run, walk, run_of}
use Rattle.runlaws.specs.Fields.{StepRead, step_read_lem, size_ge}
use Rattle.runlaws.specs.OnStart.{run_in, OnStart}
use Rattle.runlaws.specs.Walk.{Left, left_outset, accepted_step}
use Rattle.runlaws.specs.WholeRun.{run_allowed}

-- at a cursor: `steps` are left, and Q is a Pauli on the qubits there
pub record Going (caller : Caller) (s : List ℕ) (c : Cursor) (Q : Pauli) (steps : List (Step Float)) : Type 0 where
  pub left : Left caller s c (accepted steps)
  pub admitted : Admitted Q
  pub width : Q.n ≡ c.width

-- before the first step
pub going_outset : (caller : Caller) (s : List ℕ) (R : Run) (Q : Pauli) → run_of caller s ≡ accepted R → Admitted Q → Q.n ≡ R.width
    → Going caller s (record { at = 4; width = Q.n }) Q R.steps
going_outset caller s R Q e a width =
    let r = run_allowed caller s R e in
    let c : Cursor = record { at = 4; width = Q.n } in
    record {
      left = subst (Left caller s c) (ap (λ (n : ℕ). walk caller (length s) s (record { at = 4; width = n })) width ∙ r.walked)
          (left_outset caller s c r.short r.begins);
      admitted = a;
      width = refl;
    }

-- Behind a step t that was read at c, at the cursor d. No row refused to take Q past it, and less of the run is left: a loop's measure.
pub record Gone (caller : Caller) (s : List ℕ) (c : Cursor) (Q : Pauli) (steps : List (Step Float)) (t : Step Float) (d : Cursor) : Type 0 where
  pub after : List (Step Float)
  pub steps_are : steps ≡ t ∷ after
  pub read : StepRead caller s c t d
  pub row : pass_row Q t ≡ 0
  pub going : Going caller s d (passed Q t) after
  pub less : length s - d.at < length s - c.at

pub going_step : {caller : Caller} {s : List ℕ} {c : Cursor} {Q : Pauli} {steps : List (Step Float)} → Going caller s c Q steps
    → (t : Step Float) (d : Cursor) → read_at caller s c ≡ step_read t d → Gone caller s c Q steps t d
going_step {caller} {s} {c} {Q} g t d e =
    let r = step_read_lem caller s c d t e in
    let k = accepted_step g.left t d e in
    let row : pass_row Q t ≡ 0 = step_passes caller c.width Q g.admitted g.width t r.placed r.row in
    record {
      after = k.after;
      steps_are = k.rest_is;
      read = r;
      row = row;
      going = record {
        left = k.left;
        admitted = passed_admitted Q t row;
        width = passed_width Q t row ∙ ap (λ (n : ℕ). width_after n t) g.width ∙ sym r.width;
      };
      less = omega (arith, r.next, r.inside, size_ge t);
    }

-- ---- with a Pauli into which corrections are folded

pub going_folded : {caller : Caller} {s : List ℕ} {c : Cursor} {Q : Pauli} {steps : List (Step Float)} → Going caller s c Q steps
    → {t : Step Float} {d : Cursor} (g : Gone caller s c Q steps t d) → Going caller s d (folded_past Q t) g.after
going_folded {caller} {s} {c} {Q} w {t} g = record {
  left = g.going.left;
  admitted = folded_admitted Q t g.row;
  width = folded_width Q t g.row ∙ ap (λ (n : ℕ). width_after n t) w.width ∙ sym g.read.width;
}

-- ---- up to the end: with the Pauli as it is at a cursor, the steps that are left take it to `last`

pub record Passing (caller : Caller) (s : List ℕ) (last : Pauli) (c : Cursor) (Q : Pauli) (steps : List (Step Float)) : Type 0 where
  pub going : Going caller s c Q steps
  pub ends : end_pauli Q steps ≡ last

-- before the first step
pub passing_outset : (caller : Caller) (s : List ℕ) (Q : Pauli) → OnStart caller s Q
    → let steps = (run_in caller s).steps in Passing caller s (end_pauli Q steps) (record { at = 4; width = Q.n }) Q steps
passing_outset caller s Q b =
    record { going = going_outset caller s (run_in caller s) Q b.read b.admitted b.width; ends = refl }

module _ {caller : Caller} {s : List ℕ} {last : Pauli} {c : Cursor} {Q : Pauli} {steps : List (Step Float)} (w : Passing caller s last c Q steps) where
  pub passing_step : {t : Step Float} {d : Cursor} (g : Gone caller s c Q steps t d) → Passing caller s last d (passed Q t) g.after
  unfolding end_pauli
  passing_step g = record { going = g.going; ends = ap (end_pauli Q) (sym g.steps_are) ∙ w.ends }

  pub all_passed : steps ≡ [] → Q ≡ last
  unfolding end_pauli
  all_passed e = ap (end_pauli Q) (sym e) ∙ w.ends
