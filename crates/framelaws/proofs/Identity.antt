-- The identity times a phase, carried through steps: they stay as they were, and so does it, on the qubits that there are then.
use Rattle.std.specs.Prelude.{◌≡◌, Bool, List, [], ◌∷◌, ℕ, ◌-◌, ◌≤◌, ltb, Float}
use Rattle.std.proofs.Math.Path.{refl, ap}
use Rattle.std.proofs.Common.{sym, ap₂, ◌∙◌, arith, lit<}
use Rattle.std.proofs.Math.Bool.{true, false}
use Rattle.std.proofs.Math.Dec.{eqb}
use borrow.Author.Tests.{ltb-false}
use Rattle.answers.specs.Row.{row, first, row_passed, first_passed}
use Rattle.bitlaws.specs.Digit.{digit, digit_above}
use Rattle.bitlaws.specs.Opening.{drop_bit}
use Rattle.bitlaws.proofs.Parity.{overlap_zero_l}
use Rattle.bitlaws.proofs.Pivot.{drop_xor}
use Rattle.bitlaws.specs.Xor.{xor_self}
use Rattle.paulilaws.specs.Pauli.{Pauli, anti, same}
use Rattle.paulilaws.specs.Frame.{raised, dropped}
use Rattle.amplitudelaws.specs.Step.{Step, width_after, last_width}
use Rattle.amplitudelaws.specs.Step.Step.{rotation, promotion, projection, correction, quarter_turn}
use Rattle.framelaws.specs.Caller.{Caller}
use Rattle.framelaws.specs.Rows.{step_row, rotation_step_row, projection_step_row}
use Rattle.framelaws.specs.Carrying.{flipped, deciding, meets, absorbed, widened, turned_by, turned_past, carried_step, passed, carried_steps, end_pauli}
use Rattle.framelaws.specs.Allowed.{Allowed}
use Rattle.framelaws.specs.Identity.{phase_on, Unchanged}

module _ (n e : ℕ) where
  -- it anticommutes with nothing
  phase_anti : (P : Pauli) → anti (phase_on n e) P ≡ 0
  unfolding anti
  phase_anti P = rw (overlap_zero_l P.z, overlap_zero_l P.x)

  -- a sign or branch that no row refuses stays
  phase_flag : (P : Pauli) (rows flag : ℕ) → first rows (row (ltb 1 flag) 14 0) ≡ 0 → flipped (phase_on n e) P flag ≡ flag
  unfolding flipped
  phase_flag P rows flag h =
      let small : flag ≤ 1 = ltb-false 1 flag (row_passed (ltb 1 flag) 14 0 (lit< tt) (first_passed rows (row (ltb 1 flag) 14 0) h).1).0 in
      rw (phase_anti P) (omega arith)

  pub phase_step : (caller : Caller) (t : Step Float) → step_row caller n t ≡ 0 → carried_step (phase_on n e) t ≡ t
  unfolding step_row rotation_step_row projection_step_row carried_step
  phase_step caller (rotation P sign c s) h = ap (λ (f : ℕ). rotation P f c s) (phase_flag P _ sign h)
  phase_step caller (promotion c q) h = refl
  phase_step caller (projection M p v invnorm) h = ap (λ (f : ℕ). projection M p f invnorm) (phase_flag M _ v h)
  phase_step caller (correction P) h = refl
  phase_step caller (quarter_turn P) h = refl

  -- it has no part at a pivot, and none is left where a qubit is dropped
  phase_meets : (M : Pauli) (p : ℕ) → meets M p (phase_on n e) ≡ false
  unfolding meets deciding
  phase_meets M p = by (eqb M.x 0)
    where
      by : (t : Bool) → eqb (digit p (deciding t (phase_on n e))) 1 ≡ false
      by true = rw (digit_above 0 p 0 (omega arith) (omega arith))
      by false = rw (digit_above 0 p 0 (omega arith) (omega arith))

  phase_dropped : (p : ℕ) → dropped p (phase_on n e) ≡ phase_on (n - 1) e
  unfolding dropped
  phase_dropped p = same refl refl none none
    where
      none : drop_bit p 0 ≡ 0
      none = ap (drop_bit p) (sym (xor_self 0)) ∙ drop_xor p 0 0 ∙ xor_self (drop_bit p 0)

  pub phase_passed : {R : Type 0} → e ≤ 3 → (t : Step R) → passed (phase_on n e) t ≡ phase_on (width_after n t) e
  unfolding passed width_after widened absorbed turned_past turned_by raised
  phase_passed small (rotation P sign c s) = refl
  phase_passed small (promotion c q) = refl
  phase_passed small (projection M p v invnorm) = rw (phase_meets M p) (phase_dropped p)
  phase_passed small (correction P) = same refl (rw (phase_anti P) (omega arith)) refl refl
  phase_passed small (quarter_turn P) = rw (phase_anti P)

-- ---- all steps

pub unchanged : (caller : Caller) (n e : ℕ) (ts : List (Step Float)) → e ≤ 3 → Allowed caller n ts → Unchanged n e ts
unfolding carried_steps end_pauli last_width
unchanged caller n e [] small a = record { steps = refl; end = refl }
unchanged caller n e (t ∷ ts) small (placed, row, a) =
    let rest = unchanged caller (width_after n t) e ts small a in
    let behind = phase_passed n e small t in
    record {
      steps = ap₂ (λ (u : Step Float) (us : List (Step Float)). u ∷ us) (phase_step n e caller t row) (ap (λ (Q : Pauli). carried_steps Q ts) behind ∙ rest.steps);
      end = ap (λ (Q : Pauli). end_pauli Q ts) behind ∙ rest.end;
    }
