-- Two corrections, one carry, over steps: a Pauli B carried through them, and a Pauli A through what B leaves, leave what their product leaves, and B's end Pauli
-- times A's is the product's. No amplitude is read, and none need be finite.
use Rattle.std.specs.Prelude.{◌≡◌, List, [], ◌∷◌, ℕ, ◌+◌, ◌*◌, ◌%◌, Float}
use Rattle.std.proofs.Math.Path.{refl}
use Rattle.std.proofs.Common.{sym, ap, ap₂, ◌∙◌, arith}
use Rattle.paulilaws.specs.Pauli.{Pauli, product, anti}
use Rattle.paulilaws.proofs.Exchange.{raised_left, raised_right, raised_again, anti_product}
use Rattle.paulilaws.specs.Fitting.{Admitted}
use Rattle.paulilaws.specs.Frame.{raised}
use Rattle.amplitudelaws.specs.Step.{Step, width_after}
use Rattle.amplitudelaws.specs.Step.Step.{rotation, promotion, projection, correction, quarter_turn}
use Rattle.framelaws.specs.Caller.{Caller}
use Rattle.framelaws.specs.Rows.{step_row}
use Rattle.framelaws.specs.Carrying.{widened, carried_step, passed, carried_steps, end_pauli}
use Rattle.framelaws.specs.Allowed.{Placed, Allowed}
use Rattle.framelaws.specs.Passing.{projection_measurable, quarter_turn_real}
use Rattle.framelaws.proofs.Suited.{passed_width, passed_admitted, step_passes}
use Rattle.framelaws.proofs.MergedProjection.{flipped_product, merged_past_projection}
use Rattle.framelaws.proofs.MergedQuarterTurn.{merged_past_quarter_turn}
use Rattle.framelaws.specs.Merging.{MergedSteps}

-- ---- one step, by its kind

pub merged_step : {R : Type 0} (B A : Pauli) (t : Step R) → carried_step A (carried_step B t) ≡ carried_step (product B A) t
unfolding carried_step
merged_step B A (rotation P sign c s) = ap (λ (f : ℕ). rotation P f c s) (flipped_product B A P sign)
merged_step B A (promotion c q) = refl
merged_step B A (projection M p v invnorm) = ap (λ (f : ℕ). projection M p f invnorm) (flipped_product B A M v)
merged_step B A (correction P) = refl
merged_step B A (quarter_turn P) = refl

-- two signs are one
merged_past_correction : (B A P : Pauli) → product (raised (2 * anti B P) B) (raised (2 * anti A P) A) ≡ raised (2 * anti (product B A) P) (product B A)
merged_past_correction B A P =
    raised_left (2 * anti B P) B (raised (2 * anti A P) A)
    ∙ ap (raised (2 * anti B P)) (raised_right (2 * anti A P) B A)
    ∙ raised_again (2 * anti B P) (2 * anti A P) (2 * anti (product B A) P) (product B A) (signs (anti B P) (anti A P) (anti (product B A) P) (anti_product B A P))
  where
    signs : (b a c : ℕ) → c ≡ (b + a) % 2 → (2 * b + 2 * a) % 4 ≡ 2 * c % 4
    signs b a c h = omega arith

pub merged_passed : (caller : Caller) (n : ℕ) (B A : Pauli) (t : Step Float) → B.n ≡ n → Placed n t → step_row caller n t ≡ 0
    → product (passed B t) (passed A (carried_step B t)) ≡ passed (product B A) t
unfolding step_row carried_step passed
merged_passed caller n B A (rotation P sign c s) width placed e = refl
merged_passed caller n B A (promotion c q) width placed e = unfold widened product in refl
merged_passed caller n B A (projection M p v invnorm) width placed e = merged_past_projection M p v B A (projection_measurable M p v invnorm e)
merged_passed caller n B A (correction P) width placed e = merged_past_correction B A P
merged_passed caller n B A (quarter_turn P) width placed e = merged_past_quarter_turn P B A (quarter_turn_real P e) (placed ∙ sym width)

-- ---- all of them, whatever their kinds

-- B is on the state's qubits; nothing is asked of A.
pub merged_steps : (caller : Caller) (n : ℕ) (ts : List (Step Float)) (B A : Pauli) → Admitted B → B.n ≡ n → Allowed caller n ts → MergedSteps ts B A
unfolding carried_steps end_pauli
merged_steps caller n [] B A admitted width a = record { steps = refl; end = refl }
merged_steps caller n (t ∷ ts) B A admitted width (placed, row, a) =
    let here = merged_passed caller n B A t width placed row in
    let passes = step_passes caller n B admitted width t placed row in
    let behind = passed_width B t passes ∙ ap (λ (m : ℕ). width_after m t) width in
    let rest = merged_steps caller (width_after n t) ts (passed B t) (passed A (carried_step B t)) (passed_admitted B t passes) behind a in
    record {
      steps = ap₂ (λ (u : Step Float) (us : List (Step Float)). u ∷ us) (merged_step B A t) (rest.steps ∙ ap (λ (Q : Pauli). carried_steps Q ts) here);
      end = rest.end ∙ ap (λ (Q : Pauli). end_pauli Q ts) here;
    }
