-- A Pauli on the state's qubits stays one as it is carried, up to the end, where no row refuses a step.
use Rattle.std.specs.Prelude.{◌≡◌, List, [], ◌∷◌, ℕ, suc, ◌-◌, ◌≤◌, ◌<◌, Float}
use Rattle.std.proofs.Math.Path.{sym}
use Rattle.std.proofs.Common.{ap, ◌∙◌, arith}
use Rattle.paulilaws.specs.Pauli.{Pauli}
use Rattle.paulilaws.specs.Fitting.{Fitting}
use Rattle.paulilaws.specs.Frame.{raised, dropped, raised_fitting}
use Rattle.amplitudelaws.specs.Step.{Step, width_after, last_width}
use Rattle.amplitudelaws.specs.Step.Step.{rotation, promotion, projection, correction, quarter_turn}
use Rattle.framelaws.specs.Caller.{Caller}
use Rattle.framelaws.specs.Rows.{step_row}
use Rattle.framelaws.specs.Carrying.{widened, turned_past, passed, end_pauli}
use Rattle.framelaws.specs.Allowed.{Placed, Allowed}
use Rattle.framelaws.specs.Passing.{promotion_below, projection_measurable, quarter_turn_fitting}
use Rattle.framelaws.specs.Fitted.{widened_fitting, absorbed_width, remaining_fitting, turned_width, turned_fitting, Fitted}

-- ---- past a step, and past all

pub fitting_passed : (caller : Caller) (n : ℕ) (Q : Pauli) (t : Step Float) → n ≤ caller.widest → Placed n t → step_row caller n t ≡ 0 → Fitting Q → Q.n ≡ n
    → Fitted caller (width_after n t) (passed Q t)
unfolding step_row width_after passed widened dropped raised turned_past
fitting_passed caller n Q (rotation P sign c s) within h e f width = record { fitting = f; width = width; within = within }
fitting_passed caller n Q (promotion c q) within h e f width =
    let below : n < caller.widest = promotion_below caller n c q e in
    record { fitting = widened_fitting f; width = ap suc width; within = below }
fitting_passed caller n Q (projection M p v invnorm) within h e f width =
    let measurable = projection_measurable M p v invnorm e in
    record {
      fitting = remaining_fitting M _ Q (h ∙ sym width) _ _ (omega (arith, measurable.inside)) measurable.fitting f;
      width = ap (λ (k : ℕ). k - 1) (absorbed_width M _ Q (h ∙ sym width) _ ∙ width);
      within = omega arith;
    }
fitting_passed caller n Q (correction P) within h e f width = record {
  fitting = raised_fitting _ f;
  width = width;
  within = within;
}
fitting_passed caller n Q (quarter_turn P) within h e f width = record {
  fitting = turned_fitting P Q (h ∙ sym width) _ (quarter_turn_fitting P e) f;
  width = turned_width P Q (h ∙ sym width) _ ∙ width;
  within = within;
}

pub fitting_end : (caller : Caller) (n : ℕ) (Q : Pauli) (ts : List (Step Float)) → n ≤ caller.widest → Allowed caller n ts → Fitting Q → Q.n ≡ n
    → Fitted caller (last_width n ts) (end_pauli Q ts)
unfolding last_width end_pauli
fitting_end caller n Q [] within a f width = record { fitting = f; width = width; within = within }
fitting_end caller n Q (t ∷ ts) within a f width =
    let next = fitting_passed caller n Q t within a.0 a.1 f width in
    fitting_end caller (width_after n t) (passed Q t) ts next.within a.2 next.fitting next.width
