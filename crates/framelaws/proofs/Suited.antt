-- Which steps a Pauli can be taken past: exactly those where no row refuses. It is a Pauli again behind them.
use Rattle.std.specs.Prelude.{◌≡◌, not, ◌&&◌, ℕ, ◌-◌, ◌<◌, leb, Float}
use Rattle.std.proofs.Math.Path.{refl, sym, ap}
use Rattle.std.proofs.Common.{◌∙◌, lit<}
use Rattle.std.proofs.Math.Bool.{Bool}
use native.Mathlib.Omega.{arith}
use Rattle.std.proofs.Math.Dec.{eqb}
use borrow.Author.Tests.{eqb-true, eq-eqb, leb-false, lt-leb, not-false}
use Rattle.answers.specs.Row.{row, first, row_passed, first_passed}
use Rattle.paulilaws.specs.Pauli.{Pauli, most_qubits, fits, anti}
use Rattle.paulilaws.specs.Fitting.{Fitting, Admitted, both_left, both_right, admitted_beside}
use Rattle.paulilaws.proofs.Fitting.{fits_admitted, admitted_fits}
use Rattle.paulilaws.specs.Frame.{raised, dropped, raised_fitting}
use Rattle.amplitudelaws.specs.Passed.{promoted_width_passed}
use Rattle.amplitudelaws.specs.Rows.{promoted_width_row, unit_row}
use Rattle.amplitudelaws.specs.Step.{Step, width_after}
use Rattle.amplitudelaws.specs.Step.Step.{rotation, promotion, projection, correction, quarter_turn}
use Rattle.framelaws.specs.Caller.{Caller}
use Rattle.framelaws.specs.Rows.{promotion_step_row, step_row}
use Rattle.framelaws.specs.Carrying.{flipped, meets, widened, turned_past, passed}
use Rattle.framelaws.specs.Allowed.{Placed}
use Rattle.framelaws.specs.Passing.{rotation_fitting, correction_fitting, projection_measurable, quarter_turn_fitting}
use Rattle.framelaws.specs.Fitted.{widened_fitting, absorbed_width, remaining_fitting, turned_width, turned_fitting}
use Rattle.framelaws.specs.PassRow.{pair_row, widened_row, pass_row}
use Rattle.framelaws.specs.Suited.{Paired, Suited}

-- ---- no row refuses exactly where the two suit each other

module _ (Q P : Pauli) where
  pair_passed : pair_row Q P ≡ 0 → Paired Q P
  unfolding pair_row
  pair_passed e =
      let same : Bool = eqb Q.n P.n in
      let three = row_passed (not (fits Q && fits P)) 3 (row (not same) 4 0) (lit< tt) e in
      let four = row_passed (not same) 4 0 (lit< tt) three.1 in
      let paulis = not-false (fits Q && fits P) three.0 in
      record {
        first = fits_admitted Q (both_left (fits Q) (fits P) paulis);
        second = (fits_admitted P (both_right (fits Q) (fits P) paulis)).fitting;
        width = eqb-true Q.n P.n (not-false same four.0);
      }

  paired_row : Paired Q P → pair_row Q P ≡ 0
  unfolding pair_row row
  paired_row p =
      rw (admitted_fits Q p.first, admitted_fits P (admitted_beside p.first p.width p.second), eq-eqb Q.n P.n p.width)

module _ (Q : Pauli) where
  widened_admitted : Admitted Q → Q.n < most_qubits → Admitted (widened Q)
  unfolding widened
  widened_admitted a h = record { fitting = unfold widened in widened_fitting a.fitting; width = omega arith }

  module _ {R : Type 0} where
    pub passed_suited : (t : Step R) → pass_row Q t ≡ 0 → Suited Q t
    unfolding pass_row widened_row
    passed_suited (rotation P sign c s) e = pair_passed Q P e
    passed_suited (promotion c q) e =
        let both = not-false (fits Q && fits (widened Q)) (row_passed (not (fits Q && fits (widened Q))) 3 0 (lit< tt) e).0 in
        let wide = (fits_admitted (widened Q) (both_right (fits Q) (fits (widened Q)) both)).width in
        (fits_admitted Q (both_left (fits Q) (fits (widened Q)) both), unfold widened in omega (arith, wide))
    passed_suited (projection M p v invnorm) e =
        let rows = first_passed (pair_row Q M) (row (leb Q.n p) 10 0) e in
        (pair_passed Q M rows.0, leb-false Q.n p (row_passed (leb Q.n p) 10 0 (lit< tt) rows.1).0)
    passed_suited (correction P) e = pair_passed Q P e
    passed_suited (quarter_turn P) e = pair_passed Q P e

    pub suited_passed : (t : Step R) → Suited Q t → pass_row Q t ≡ 0
    unfolding pass_row widened_row row first
    suited_passed (rotation P sign c s) h = paired_row Q P h
    suited_passed (promotion c q) h = rw (admitted_fits Q h.0, admitted_fits (widened Q) (widened_admitted h.0 h.1))
    suited_passed (projection M p v invnorm) h = rw (paired_row Q M h.0, lt-leb Q.n p h.1)
    suited_passed (correction P) h = paired_row Q P h
    suited_passed (quarter_turn P) h = paired_row Q P h

    -- ---- and then there is a Pauli behind the step, on the state's qubits

    suited_width : (t : Step R) → Suited Q t → (passed Q t).n ≡ width_after Q.n t
    unfolding passed width_after widened dropped raised turned_past
    suited_width (rotation P sign c s) h = refl
    suited_width (promotion c q) h = refl
    suited_width (projection M p v invnorm) h = ap (λ (n : ℕ). n - 1) (absorbed_width M (flipped Q M v) Q (sym h.0.width) (meets M p Q))
    suited_width (correction P) h = refl
    suited_width (quarter_turn P) h = turned_width P Q (sym h.width) (eqb (anti Q P) 1)

    pub passed_width : (t : Step R) → pass_row Q t ≡ 0 → (passed Q t).n ≡ width_after Q.n t
    passed_width t e = suited_width t (passed_suited t e)

    pub passed_admitted : (t : Step R) → pass_row Q t ≡ 0 → Admitted (passed Q t)
    unfolding passed dropped raised turned_past
    passed_admitted t e = go t (passed_suited t e)
      where
        go : (t : Step R) → Suited Q t → Admitted (passed Q t)
        go (rotation P sign c s) h = h.first
        go (promotion c q) h = widened_admitted h.0 h.1
        go (projection M p v invnorm) h =
            let pair = h.0 in
            let v' = flipped Q M v in
            let met = meets M p Q in
            let same = sym pair.width in
            record {
              fitting = remaining_fitting M v' Q same met p h.1 pair.second pair.first.fitting;
              width = omega (arith, absorbed_width M v' Q same met, pair.first.width);
            }
        go (correction P) h = record { fitting = raised_fitting _ h.first.fitting; width = h.first.width }
        go (quarter_turn P) h =
            let same = sym h.width in
            let t = eqb (anti Q P) 1 in
            record {
              fitting = turned_fitting P Q same t h.second h.first.fitting;
              width = omega (arith, turned_width P Q same t, h.first.width);
            }

-- ---- a step of a run that no row refuses can be passed by any Pauli on the state's qubits

module _ (caller : Caller) (n : ℕ) (Q : Pauli) (a : Admitted Q) (width : Q.n ≡ n) where
  paired : {P : Pauli} → P.n ≡ n → Fitting P → Paired Q P
  paired placed f = record { first = a; second = f; width = width ∙ sym placed }

  suited : (t : Step Float) → Placed n t → step_row caller n t ≡ 0 → Suited Q t
  unfolding step_row promotion_step_row
  suited (rotation P sign c s) placed e = paired placed (rotation_fitting P sign c s e)
  suited (promotion c q) placed e =
      let small = promoted_width_passed n (first_passed (promoted_width_row n) (first (unit_row c q) (row (leb caller.widest n) caller.promotion_row 0)) e).0 in
      (a, omega (arith, small, width))
  suited (projection M p v invnorm) placed e =
      let m = projection_measurable M p v invnorm e in
      (paired placed m.fitting, omega (arith, m.inside))
  suited (correction P) placed e = paired placed (correction_fitting P e)
  suited (quarter_turn P) placed e = paired placed (quarter_turn_fitting P e)

  pub step_passes : (t : Step Float) → Placed n t → step_row caller n t ≡ 0 → pass_row Q t ≡ 0
  step_passes t placed e = suited_passed Q t (suited t placed e)
