-- What is known of a step that no row refuses.
use Rattle.std.specs.Prelude.{◌≡◌, true, not, ℕ, ◌≤◌, ◌<◌, leb, ltb, Float}
use Rattle.std.proofs.Common.{arith, leb-false}
use Rattle.std.specs.Float.Ieee.Scale.{finite}
use Rattle.answers.specs.Row.{row, first, row_passed, first_passed}
use Rattle.paulilaws.specs.Pauli.{Pauli, hermitian}
use Rattle.paulilaws.specs.Fitting.{Fitting}
use Rattle.amplitudelaws.specs.Acting.{Measurable}
use Rattle.amplitudelaws.specs.Passed.{width_passed, hermitian_passed, hermitian_real, rotation_passed}
use Rattle.amplitudelaws.proofs.Passed.{measurement_passed}
use Rattle.amplitudelaws.specs.Rows.{width_row, hermitian_row, unit_row, rotation_kernel_row, measurement_row, promoted_width_row, widest_kernel}
use Rattle.amplitudelaws.specs.Step.{Step, width_after}
use Rattle.amplitudelaws.specs.Step.Step.{rotation, promotion, projection, correction, quarter_turn}
use Rattle.framelaws.specs.Caller.{Caller}
use Rattle.framelaws.specs.Rows.{step_row, rotation_step_row, promotion_step_row, projection_step_row}

module _ (P : Pauli) (sign : ℕ) (c s : Float) where
  pub rotation_fitting : rotation_step_row P sign c s ≡ 0 → Fitting P
  unfolding rotation_step_row
  rotation_fitting e = (rotation_passed P c s (first_passed (rotation_kernel_row P c s) (row (ltb 1 sign) 14 0) e).0).0

  pub rotation_real : rotation_step_row P sign c s ≡ 0 → hermitian P ≡ true
  unfolding rotation_step_row rotation_kernel_row
  rotation_real e =
      let kernel = (first_passed (rotation_kernel_row P c s) (row (ltb 1 sign) 14 0) e).0 in
      hermitian_real widest_kernel P (first_passed (hermitian_row widest_kernel P) (unit_row c s) kernel).0

pub promotion_below : (caller : Caller) (n : ℕ) (c q : Float) → promotion_step_row caller n c q ≡ 0 → n < caller.widest
unfolding promotion_step_row
promotion_below caller n c q e =
    let floats = (first_passed (promoted_width_row n) (first (unit_row c q) (row (leb caller.widest n) caller.promotion_row 0)) e).1 in
    let wide = (first_passed (unit_row c q) (row (leb caller.widest n) caller.promotion_row 0) floats).1 in
    leb-false caller.widest n (row_passed (leb caller.widest n) caller.promotion_row 0 caller.refuses wide).0

pub correction_fitting : (P : Pauli) → width_row widest_kernel P ≡ 0 → Fitting P
correction_fitting P e = (width_passed widest_kernel P e).0

module _ (P : Pauli) (e : hermitian_row widest_kernel P ≡ 0) where
  pub quarter_turn_fitting : Fitting P
  quarter_turn_fitting = (hermitian_passed widest_kernel P e).0

  pub quarter_turn_real : hermitian P ≡ true
  quarter_turn_real = hermitian_real widest_kernel P e

pub projection_measurable : (M : Pauli) (p v : ℕ) (invnorm : Float) → projection_step_row M p v invnorm ≡ 0 → Measurable M p
unfolding projection_step_row measurement_row
projection_measurable M p v invnorm e =
    let kernel = (first_passed (measurement_row M p (not (finite invnorm))) (row (ltb 1 v) 14 0) e).0 in
    let even = (first_passed (hermitian_row widest_kernel M) _ kernel).0 in
    let pivot = (measurement_passed M p (not (finite invnorm)) kernel).2 in
    record {
      fitting = (hermitian_passed widest_kernel M even).0;
      real = hermitian_real widest_kernel M even;
      inside = pivot.inside;
      has = pivot.has;
    }

-- a step keeps the width within the caller's greatest
pub width_kept : (caller : Caller) (n : ℕ) (t : Step Float) → n ≤ caller.widest → step_row caller n t ≡ 0 → width_after n t ≤ caller.widest
unfolding width_after step_row
width_kept caller n (rotation P sign c s) h e = h
width_kept caller n (promotion c q) h e = promotion_below caller n c q e
width_kept caller n (projection M p v invnorm) h e = omega arith
width_kept caller n (correction P) h e = h
width_kept caller n (quarter_turn P) h e = h
