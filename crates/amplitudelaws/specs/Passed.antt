-- What is known of the arguments of a call that no row refuses.
use Rattle.std.specs.Prelude.{◌≡◌, not, ℕ, ◌^◌, ◌≤◌, leb, ltb, Float, length}
use Rattle.std.proofs.Math.Bool.{true}
use Rattle.std.proofs.Common.{lit<}
use borrow.Author.Tests.{ltb-false, leb-true, not-false}
use Rattle.answers.specs.Row.{row, row_passed, first_passed}
use Rattle.paulilaws.specs.Pauli.{Pauli, fits, hermitian, most_qubits}
use Rattle.paulilaws.specs.Fitting.{Fitting, both_left, both_right}
use Rattle.paulilaws.proofs.Fitting.{fits_fitting}
use Rattle.amplitudelaws.specs.Rows.{width_row, hermitian_row, unit_row, rotation_kernel_row, room_row, promoted_width_row, widest_kernel, widest_promotion}
use Rattle.amplitudelaws.specs.State.{State, room_for, room, HasRoom}

module _ (widest : ℕ) (P : Pauli) where
  pub width_passed : width_row widest P ≡ 0 → Fitting P × (P.n ≤ widest)
  unfolding width_row
  width_passed e =
      let three = row_passed (not (fits P)) 3 (row (ltb widest P.n) 6 0) (lit< tt) e in
      let six = row_passed (ltb widest P.n) 6 0 (lit< tt) three.1 in
      (fits_fitting P (not-false (fits P) three.0), ltb-false widest P.n six.0)

  pub hermitian_passed : hermitian_row widest P ≡ 0 → Fitting P × (P.n ≤ widest)
  unfolding hermitian_row
  hermitian_passed e = width_passed (first_passed (width_row widest P) (row (not (hermitian P)) 7 0) e).0

  pub hermitian_real : hermitian_row widest P ≡ 0 → hermitian P ≡ true
  unfolding hermitian_row
  hermitian_real e = not-false (hermitian P) (row_passed (not (hermitian P)) 7 0 (lit< tt) (first_passed (width_row widest P) _ e).1).0

pub rotation_passed : (P : Pauli) (c s : Float) → rotation_kernel_row P c s ≡ 0 → Fitting P × (P.n ≤ widest_kernel)
unfolding rotation_kernel_row
rotation_passed P c s e =
    hermitian_passed widest_kernel P (first_passed (hermitian_row widest_kernel P) (unit_row c s) e).0

-- both lists are long enough
pub room_lengths : (k : ℕ) (S : State) → room_for k S ≡ true → (k ≤ length S.re) × (k ≤ length S.im)
unfolding room_for
room_lengths k S e =
    let re = leb k (length S.re) in
    let im = leb k (length S.im) in
    (leb-true k (length S.re) (both_left re im e), leb-true k (length S.im) (both_right re im e))

pub room_passed : (n : ℕ) (S : State) → room_row (room n S) ≡ 0 → HasRoom n S
unfolding room_row room
room_passed n S e = room_lengths (2 ^ n) S (not-false (room n S) (row_passed (not (room n S)) 13 0 (lit< tt) e).0)

pub promoted_width_passed : (n : ℕ) → promoted_width_row n ≡ 0 → n ≤ widest_promotion
unfolding promoted_width_row
promoted_width_passed n e =
    let six = (first_passed (row (ltb most_qubits n) 3 0) (row (ltb widest_promotion n) 6 0) e).1 in
    ltb-false widest_promotion n (row_passed (ltb widest_promotion n) 6 0 (lit< tt) six).0
