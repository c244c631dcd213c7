-- What is known of the arguments of a call that no row refuses.
use Rattle.std.specs.Prelude.{◌≡◌, Bool, not, ℕ, ◌^◌, ◌≤◌, ◌<◌, leb, eqb}
use Rattle.std.proofs.Math.Bool.{true, false, cond}
use Rattle.std.proofs.Common.{lit<}
use borrow.Author.Tests.{leb-false, eqb-true, not-false}
use Rattle.answers.specs.Row.{row, row_passed, first_passed}
use Rattle.bitlaws.specs.Digit.{digit}
use Rattle.paulilaws.specs.Pauli.{Pauli}
use Rattle.paulilaws.specs.Fitting.{Fitting}
use Rattle.statelaws.specs.Pairs.{Pivoted}
use Rattle.amplitudelaws.specs.Rows.{hermitian_row, pivot_mask, pivot_row, measurement_row, widest_kernel}
use Rattle.amplitudelaws.specs.Passed.{hermitian_passed}

module _ (M : Pauli) (p : ℕ) where
  masked : Fitting M → pivot_mask M < 2 ^ M.n
  unfolding pivot_mask
  masked f = go (eqb M.x 0)
    where
      go : (t : Bool) → cond t M.z M.x < 2 ^ M.n
      go true = f.zs
      go false = f.xs

  -- the pivot is in its mask
  pivot_passed : Fitting M → pivot_row M p ≡ 0 → Pivoted M.n p (pivot_mask M)
  unfolding pivot_row
  pivot_passed f e =
      let twelve = row (not (eqb (digit p (pivot_mask M)) 1)) 12 0 in
      let eleven = row (eqb (pivot_mask M) 0) 11 twelve in
      let a = row_passed (eqb M.n 0) 9 (row (leb M.n p) 10 eleven) (lit< tt) e in
      let b = row_passed (leb M.n p) 10 eleven (lit< tt) a.1 in
      let c = row_passed (eqb (pivot_mask M) 0) 11 twelve (lit< tt) b.1 in
      let d = row_passed (not (eqb (digit p (pivot_mask M)) 1)) 12 0 (lit< tt) c.1 in
      record {
        inside = leb-false M.n p b.0;
        mask = masked f;
        has = eqb-true (digit p (pivot_mask M)) 1 (not-false (eqb (digit p (pivot_mask M)) 1) d.0);
      }

  pub measurement_passed : (unfit : Bool) → measurement_row M p unfit ≡ 0 → (M.n ≤ widest_kernel) × (unfit ≡ false) × Pivoted M.n p (pivot_mask M)
  unfolding measurement_row
  measurement_passed unfit e =
      let a = first_passed (hermitian_row widest_kernel M) _ e in
      let b = first_passed (row unfit 8 0) (pivot_row M p) a.1 in
      let good = hermitian_passed widest_kernel M a.0 in
      (good.1, (row_passed unfit 8 0 (lit< tt) b.0).0, pivot_passed good.0 b.1)
