-- Row 8 stands between the rows of a kernel: up to 7, and from 9 on.
use mathlib.Core.Path.{◌≡◌}
use mathlib.Core.Bool.{Bool, true, false, cond, not, ◌&&◌}
use Prim.Native.Nat.{ℕ, zero, suc, ◌≤◌, ◌<◌}
use native.Mathlib.Omega.{arith}
use lib.Dec.{leb, ltb, eqb}
use borrow.Author.Tests.{lt-ltb, le-ltb}
use Rattle.answers.specs.Row.{row, first}
use Rattle.bitlaws.specs.Digit.{digit}
use Rattle.paulilaws.specs.Pauli.{Pauli, fits, hermitian}
use Rattle.amplitudelaws.specs.Rows.{widest_kernel, width_row, hermitian_row, pivot_mask, pivot_row, measurement_row}

up_to_seven : (a b c : Bool) → first (row a 3 (row b 6 0)) (row c 7 0) ≤ 7
unfolding first row
up_to_seven true b c = omega arith
up_to_seven false true c = omega arith
up_to_seven false false true = omega arith
up_to_seven false false false = omega arith

from_nine : (a b c d : Bool) → 0 < row a 9 (row b 10 (row c 11 (row d 12 0))) → 8 < row a 9 (row b 10 (row c 11 (row d 12 0)))
unfolding row
from_nine true b c d h = omega arith
from_nine false true c d h = omega arith
from_nine false false true d h = omega arith
from_nine false false false true h = omega arith
from_nine false false false false h = absurd (omega arith)

pub eight_some : (t : Bool) (n : ℕ) → 0 < n → 0 < cond t 8 n
eight_some true n h = omega arith
eight_some false n h = h

between : (h q : ℕ) (t : Bool) → h ≤ 7 → (0 < q → 8 < q) → (r : ℕ) → first h (first (row false 8 0) q) ≡ r → 0 < r
    → first h (first (row t 8 0) q) ≡ cond (ltb 8 r && t) 8 r
unfolding first row
between zero q true low high r e some = rw (lt-ltb 8 r (rw (← e) (high (rw e some))))
between zero q false low high r e some = rw (lt-ltb 8 r (rw (← e) (high (rw e some)))) e
between (suc h) q t low high r e some = rw (le-ltb 8 r (rw (← e) (omega arith))) e

-- what refuses a kernel refuses the projection too, but for 8
pub measurement_unfit : (M : Pauli) (p : ℕ) (unfit : Bool) (r : ℕ) → measurement_row M p false ≡ r → 0 < r
    → measurement_row M p unfit ≡ cond (ltb 8 r && unfit) 8 r
unfolding measurement_row hermitian_row width_row pivot_row
measurement_unfit M p unfit r e some =
    between (hermitian_row widest_kernel M) (pivot_row M p) unfit
    (up_to_seven (not (fits M)) (ltb widest_kernel M.n) (not (hermitian M)))
    (from_nine (eqb M.n 0) (leb M.n p) (eqb (pivot_mask M) 0) (not (eqb (digit p (pivot_mask M)) 1)))
    r e some
