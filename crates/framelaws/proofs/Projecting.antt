-- A Pauli goes past a projection: the branch is flipped where it anticommutes with the measured Pauli, which it absorbs where it has the
-- deciding part at the pivot, and it loses the pivot's qubit.
use Rattle.std.specs.Prelude.{◌≡◌, refl, Bool, cond, ℕ, suc, ◌+◌, ◌*◌, ◌%◌, ◌^◌, ◌≤◌, ◌<◌, eqb, Float}
use Rattle.std.proofs.Math.Bool.{true, false}
use Rattle.std.proofs.Common.{eqb-true}
use Rattle.bitlaws.specs.Digit.{digit, digit_lt, not_one}
use Rattle.bitlaws.specs.Parity.{overlap}
use Rattle.paulilaws.specs.Pauli.{Pauli, hermitian}
use Rattle.paulilaws.proofs.Algebra.{hermitian_parity}
use Rattle.paulilaws.specs.Fitting.{Fitting}
use Rattle.paulilaws.specs.Frame.{dropped}
use Rattle.amplitudelaws.specs.Arithmetic.{scaled}
use Rattle.amplitudelaws.specs.Binary.{Point, binary}
use Rattle.amplitudelaws.specs.Projection.{remaining, projected}
use Rattle.amplitudelaws.specs.Rows.{pivot_mask}
use Rattle.framelaws.specs.Carrying.{flipped, deciding, meets, absorbed}
use Rattle.framelaws.specs.Alike.{Finite}
use Rattle.framelaws.specs.Turning.{steady, scaled_steady}
use Rattle.framelaws.specs.Framed.{Framed}
use Rattle.framelaws.proofs.Diagonal.{diagonal_kept, diagonal_absorbed}
use Rattle.framelaws.proofs.Mixing.{mixed_kept, mixed_absorbed}

-- scaling both sides keeps the frame
framed_scaled : {n : ℕ} {Q : Pauli} (c : Float) {F G : ℕ → Point} → Framed n Q F G → Framed n Q (λ b. scaled binary (F b) c) (λ b. scaled binary (G b) c)
framed_scaled {Q = Q} c {G = G} w = record { at = λ b h. steady (scaled_steady c) (Q.k + 2 * overlap b Q.z) (G b) (w.at b h) }

module _ (m p : ℕ) (Q M : Pauli) (v : ℕ) {F G : ℕ → Point} (fits : p ≤ m) (fitting : Fitting M) (width : M.n ≡ suc m) (even : M.k % 2 ≡ overlap M.x M.z)
    (framed : Framed (suc m) Q F G) (finite : (b : ℕ) → b < 2 ^ suc m → Finite (G b)) where
  -- t says that M has no X part, u that Q has the deciding part at the pivot
  by_parts : (t u : Bool) → eqb M.x 0 ≡ t → eqb (digit p (deciding t Q)) 1 ≡ u → digit p (cond t M.z M.x) ≡ 1
      → Framed m (dropped p (absorbed u M (flipped Q M v) Q)) (remaining binary M p v F) (remaining binary M p (flipped Q M v) G)
  unfolding deciding absorbed
  by_parts true true x d set = diagonal_absorbed m p Q M v fits (eqb-true M.x 0 x) set framed fitting.phase even (eqb-true (digit p Q.z) 1 d)
  by_parts true false x d set = diagonal_kept m p Q M v fits (eqb-true M.x 0 x) set framed (not_one (digit p Q.z) (digit_lt p Q.z) d)
  by_parts false true x d set = mixed_absorbed m p Q M v fits x (rw width at fitting.xs) framed fitting.phase even set finite (eqb-true (digit p Q.x) 1 d)
  by_parts false false x d set = mixed_kept m p Q M v fits x (rw width at fitting.xs) framed (not_one (digit p Q.x) (digit_lt p Q.x) d)

-- Nothing is asked of Q. That G is finite is used only where M has an X part and Q has one at the pivot: a zero times an infinity is a NaN.
pub past_projection : (m p : ℕ) (Q M : Pauli) (v : ℕ) (invnorm : Float) {F G : ℕ → Point} → p ≤ m → Fitting M → M.n ≡ suc m → hermitian M ≡ true → digit p (pivot_mask M) ≡ 1
    → Framed (suc m) Q F G → ((b : ℕ) → b < 2 ^ suc m → Finite (G b))
    → Framed m (dropped p (absorbed (meets M p Q) M (flipped Q M v) Q)) (projected binary M p v invnorm F) (projected binary M p (flipped Q M v) invnorm G)
unfolding pivot_mask meets projected
past_projection m p Q M v invnorm fits fitting width real set framed finite =
    framed_scaled invnorm
    (by_parts m p Q M v fits fitting width (hermitian_parity M real) framed finite (eqb M.x 0) (eqb (digit p (deciding (eqb M.x 0) Q)) 1) refl refl set)
