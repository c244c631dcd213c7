-- The highest bit of a mask is in it, so that the pairs of the mask can be counted by it; the pivot that is taken where none is given is such a bit.
use Rattle.std.specs.Prelude.{◌≡◌, refl, Bool, true, false, cond, ℕ, ◌^◌, ◌≤◌, ◌<◌, eqb}
use Rattle.std.proofs.Common.{⊎_elim, arith}
use Rattle.std.proofs.Math.Option.{Option, none, some}
use Rattle.bitlaws.specs.Digit.{digit_above}
use Rattle.bitlaws.specs.Highest.{highest, Top}
use Rattle.bitlaws.proofs.Highest.{highest_top, none_zero}
use Rattle.bitlaws.specs.Order.{le_or_lt}
use Rattle.paulilaws.specs.Pauli.{Pauli}
use Rattle.paulilaws.specs.Fitting.{Fitting}
use Rattle.statelaws.specs.Pairs.{Pivoted}
use Rattle.amplitudelaws.specs.Rows.{pivot_mask}
use Rattle.kernels.specs.Kernel.{or_zero, highest_or_zero, default_pivot}

-- a bit that a search of any width finds
pub found_pivot : (n m x q : ℕ) → x < 2 ^ n → highest m x ≡ some q → Pivoted n q x
found_pivot n m x q small e =
    let top = highest_top m x q e in
    record {
      inside = ⊎_elim (λ (past : n ≤ q). absurd (omega (arith, digit_above n q x small past, top.set))) (λ (b : q < n). b) (le_or_lt n q);
      mask = small;
      has = top.set;
    }

-- a mask that has a bit has a highest
pub highest_found : (n x : ℕ) → x < 2 ^ n → (x ≡ 0 → ⊥) → Top n x (highest_or_zero n x)
unfolding highest_or_zero
highest_found n x small some-bit = go (highest n x) refl
  where
    go : (o : Option ℕ) → highest n x ≡ o → Top n x (or_zero o)
    go none e = absurd (some-bit (none_zero n x small e))
    go (some q) e = highest_top n x q e

pub highest_pivot : (n x : ℕ) → x < 2 ^ n → (x ≡ 0 → ⊥) → Pivoted n (highest_or_zero n x) x
highest_pivot n x small some-bit = let top = highest_found n x small some-bit in record { inside = top.inside; mask = small; has = top.set }

-- ---- the pivot that is taken where none is given

-- what bounds both masks bounds the pivot's
pub mask_below : (M : Pauli) (m : ℕ) → M.x < m → M.z < m → pivot_mask M < m
unfolding pivot_mask
mask_below M m xs zs = go (eqb M.x 0)
  where
    go : (t : Bool) → cond t M.z M.x < m
    go true = zs
    go false = xs

-- it is in the mask, below the width, and no bit of the mask stands above it
pub default_top : (M : Pauli) → Fitting M → (pivot_mask M ≡ 0 → ⊥) → Top M.n (pivot_mask M) (default_pivot M)
unfolding default_pivot
default_top M f some-bit = highest_found M.n (pivot_mask M) (mask_below M (2 ^ M.n) f.xs f.zs) some-bit
