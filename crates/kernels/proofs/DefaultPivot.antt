-- The default pivot may be looked for in the whole word: where the Pauli fits its width both searches find the same, and else row 3 refuses whatever the pivot.
use mathlib.Core.Path.{◌≡◌, refl, ap}
use mathlib.Core.Bool.{Bool, true, false}
use Prim.Native.Nat.{ℕ, ◌^◌, ◌<◌}
use Rattle.answers.specs.Row.{row, first, answered}
use Rattle.bitlaws.proofs.Highest.{highest_agree}
use Rattle.paulilaws.specs.Pauli.{Pauli, fits}
use Rattle.paulilaws.proofs.Fitting.{fits_fitting}
use Rattle.amplitudelaws.specs.Rows.{width_row, hermitian_row, pivot_mask, measurement_row}
use Rattle.kernels.specs.Kernel.{or_zero, highest_or_zero, default_pivot, measurement_kernel}
use Rattle.kernels.specs.Pivot.{mask_below}

-- a search of m digits and one of the width
pub searched : (n m x : ℕ) → x < 2 ^ m → x < 2 ^ n → highest_or_zero m x ≡ highest_or_zero n x
unfolding highest_or_zero
searched n m x h k = ap or_zero (highest_agree m n x h k)

module _ (M : Pauli) where
  refused_any : (p q : ℕ) → fits M ≡ false → answered (measurement_row M p false) (measurement_kernel M p) ≡ answered (measurement_row M q false) (measurement_kernel M q)
  unfolding measurement_row hermitian_row width_row row first answered
  refused_any p q e = rw e

  pub default_answered : (m : ℕ) → pivot_mask M < 2 ^ m → (p : ℕ) → p ≡ highest_or_zero m (pivot_mask M)
      → answered (measurement_row M p false) (measurement_kernel M p) ≡ answered (measurement_row M (default_pivot M) false) (measurement_kernel M (default_pivot M))
  unfolding default_pivot
  default_answered m small p e = go (fits M) refl
    where
      go : (t : Bool) → fits M ≡ t → answered (measurement_row M p false) (measurement_kernel M p) ≡ answered (measurement_row M (default_pivot M) false) (measurement_kernel M (default_pivot M))
      go true h =
          let f = fits_fitting M h in
          rw (e, searched M.n m (pivot_mask M) small (mask_below M (2 ^ M.n) f.xs f.zs))
      go false h = refused_any p (default_pivot M) h
