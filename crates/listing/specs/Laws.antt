-- Laws of the listing.
use Rattle.std.specs.Prelude.{◌≡◌, refl, Bool, true, false, ltb}
use Rattle.std.proofs.Math.Path.{ap}
use Rattle.std.proofs.Common.{◌∙◌, le_refl, arith, ltb-true, ltb-false}
use mathlib.Core.List.{List}
use Prim.Native.Nat.{ℕ, zero, suc, ◌+◌, ◌*◌, ◌≤◌, ◌<◌}
use Rattle.std.proofs.Math.ListN.{length, length-append}
use Rattle.amplitudelaws.specs.State.{State, point}
use Rattle.lines.specs.Lines.{decimal, amplitude_line}
use Rattle.lines.specs.Lengths.{decimal_most, amplitude_length}
use Rattle.listing.specs.Listing.{amplitude_lines}

-- ---- one line more

module _ (S : State) (b : ℕ) where
  pub next_length : length (amplitude_lines S (suc b)) ≡ length (amplitude_lines S b) + (length (decimal b) + 35)
  unfolding amplitude_lines
  next_length =
      let line : List ℕ = amplitude_line b (point S b).re (point S b).im in
      length-append (amplitude_lines S b) line ∙ ap (λ (n : ℕ). length (amplitude_lines S b) + n) (amplitude_length b (point S b).re (point S b).im)

  -- of numbers with four digits at most
  next_most : b < 10000 → length (amplitude_lines S (suc b)) ≤ length (amplitude_lines S b) + 39
  next_most h = omega (arith, next_length, decimal_most 3 b (omega (arith, h)))

-- up to d lines
pub lines_most : (S : State) (d : ℕ) → d ≤ 10000 → length (amplitude_lines S d) ≤ 39 * d
unfolding amplitude_lines
lines_most S zero h = omega arith
lines_most S (suc d) h = omega (arith, next_most S d (omega (arith, h)), lines_most S d (omega (arith, h)))

-- fewer lines are no longer
pub lines_mono : (S : State) (b d : ℕ) → b ≤ d → length (amplitude_lines S b) ≤ length (amplitude_lines S d)
lines_mono S b zero h = let none : b ≡ 0 = omega (arith, h) in rw none (le_refl (length (amplitude_lines S 0)))
lines_mono S b (suc d) h = by (ltb d b) refl (lines_mono S b d)
  where
    by : (t : Bool) → ltb d b ≡ t → (b ≤ d → length (amplitude_lines S b) ≤ length (amplitude_lines S d)) → length (amplitude_lines S b) ≤ length (amplitude_lines S (suc d))
    by true e fewer = let same : b ≡ suc d = omega (arith, h, ltb-true d b e) in rw same (le_refl (length (amplitude_lines S (suc d))))
    by false e fewer = omega (arith, fewer (ltb-false d b e), next_length S d)
