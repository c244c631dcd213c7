-- An index opened at the pivot does not reach the word's end.
use mathlib.Core.Path.{◌≡◌, ◌∙◌}
use Prim.Native.Nat.{ℕ, ◌%◌, ◌^◌, ◌≤◌, ◌<◌}
use native.Mathlib.Nat.{mod-eq_of_lt}
use native.Mathlib.Omega.{arith}
use Rattle.bitlaws.specs.Opening.{open_bit}
use Rattle.bitlaws.proofs.Opening.{open_lt}

module _ (p j : ℕ) (hp : p ≤ 60) (hj : j < 2 ^ 60) where
  pub opened_lt : open_bit p j < 2 ^ 61
  opened_lt = open_lt p 60 hp j hj

  pub opened : (w : ℕ) → w ≡ open_bit p j % 2 ^ 64 → w ≡ open_bit p j
  opened w e = e ∙ mod-eq_of_lt (omega (arith, opened_lt))
