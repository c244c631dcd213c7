-- At most 12 qubits at either end: masks, and masks above masks, fit into one word.
use mathlib.Core.Path.{◌≡◌}
use Prim.Native.Nat.{ℕ, ◌+◌, ◌*◌, ◌%◌, ◌^◌, ◌≤◌, ◌<◌}
use native.Mathlib.Omega.{arith}
use lib.Arith.{digits_lt}
use lib.Pow.{pow-add, pow_mono}
use Rattle.bitlaws.specs.Digit.{one_shifted}
use Rattle.framelaws.specs.Caller.{widest_run}
use Rattle.paulilaws.specs.Pauli.{Pauli}
use Rattle.paulilaws.specs.MaskWord.{mask_word, word_lt}

-- a one shifted up
pub shifted : (q : ℕ) → q ≤ 24 → (1 * 2 ^ q) % 2 ^ 64 ≡ 2 ^ q
shifted q h = one_shifted 64 q (omega arith)

module _ (m : ℕ) (P : Pauli) (narrow : m ≤ widest_run) where
  pub word_fits : mask_word m P < 2 ^ 24
  word_fits = omega (arith, word_lt m P, pow_mono {i = m + m} {j = 24} (omega arith))

  -- masks above P's
  pub above_small : (c : ℕ) → c < 2 ^ 24 → c * 2 ^ (m + m) + mask_word m P < 2 ^ 48
  above_small c small =
      let under : c * 2 ^ (m + m) + mask_word m P < 2 ^ 24 * 2 ^ (m + m) = digits_lt small (word_lt m P) in
      omega (arith, under, pow-add 2 24 (m + m), pow_mono {i = 24 + (m + m)} {j = 48} (omega arith))
