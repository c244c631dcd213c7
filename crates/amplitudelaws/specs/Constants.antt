-- The constants of the formulas are the numbers that they stand for: 0, 1, and of all floats the nearest to 1 / sqrt 2.
use Rattle.std.specs.Prelude.{◌≡◌, refl, false, ℕ, ◌+◌, ◌-◌, ◌*◌, ◌^◌, ◌<◌, pos, negsuc}
use Rattle.std.proofs.Common.{lit<}
use Rattle.std.specs.Float.Ieee.{of_bits}
use Rattle.std.specs.Float.{fin}
use Rattle.amplitudelaws.specs.Binary.{binary}

-- h is m / 2^53, and the floats beside it are (m - 1) / 2^53 and (m + 1) / 2^53
abbrev m : ℕ
m = 0x16A09E667F3BCD

pub record Constants : Type 0 where
  pub nought : binary.nought ≡ fin false 0 (pos 0)
  pub one : binary.one ≡ fin false 1 (pos 0)
  pub h : binary.h ≡ fin false m (negsuc 52)
  -- 1 / sqrt 2 lies between the middles: (2 m - 1) / 2^54 and (2 m + 1) / 2^54, whose squares lie about 1 / 2
  pub above : (2 * m - 1) ^ 2 * 2 < 2 ^ 108
  pub below : 2 ^ 108 < (2 * m + 1) ^ 2 * 2

pub constants : Constants
unfolding of_bits
constants = record { nought = refl; one = refl; h = refl; above = lit< tt; below = lit< tt }
