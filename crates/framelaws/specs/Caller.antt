-- Who calls for a run: how wide its states may be, and by which rows a wider one is refused.
use Rattle.std.specs.Prelude.{ℕ, ◌<◌}
use Rattle.std.proofs.Common.{lit<}

-- A row of number 0 would refuse no promotion; the start needs no such fact, since its row is answered and not looked at.
pub record Caller : Type 0 where
  -- the greatest width
  pub widest : ℕ
  -- the row of a start field past it, and of a promotion at it
  pub start_row : ℕ
  pub promotion_row : ℕ
  pub refuses : 0 < promotion_row

-- the greatest widths of the two callers
abbrev pub widest_run : ℕ
widest_run = 12

abbrev pub widest_emulated : ℕ
widest_emulated = 6

-- the service's rows under any limit on the width
abbrev pub service_within : ℕ → Caller
service_within limit = record { widest = limit; start_row = 14; promotion_row = 15; refuses = lit< tt }

abbrev pub service : Caller
service = service_within widest_run

-- the emulator board, which has 64 amplitudes (change request E8)
abbrev pub emulator : Caller
emulator = record { widest = widest_emulated; start_row = 21; promotion_row = 21; refuses = lit< tt }
