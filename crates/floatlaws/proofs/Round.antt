-- Zero rounds to zero, and a float rounded again: what is left of it where a zero is added, or where it is multiplied by one.
use Rattle.std.specs.Prelude.{◌≡◌, Bool, T}
use Prim.Native.Nat.{ℕ, ◌<◌}
use Rattle.std.specs.Float.{Format}
use Rattle.std.specs.Float.Ieee.{round}
use Rattle.floatlaws.specs.Same.{is_zero}
use Rattle.floatlaws.specs.Round.{round_zero}

pub round_none : (f : Format) (s : Bool) (n c : ℕ) → 0 < c → n ≡ 0 → T (is_zero (round f s n c))
round_none f s n c h e = rw (e, round_zero f s c h) tt
