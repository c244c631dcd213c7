-- Every amplitude that steps leave is representable in binary64, where those before them are: both parts are floats of the format, written in their one way.
use Rattle.std.specs.Prelude.{ℕ, T}
use Rattle.std.specs.Float.{binary64}
use Rattle.std.specs.Float.Ieee.{fits}
use Rattle.amplitudelaws.specs.Binary.{Point}
use Rattle.amplitudelaws.specs.State.{State, point}

abbrev pub Representable : Point → Type 0
Representable p = T (fits binary64 p.re) × T (fits binary64 p.im)

-- past the end of its lists too, where a state has NaNs
pub record RepresentableState (S : State) : Type 0 where
  pub at : (b : ℕ) → Representable (point S b)
