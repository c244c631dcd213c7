-- The float that stands beside a refusal, and where a call has none: +0.
use Rattle.std.specs.Prelude.{Float}
use Rattle.std.specs.Float.{binary64}
use Rattle.std.specs.Float.Ieee.{of_bits}

abbrev pub no_float : Float
no_float = of_bits binary64 0
