-- The arithmetic of the amplitudes: IEEE 754 binary64, each operation rounded to nearest, ties to even.
use Rattle.std.specs.Prelude.{Bool, cond, ◌&&◌, Float}
use Rattle.std.specs.Float.Ieee as Ieee
use Rattle.std.specs.Float.{binary64}
use Rattle.std.specs.Float.Ieee.{of_bits, lt, le}
use Rattle.amplitudelaws.specs.Arithmetic.{Amplitude, Arithmetic}

abbrev pub binary : Arithmetic Float
binary = record {
  nought = of_bits binary64 0;
  one = of_bits binary64 0x3FF0000000000000;
  h = of_bits binary64 0x3FE6A09E667F3BCD;
  neg = Ieee.neg;
  add = Ieee.add binary64;
  sub = Ieee.sub binary64;
  mul = Ieee.mul binary64;
}

-- an amplitude of the state
abbrev pub Point : Type 0
Point = Amplitude Float

-- below 0 gives 0, above 1 gives 1; a NaN is neither and stays
unfoldable pub clamped : Float → Float
clamped p = cond (lt p binary.nought) binary.nought (cond (lt binary.one p) binary.one p)

-- neither NaN nor beyond -1..1
unfoldable pub in_unit : Float → Bool
in_unit c = le (Ieee.neg binary.one) c && le c binary.one
