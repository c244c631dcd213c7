-- A sign or a branch as a byte, which is what `as u8` makes of it: its digit.
use mathlib.Core.Path.{◌≡◌, refl}
use mathlib.Core.Bool.{Bool, true, false}
use Prim.Native.Nat.{◌<◌}
use lib.Dec.{lit<}
use mir.Val.{bool_byte}
use Rattle.bitlaws.specs.Digit.{bit_of}

pub byte_digit : (t : Bool) → bool_byte t ≡ bit_of t
byte_digit true = refl
byte_digit false = refl

pub byte_small : (t : Bool) → bool_byte t < 2
byte_small true = lit< tt
byte_small false = lit< tt
