use mathlib.Core.Path.{◌≡◌, refl, ap, ◌∙◌}
use mathlib.Core.Bool.{Bool, true, false}
use Prim.Native.Nat.{ℕ, ◌+◌, ◌%◌}
use lib.Ieee.{unlike}
use Rattle.bitlaws.specs.Digit.{bit_of}
use Rattle.framelaws.specs.Carrying.{flipped}
use Rattle.passing.proofs.pair.Pair.flipped.Goals as goal

sum : (s t : Bool) → bit_of (unlike s t) ≡ (bit_of s + bit_of t) % 2
sum true true = refl
sum true false = refl
sum false true = refl
sum false false = refl

pub returns : goal.returns
unfolding flipped
returns c =
    let flag = c.args.flag in
    sum flag c.anticommute.result ∙ ap (λ (n : ℕ). (bit_of flag + n) % 2) c.anticommute.ensures
