-- What is equal to 0.0 is a zero, whose bits are listed as 0; of any other float they are listed as they are.
use mathlib.Core.Path.{◌≡◌, sym, ◌∙◌}
use mathlib.Core.Bool.{true, false}
use lib.IntN.{pos}
use lib.Ieee.{Float, fin, eq, of_bits}
use Rattle.floatlaws.specs.Same.{is_zero}
use Rattle.floatlaws.proofs.Zero.{equals_zero}
use Rattle.lines.specs.Lines.{bits_of, listed_bits}
use Rattle.lines.proofs.listed_bits.Goals as goal

zero_listed : (x : Float) → eq x (fin false 0 (pos 0)) ≡ true → 0 ≡ listed_bits x
unfolding listed_bits
zero_listed x h = let is : is_zero x ≡ true = sym (equals_zero x) ∙ h in rw is

other_listed : (x : Float) → eq x (fin false 0 (pos 0)) ≡ false → bits_of x ≡ listed_bits x
unfolding listed_bits
other_listed x h = let is : is_zero x ≡ false = sym (equals_zero x) ∙ h in rw is

pub returns-then-x : goal.returns-then-x
unfolding of_bits
returns-then-x c = zero_listed c.args.x c.if-x.true

pub returns : goal.returns
unfolding of_bits
returns c = c.bits.ensures ∙ other_listed c.args.x c.if-x.false
