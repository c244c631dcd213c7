use mathlib.Core.Path.{refl}
use lib.Bits.{bit_and, and_lt}
use lib.Count.{ones-le}
use borrow.Author.Rules.{rules}
use Rattle.masks.proofs.shared_in_word.Goals as goal

pub returns : goal.returns
returns c = (refl, ones-le 64 (bit_and c.args.a c.args.b) (and_lt 64 c.args.a c.args.b (search rules) (search rules)))
