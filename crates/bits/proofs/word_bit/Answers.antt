use Rattle.std.proofs.Common.{ℕ, eqb, sym, ap, rules}
use Rattle.bitlaws.specs.Digit.{digit_above}
use Rattle.bits.proofs.word_bit.Goals as goal

pub returns-then-q-ge64 : goal.returns-then-q-ge64
returns-then-q-ge64 c = ap (λ (d : ℕ). eqb d 1) (sym (digit_above 64 c.args.q c.args.word (search rules) c.if-q-ge64.true))
