-- A word between two powers of two has its highest bit by the zeros in front of it.
use mathlib.Core.Path.{◌≡◌, sym, ap, ◌∙◌}
use mathlib.Core.Option.{some}
use Prim.Native.Nat.{ℕ, suc, ◌+◌, ◌-◌}
use native.Mathlib.Omega.{arith}
use lib.Count.{count_leading_zeros, leading_top}
use Rattle.bitlaws.specs.Digit.{digit_above}
use Rattle.bitlaws.specs.Highest.{power_top}
use Rattle.bitlaws.proofs.Highest.{highest_none, highest_some}
use borrow.Author.Rules.{rules}
use Rattle.bits.proofs.highest_bit.Goals as goal

pub returns-then-word-eq0 : goal.returns-then-word-eq0
returns-then-word-eq0 c = sym (highest_none 64 c.args.word (λ r h. digit_above 0 r c.args.word (omega arith) (omega arith)))

pub overflow_sub-place : goal.overflow_sub-place
overflow_sub-place c = omega (arith, (leading_top 64 c.args.word (omega arith) (search rules)).1)

pub returns : goal.returns
returns c =
    let word : ℕ = c.args.word in
    let t = leading_top 64 word (omega arith) (search rules) in
    let j : ℕ = t.0 in
    let lead : count_leading_zeros 64 word + suc j ≡ 64 = t.1 in
    let place : 63 - count_leading_zeros 64 word ≡ j = omega arith in
    ap some place ∙ sym (highest_some 64 word j (power_top 64 word j (omega arith) t.2 t.3))
