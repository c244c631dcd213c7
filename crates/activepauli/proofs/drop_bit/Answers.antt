-- A word below 2 ^ 64 has nothing from bit 64 on.
use mathlib.Core.Path.{◌≡◌, sym, ap₂, ◌∙◌}
use Prim.Native.Nat.{ℕ, ◌+◌, ◌*◌, ◌/◌, ◌%◌, ◌^◌, ◌≤◌, ◌<◌}
use native.Mathlib.Nat.{div-eq_of_lt, mod-eq_of_lt}
use native.Mathlib.Omega.{arith}
use lib.Pow.{pow_mono}
use Rattle.bitlaws.specs.Digit.{one_shifted}
use Rattle.bitlaws.specs.Opening.{drop_bit}
use borrow.Author.Rules.{rules}
use Rattle.activepauli.proofs.drop_bit.Goals as goal

past : (q word : ℕ) → word < 2 ^ 64 → 64 ≤ q → word ≡ drop_bit q word
unfolding drop_bit
past q word h l =
    let small : word < 2 ^ q = omega (arith, pow_mono {i = 64} {j = q} l) in
    let none : 0 / 2 * 2 ^ q + word ≡ word = omega arith in
    sym (ap₂ (λ (m r : ℕ). m / 2 * 2 ^ q + r) (div-eq_of_lt small) (mod-eq_of_lt small) ∙ none)

pub returns-then-q-ge64 : goal.returns-then-q-ge64
returns-then-q-ge64 c = past c.args.q c.args.word (search rules) c.if-q-ge64.true

pub returns : goal.returns
unfolding drop_bit
returns c =
    let q = c.args.q in
    let one : (1 * 2 ^ q) % 2 ^ 64 ≡ 2 ^ q = one_shifted 64 q c.if-q-ge64.false in
    rw one
