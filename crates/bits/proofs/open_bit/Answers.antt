-- The masks and shifts open the bit, by the law in Index.
use mathlib.Core.Path.{◌≡◌, sym, ap, ◌∙◌}
use Prim.Native.Nat.{ℕ, ◌*◌, ◌%◌, ◌^◌, ◌<◌}
use native.Mathlib.Nat.{mod-eq_of_lt}
use native.Mathlib.Omega.{arith}
use lib.Pow.{pow_pos, pow_mono}
use Rattle.bitlaws.specs.Digit.{one_shifted}
use Rattle.bitlaws.specs.Opening.{open_small}
use Rattle.bits.proofs.Index.{opened}
use borrow.Author.Rules.{rules}
use Rattle.bits.proofs.open_bit.Goals as goal

-- no word has a bit that far up
pub returns-then-bit-ge64 : goal.returns-then-bit-ge64
returns-then-bit-ge64 c =
    let p = c.args.packed in
    let b = c.args.bit in
    let word : p < 2 ^ 64 = search rules in
    let below : p < 2 ^ b = omega (arith, word, pow_mono {i = 64} {j = b} (omega arith)) in
    sym (ap (λ (n : ℕ). n % 2 ^ 64) (open_small b p below) ∙ mod-eq_of_lt word)

pub overflow_sub-low_mask : goal.overflow_sub-low_mask
overflow_sub-low_mask c = omega (arith, one_shifted 64 c.args.bit (omega arith), pow_pos c.args.bit)

pub returns : goal.returns
returns c =
    let p = c.args.packed in
    let b = c.args.bit in
    let mask : (1 * 2 ^ b) % 2 ^ 64 ≡ 2 ^ b = one_shifted 64 b (omega arith) in
    rw mask (opened 64 b p (omega arith) (search rules))
