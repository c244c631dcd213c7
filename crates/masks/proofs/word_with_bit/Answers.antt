use mathlib.Core.Path.{◌≡◌}
use native.Mathlib.Omega.{arith}
use Prim.Native.Nat.{◌*◌, ◌%◌, ◌^◌}
use Rattle.bitlaws.specs.Digit.{one_shifted}
use Rattle.bitlaws.specs.Writing.{or_put, put_one}
use Rattle.masks.proofs.word_with_bit.Goals as goal

pub overflow_sub-result : goal.overflow_sub-result
overflow_sub-result c =
    let bit = c.args.bit in
    let word = c.args.word in
    let one : (1 * 2 ^ bit) % 2 ^ 64 ≡ 2 ^ bit = one_shifted 64 bit c.requires in
    rw one (omega (arith, or_put bit word, put_one bit word))

pub returns-then-value : goal.returns-then-value
returns-then-value c =
    let bit = c.args.bit in
    let word = c.args.word in
    let one : (1 * 2 ^ bit) % 2 ^ 64 ≡ 2 ^ bit = one_shifted 64 bit c.requires in
    rw (one, c.if-value.true) (or_put bit word)

pub returns-else-value : goal.returns-else-value
returns-else-value c =
    let bit = c.args.bit in
    let word = c.args.word in
    let one : (1 * 2 ^ bit) % 2 ^ 64 ≡ 2 ^ bit = one_shifted 64 bit c.requires in
    rw (one, c.if-value.false) (omega (arith, or_put bit word, put_one bit word))
