use native.Mathlib.Omega.{arith}
use borrow.Author.Tests.{lt-ltb}
use Prim.Native.Nat.{◌<◌, ◌^◌}
use mathlib.Core.Path.{sym}
use lib.Pow.{pow_mono}
use Rattle.masks.specs.MaskLaws.{shifted_below}
use borrow.Author.Rules.{rules}
use Rattle.masks.proofs.word_fits.Goals as goal

pub returns-then-width-ge64 : goal.returns-then-width-ge64
returns-then-width-ge64 c =
    let word = c.args.word in
    let width = c.args.width in
    let small : word < 2 ^ 64 = search rules in
    sym (lt-ltb word (2 ^ width) (omega (arith, small, pow_mono {i = 64} {j = width} c.if-width-ge64.true)))

pub returns : goal.returns
returns c = shifted_below c.args.word c.args.width
