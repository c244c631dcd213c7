use mathlib.Core.Path.{sym, ap}
use Prim.Native.Nat.{ℕ}
use lib.Dec.{eqb}
use lib.ListN.{get_or}
use mir.Val.{Fits}
use mir.Syntax.{w64}
use Rattle.bitlaws.specs.Digit.{digit_above}
use Rattle.masks.specs.Mask.{mask}
use Rattle.masks.specs.MaskLaws.{Small, mask_lt, mask_digit}
use borrow.Author.Rules.{rules}
use Rattle.masks.proofs.packed_bit.Goals as goal

pub returns-then-bit_index-ge256 : goal.returns-then-bit_index-ge256
returns-then-bit_index-ge256 c =
    let words = c.args.words in
    let small : Small words = λ i. (let f : Fits w64 (get_or words i 0) = search rules in f.fits) in
    ap (λ (d : ℕ). eqb d 1) (sym (digit_above 256 c.args.bit_index (mask words) (mask_lt words small) c.if-bit_index-ge256.true))

pub returns : goal.returns
returns c =
    let words = c.args.words in
    let small : Small words = λ i. (let f : Fits w64 (get_or words i 0) = search rules in f.fits) in
    ap (λ (d : ℕ). eqb d 1) (mask_digit words small c.args.bit_index c.if-bit_index-ge256.false)
