-- The word that holds the bit is written, by mask-put; past bit 255 the mask is returned.
use mathlib.Core.Path.{◌≡◌, sym, ◌∙◌}
use lib.ListN.{length, get_or}
use mir.Val.{Fits}
use mir.Syntax.{w64}
use Rattle.bitlaws.specs.Digit.{bit_of}
use Rattle.masks.specs.Mask.{mask}
use Rattle.masks.specs.MaskLaws.{Small, mask_put, bit_written_past, bit_written_inside}
use borrow.Author.Rules.{rules}
use Rattle.masks.proofs.set_packed_bit.Goals as goal

pub returns-then-bit_index-ge256 : goal.returns-then-bit_index-ge256
returns-then-bit_index-ge256 c = sym (bit_written_past c.args.bit_index c.args.value (mask c.args.words) c.if-bit_index-ge256.true)

pub returns : goal.returns
returns c =
    let a = c.args in
    let small : Small a.words = λ i. (let f : Fits w64 (get_or a.words i 0) = search rules in f.fits) in
    let four : length a.words ≡ 4 = search rules in
    mask_put a.words small a.bit_index (bit_of a.value) c.word_with_bit.result c.if-bit_index-ge256.false four c.word_with_bit.ensures
    ∙ sym (bit_written_inside a.bit_index a.value (mask a.words) c.if-bit_index-ge256.false)
