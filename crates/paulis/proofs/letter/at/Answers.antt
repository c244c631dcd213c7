use mathlib.Core.Path.{ap₂, ◌∙◌}
use mathlib.Core.Bool.{Bool}
use Rattle.bitlaws.specs.Digit.{bit_of, digit, digit_lt}
use Rattle.paulilaws.specs.Letter.{letter_at, letter_of}
use Rattle.masks.specs.Mask.{mask}
use Rattle.masks.specs.MaskLaws.{bit_of_lem}
use Rattle.paulis.proofs.letter.at.Goals as goal

pub returns : goal.returns
unfolding letter_at
returns c =
    let q = c.args.q in
    let x = mask c.args.pauli.x in
    let z = mask c.args.pauli.z in
    c.from_bits.ensures
    ∙ ap₂ (λ (u v : Bool). letter_of (bit_of u) (bit_of v)) c.packed_bit.ensures c.packed_bit-2.ensures
    ∙ ap₂ letter_of (bit_of_lem (digit q x) (digit_lt q x)) (bit_of_lem (digit q z) (digit_lt q z))
