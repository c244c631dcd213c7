use mathlib.Core.Path.{ap, ◌∙◌}
use lib.Bits.{bit_and}
use lib.Ieee.{unlike}
use Rattle.bitlaws.specs.Parity.{overlap, parity, bit_differs}
use Rattle.bitlaws.proofs.Parity.{parity_lt}
use Rattle.bits.proofs.differs_from_parity.Goals as goal

pub returns : goal.returns
unfolding overlap
returns c =
    let a = c.args in
    let both = bit_and a.a a.b in
    ap (unlike a.bit) c.is_odd_popcount.ensures ∙ bit_differs a.bit (parity both) (parity_lt both)
