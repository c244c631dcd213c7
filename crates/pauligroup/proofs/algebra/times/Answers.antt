-- The four fields one by one: width, phase, x, z.
use mathlib.Core.Path.{refl}
use Rattle.bitlaws.specs.Parity.{overlap, parity}
use Rattle.paulilaws.specs.Pauli.{same, product}
use Rattle.pauligroup.proofs.algebra.times.Goals as goal

pub returns : goal.returns
unfolding product overlap parity
returns c =
    let carry = c.shared_ones-carry.ensures.0 in
    same refl
    (rw (c.from.ensures, c.from-2.ensures, carry))
    c.xor_words.ensures
    c.xor_words-2.ensures
