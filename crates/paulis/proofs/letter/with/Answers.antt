-- The four fields one by one: width, phase, x, z.
use mathlib.Core.Path.{refl, ap, ap₂, ◌∙◌}
use Prim.Native.Nat.{ℕ, ◌+◌, ◌*◌, ◌%◌}
use Rattle.bitlaws.specs.Digit.{put}
use Rattle.paulilaws.specs.Pauli.{same}
use Rattle.paulilaws.specs.Letter.{Letter, with_letter, is_y}
use Rattle.masks.specs.Mask.{mask}
use Rattle.masks.specs.MaskLaws.{bit_written_inside}
use Rattle.paulis.proofs.letter.with.Goals as goal

pub returns : goal.returns
unfolding with_letter
returns c =
    let p = c.args.pauli in
    let q = c.args.q in
    let was = c.is_y-was_y.ensures.0 ∙ ap (λ (l : Letter). is_y l) c.at.ensures in
    let x = c.x_part in
    let z = c.z_part in
    same refl
    (ap₂ (λ (new old : ℕ). (p.phase + new + 3 * old) % 4) c.is_y.ensures.0 was)
    (c.set_packed_bit.ensures
    ∙ bit_written_inside q x.result (mask p.x) c.requires.0 ∙ ap (λ (d : ℕ). put q d (mask p.x)) x.ensures)
    (c.set_packed_bit-2.ensures
    ∙ bit_written_inside q z.result (mask p.z) c.requires.0 ∙ ap (λ (d : ℕ). put q d (mask p.z)) z.ensures)
