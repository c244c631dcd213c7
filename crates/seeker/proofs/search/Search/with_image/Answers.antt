use Prim.Native.Nat.{◌+◌}
use native.Mathlib.Omega.{arith}
use Rattle.seeker.specs.Steps.{steps_of}
use Rattle.seeker.proofs.Masks.{masks_placed, image_is}
use Rattle.seeker.proofs.OneWord.{shifted}
use Rattle.seeker.proofs.search.Search.with_image.Goals as goal

pub end_pauli-end-requires : goal.end_pauli-end-requires
end_pauli-end-requires c =
    let s = c.args.self.now in
    masks_placed s.width s.width_narrow c.args.masks c.with_masks.ensures

pub returns : goal.returns
returns c =
    let s = c.args.self.now in
    rw (shifted (s.last + s.last) (omega (arith, s.last_narrow)))
    (image_is s.width (steps_of s) s.ends c.args.masks c.with_masks.ensures c.end_pauli-end.ensures c.mask_word.ensures)
