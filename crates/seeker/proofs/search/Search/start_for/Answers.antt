use Prim.Native.Nat.{◌+◌}
use native.Mathlib.Omega.{arith}
use Rattle.activepauli.specs.Active.{active_of}
use Rattle.seeker.specs.Steps.{steps_of}
use Rattle.seeker.proofs.Masks.{masks_placed, none_told, start_told}
use Rattle.seeker.proofs.OneWord.{shifted}
use Rattle.seeker.proofs.search.Search.start_for.Goals as goal

pub returns-then-left-above-ne0 : goal.returns-then-left-above-ne0
returns-then-left-above-ne0 c =
    let s = c.args.self.now in
    none_told s.width (steps_of s) s.ends (active_of c.args.end) c.requires (rw (shifted (s.last + s.last) (omega (arith, s.last_narrow))) at c.if-left-above-ne0.true)

pub end_pauli-carried-requires : goal.end_pauli-carried-requires
end_pauli-carried-requires c =
    let s = c.args.self.now in
    masks_placed s.width s.width_narrow _ c.with_masks.ensures

pub returns : goal.returns
returns c =
    let s = c.args.self.now in
    let one = shifted (s.last + s.last) (omega (arith, s.last_narrow)) in
    start_told s.width (steps_of s) s.ends (active_of c.args.end) c.requires (rw one at c.if-left-above-ne0.false)
    (rw one at c.with_masks.ensures) c.end_pauli-carried.ensures (rw one at c.with_masks-2.ensures)
