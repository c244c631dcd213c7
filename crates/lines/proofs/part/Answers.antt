-- `part`: a space, and then 16 digits, since the bits are below 2^64.
use mathlib.Core.Path.{◌≡◌, ap, ap₂, ◌∙◌}
use mathlib.Core.List.{List, [], ◌∷◌}
use Prim.Native.Nat.{ℕ}
use native.Mathlib.Omega.{arith}
use lib.ListN.{length, take}
use lib.Seq.{sets, length-sets}
use Rattle.io.specs.Digits.{last_digits}
use Rattle.lines.specs.Lines.{part, listed_bits}
use Rattle.lines.proofs.Digits.{sixteen}
use Rattle.lines.specs.Pieces.{sets_next}
use Rattle.lines.proofs.part.Goals as goal

pub put-requires : goal.put-requires
put-requires c =
    let h = c.hex-count in
    let first = c.put-first in
    omega (
      arith,
      c.requires,
      first.ensures.ends,
      ap length first.ensures.stands ∙ length-sets c.args.out.now c.args.at (32 ∷ []),
      h.ensures.in_bounds.1,
      sixteen c.listed_bits.result h.result c.listed_bits.type_inv h.ensures.len,
    )

pub returns : goal.returns
unfolding part
returns c =
    let b = c.listed_bits in
    let h = c.hex-count in
    let first = c.put-first in
    let second = c.put in
    let x : List ℕ = first.new.out in
    let count : h.result ≡ 16 = sixteen b.result h.result b.type_inv h.ensures.len in
    let q : take h.result h.new.out ≡ last_digits 16 16 (listed_bits c.args.x) = h.ensures.digits ∙ ap₂ (λ (k n : ℕ). last_digits 16 k n) count b.ensures in record {
      value = omega (arith, first.ensures.ends, second.ensures.ends, h.ensures.in_bounds.1, count);
      out_after = sets_next c.args.out.now c.args.at first.result (32 ∷ []) (last_digits 16 16 (listed_bits c.args.x)) x second.new.out
          first.ensures.stands first.ensures.ends (second.ensures.stands ∙ ap (sets x first.result) q);
    }
