-- `amplitude`: the 35 bytes of the tail are the two parts and a newline, and the line is the basis and the tail.
-- what follows the basis
use mathlib.Core.Path.{◌≡◌, refl, sym, subst, ◌∙◌}
use mathlib.Core.List.{List, [], ◌∷◌, ◌++◌}
use Prim.Native.Nat.{ℕ, ◌+◌}
use native.Mathlib.Omega.{arith}
use lib.Ieee.{Float}
use lib.ListN.{length, replicate, length-append}
use lib.Seq.{sets}
use Rattle.lines.specs.Lines.{decimal, part, amplitude_line}
use Rattle.lines.specs.Calls.{Lined}
use Rattle.lines.specs.Lengths.{part_length}
use Rattle.lines.specs.Pieces.{sets_next, sets_whole}
use Rattle.lines.proofs.amplitude.Goals as goal

amplitude_tail : (zeros : List ℕ) → length zeros ≡ 35 → (re im : Float) (second end : ℕ) (x y z : List ℕ)
    → x ≡ sets zeros 0 (part re) → second ≡ 0 + 17 → y ≡ sets x second (part im) → end ≡ second + 17 → z ≡ sets y end (10 ∷ [])
    → z ≡ part re ++ (part im ++ 10 ∷ [])
amplitude_tail zeros e re im second end x y z w a v b u =
    let size : length (part re ++ (part im ++ 10 ∷ [])) ≡ 35
    = length-append (part re) (part im ++ 10 ∷ []) ∙ omega (arith, part_length re, part_length im, length-append (part im) (10 ∷ [])) in
    sets_next zeros 0 second (part re) (part im ++ 10 ∷ []) x z w (omega (arith, a, part_length re))
    (sets_next x second end (part im) (10 ∷ []) y z v (omega (arith, b, part_length im)) u)
    ∙ sets_whole zeros (part re ++ (part im ++ 10 ∷ [])) (size ∙ sym e)

pub returns : goal.returns
unfolding amplitude_line
returns c =
    let out = c.args.out.now in
    let first = c.part-second in
    let second = c.part-end in
    let last = c.put in
    let line = c.line in
    let tail = amplitude_tail (replicate 35 0) refl c.args.re c.args.im first.result second.result first.new.out second.new.out last.new.out
    first.ensures.out_after first.ensures.value second.ensures.out_after second.ensures.value last.ensures.stands in
    subst (λ (t : List ℕ). Lined (decimal c.args.basis ++ t) out line.result line.new.out) tail line.ensures
