-- Word by word: each is held against what the width leaves to it.
use Prim.Native.Nat.{ℕ, ◌^◌}
use lib.Dec.{ltb}
use mathlib.Core.Path.{ap, ◌∙◌}
use lib.ListN.{get_or}
use mir.Val.{Fits}
use mir.Syntax.{w64}
use Rattle.masks.specs.MaskLaws.{Small, mask_below}
use borrow.Author.Rules.{rules}
use Rattle.masks.proofs.mask_fits.Goals as goal

pub returns : goal.returns
returns c =
    let words = c.args.words in
    let small : Small words = λ i. (let f : Fits w64 (get_or words i 0) = search rules in f.fits) in
    let second = c.word_fits-2.ensures ∙ ap (λ (n : ℕ). ltb (get_or words 1 0) (2 ^ n)) c.saturating_sub.ensures in
    let third = c.word_fits-3.ensures ∙ ap (λ (n : ℕ). ltb (get_or words 2 0) (2 ^ n)) c.saturating_sub-2.ensures in
    let last = c.word_fits-4.ensures ∙ ap (λ (n : ℕ). ltb (get_or words 3 0) (2 ^ n)) c.saturating_sub-3.ensures in
    rw (c.word_fits.ensures, second, third, last) (mask_below words small c.args.width)
