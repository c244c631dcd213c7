-- a mask's lowest word is what is left of it below 2^64
use mathlib.Core.Path.{◌≡◌, refl, sym}
use mathlib.Core.List.{List}
use Prim.Native.Nat.{ℕ, suc, ◌%◌, ◌^◌, ◌<◌}
use lib.ListN.{get_or}
use lib.Pow.{low}
use mir.Syntax.{w64}
use mir.Val.{Fits}
use Rattle.bitlaws.specs.Words.{words}
use Rattle.masks.specs.Mask.{mask}
use Rattle.paulilaws.specs.Pauli.{same}
use Rattle.activepauli.specs.Narrowed.{narrowed}
use borrow.Author.Rules.{rules}
use Rattle.activepauli.proofs.ActivePauli.lowest_words.Goals as goal

lowest : (w : List ℕ) → get_or w 0 0 < 2 ^ 64 → get_or w 0 0 ≡ mask w % 2 ^ 64
unfolding mask words
lowest w h = sym (low (words 64 (λ i. get_or w (suc i) 0) 3) 64 h)

pub returns : goal.returns
unfolding narrowed
returns c =
    let p = c.args.pauli in
    let x : Fits w64 (get_or p.x 0 0) = search rules in
    let z : Fits w64 (get_or p.z 0 0) = search rules in
    same refl refl (lowest p.x x.fits) (lowest p.z z.fits)
