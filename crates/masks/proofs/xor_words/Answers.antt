use mir.Val.{Fits}
use mir.Syntax.{w64}
use lib.ListN.{get_or}
use Rattle.masks.specs.MaskLaws.{Small, mask_xor}
use borrow.Author.Rules.{rules}
use Rattle.masks.proofs.xor_words.Goals as goal

pub returns : goal.returns
returns c =
    let small-a : Small c.args.a = λ i. (let f : Fits w64 (get_or c.args.a i 0) = search rules in f.fits) in
    let small_b : Small c.args.b = λ i. (let f : Fits w64 (get_or c.args.b i 0) = search rules in f.fits) in
    mask_xor c.args.a c.args.b small-a small_b
