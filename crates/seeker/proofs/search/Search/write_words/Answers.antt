use Rattle.std.proofs.Common.{◌≡◌, ℕ, ◌+◌, ◌-◌, ◌*◌, ◌%◌, ◌^◌, ◌<◌, length, ap, ◌∙◌, arith}
use Rattle.std.proofs.lemmas.List.Edits.{fill_by_more}
use lib.Pow.{pow-lt}
use Rattle.framelaws.specs.Seeking.{with_image}
use Rattle.seeker.specs.Steps.{steps_of}
use Rattle.seeker.proofs.OneWord.{shifted}
use Rattle.seeker.proofs.Written.{all_written}
use Rattle.seeker.proofs.search.Search.write_words.Goals as goal

pub with_image-requires : goal.with_image-requires
with_image-requires c =
    let bit : ℕ = length c.loop-i.words - 1 - c.loop-i.i in
    let low : bit < 24 = omega (arith, c.args.self.now.width_narrow) in
    rw (shifted bit (omega (arith, low))) (pow-lt low)

pub loop-i-preserved : goal.loop-i-preserved
loop-i-preserved c =
    let l = c.loop-i in
    let s = c.args.self.now in
    let q : ℕ = s.width + s.width in
    let bit : ℕ = length l.words - 1 - l.i in
    let one : (1 * 2 ^ bit) % 2 ^ 64 ≡ 2 ^ (q - 1 - l.i) = shifted bit (omega (arith, s.width_narrow)) ∙ ap (λ (n : ℕ). 2 ^ n) (omega arith) in
    rw (c.with_image.ensures, one) (fill_by_more (λ (k : ℕ). with_image s.width (steps_of s) (2 ^ (q - 1 - k))) l.words l.i 0 (omega arith) l.invariant)

pub returns : goal.returns
returns c = all_written _ c.loop-i.words (omega arith) (λ k h. c.loop-i.invariant k (omega arith))
