use mathlib.Core.Path.{sym, ap₂, ◌∙◌}
use mathlib.Core.List.{List}
use Prim.Native.Nat.{ℕ, ◌+◌}
use Rattle.bitlaws.specs.Elimination.{word_after}
use Rattle.framelaws.specs.Seeking.{remainder}
use Rattle.seeker.proofs.search.Search.remainder.Goals as goal

pub returns : goal.returns
unfolding remainder
returns c =
    let s = c.args.self.now in
    let bits : ℕ = s.last + s.last in
    rw (sym s.ends)
    (c.eliminate.ensures.word ∙ ap₂ (λ (words : List ℕ) (word : ℕ). word_after bits words word) c.write_words.ensures c.mask_word.ensures)
