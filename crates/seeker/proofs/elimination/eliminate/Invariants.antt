use Rattle.std.proofs.Common.{◌≡◌}
use Rattle.bitlaws.specs.Elimination as law
use Rattle.seeker.proofs.elimination.eliminate.Given as goal

abbrev pub invariant-loop-j : goal.invariant-loop-j
invariant-loop-j l = (l.left ≡ law.word_after l.j l.initial.words l.word) × (l.words ≡ law.words_after l.j l.initial.words)
