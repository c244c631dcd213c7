use Rattle.std.proofs.Common.{◌≡◌, ◌++◌, map, take, drop}
use Rattle.bitlaws.specs.Elimination as law
use Rattle.seeker.proofs.elimination.clear.Given as goal

abbrev pub invariant-loop-word : goal.invariant-loop-word
invariant-loop-word l = l.words ≡ map (law.cleared l.j l.other) (take l.word-index l.initial.words) ++ drop l.word-index l.initial.words
