use Rattle.std.proofs.Common.{rules, arith}
use Rattle.std.proofs.lemmas.List.Edits.{map_over_more}
use Rattle.bitlaws.specs.Elimination as law
use Rattle.seeker.proofs.elimination.clear.Goals as goal

pub loop-word-preserved : goal.loop-word-preserved
loop-word-preserved c = rw c.cleared.ensures (map_over_more (law.cleared c.args.j c.args.other) c.args.words.now c.loop-word.words c.loop-word.word-index _ (omega arith) c.loop-word.invariant (search rules))
