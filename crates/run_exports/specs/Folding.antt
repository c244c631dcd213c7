-- What a seen folding means: the end Pauli and the number of bytes that stand beside the verdict.
use Rattle.activepauli.specs.Active.{active_of}
use Rattle.runlaws.specs.Calls.{Folding}
use Rattle.run_exports.specs.declared.seen.SeenFolding.{SeenFolding}

abbrev pub seen_folding_of : SeenFolding → Folding
seen_folding_of r = record { end = active_of r.end; size = r.size }
