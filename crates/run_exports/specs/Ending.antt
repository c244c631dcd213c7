-- What a seen ending means: the ending that stands beside the verdict.
use Rattle.runlaws.specs.Calls.{Ending}
use Rattle.run_exports.specs.declared.seen.SeenEnding.{SeenEnding}

abbrev pub seen_ending_of : SeenEnding → Ending
seen_ending_of r = record { width = r.width; steps = r.steps }
