-- What the runner's declared types mean.
use Rattle.runlaws.specs.Calls.{Ending}
use Rattle.runner.specs.declared.Finished.{Finished}

abbrev pub finished_of : Finished → Ending
finished_of f = record { width = f.width; steps = f.steps }
