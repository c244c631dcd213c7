-- The steps of the run that is searched.
use Rattle.std.specs.Prelude.{List, Float}
use Rattle.amplitudelaws.specs.Step.{Step}
use Rattle.callers.specs.Meaning.{limits_of}
use Rattle.runlaws.specs.OnStart.{run_in}
use Rattle.seeker.specs.declared.search.Search.{Search}

abbrev pub steps_of : Search → List (Step Float)
steps_of s = (run_in (limits_of s.limits) s.run.now).steps
