-- What the declared type means.
use Rattle.std.specs.Prelude.{Float}
use Rattle.framelaws.specs.PassRow as frame
use Rattle.activepauli.specs.Active.{active_of}
use Rattle.steps.specs.Meaning.{step_of}
use Rattle.passing.specs.declared.Passage.{Passage}

abbrev pub passage_of : Passage → frame.Passage Float
passage_of p = record { step = step_of p.step; pauli = active_of p.pauli }
