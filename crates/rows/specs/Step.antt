-- What a call on amplitudes answers: refused by a row, or done, and then what was lent holds its result.
use Rattle.std.specs.Prelude.{Result}
use Rattle.answers.specs.Answer.{Answer}
use Rattle.answers.specs.Outcome.{Finished, finished}
use Rattle.refusals.specs.declared.Row.{Row}
use Rattle.refusals.specs.Refusal.{answer_of}

abbrev pub step_answer_of : {A : Type 0} → Result A Row → Answer Finished
step_answer_of = answer_of (λ done. finished)
