use Rattle.answers.specs.Row.{row}
use Rattle.verdicts.specs.Flag.{flag_row}
use Rattle.verdicts.proofs.flag_row.Goals as goal

pub returns : goal.returns
unfolding flag_row row
returns c = c.refuse_if.ensures
