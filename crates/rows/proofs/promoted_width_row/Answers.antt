use Rattle.amplitudelaws.specs.Rows.{promoted_width_row}
use Rattle.refusals.proofs.Asked.{asked_first}
use Rattle.rows.proofs.Behind.{behind}
use Rattle.rows.proofs.promoted_width_row.Goals as goal

pub returns-in_err-refuse_if : goal.returns-in_err-refuse_if
unfolding promoted_width_row
returns-in_err-refuse_if c = asked_first _ _ _ _ c.from_residual.ensures.1 c.in_err-refuse_if.ensures

pub returns : goal.returns
unfolding promoted_width_row
returns c = behind c.in_ok-refuse_if.ensures c.refuse_if-2.ensures
