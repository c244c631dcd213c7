use Rattle.amplitudelaws.specs.Rows.{rotation_kernel_row}
use Rattle.refusals.proofs.Asked.{asked_first}
use Rattle.rows.proofs.Behind.{behind}
use Rattle.rows.proofs.rotation_row.Goals as goal

pub returns-in_err-hermitian_row : goal.returns-in_err-hermitian_row
unfolding rotation_kernel_row
returns-in_err-hermitian_row c = asked_first _ _ _ _ c.from_residual.ensures.1 c.in_err-hermitian_row.ensures

pub returns : goal.returns
unfolding rotation_kernel_row
returns c = behind c.in_ok-hermitian_row.ensures c.unit_row.ensures
