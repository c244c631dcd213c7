use Rattle.amplitudelaws.specs.Rows.{unit_row}
use Rattle.rows.proofs.unit_row.Goals as goal

pub returns : goal.returns
unfolding unit_row
returns c = rw (← c.in_unit-2.ensures, ← c.in_unit.ensures) c.refuse_if.ensures
