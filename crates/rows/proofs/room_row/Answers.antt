use Rattle.amplitudelaws.specs.Rows.{room_row}
use Rattle.rows.proofs.room_row.Goals as goal

pub returns : goal.returns
unfolding room_row
returns c = c.refuse_if.ensures
