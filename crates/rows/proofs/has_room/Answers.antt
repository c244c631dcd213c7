use Rattle.amplitudelaws.specs.State.{room_for, room}
use Rattle.rows.proofs.has_room.Goals as goal

pub returns : goal.returns
unfolding room_for room
returns c = rw (c.is_enough.ensures, c.is_enough-2.ensures)
