use Rattle.amplitudelaws.specs.State.{room_for}
use Rattle.runner.proofs.memory_row.Goals as goal

pub returns : goal.returns
unfolding room_for
returns c = rw (← c.has_room-states.ensures) c.room_row.ensures
