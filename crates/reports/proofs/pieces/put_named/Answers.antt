-- `put_named`: one behind the other.
use Rattle.lines.specs.Stored.{stored_next}
use Rattle.reports.proofs.pieces.put_named.Goals as goal

pub returns : goal.returns
returns c = stored_next c.put-end.ensures c.put_pauli.ensures
