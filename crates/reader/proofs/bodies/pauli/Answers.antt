use Rattle.runlaws.specs.Bytes.{pauli_at}
use Rattle.reader.proofs.bodies.pauli.Goals as goal

pub returns : goal.returns
unfolding pauli_at
returns c = rw (c.eight.ensures, c.eight-2.ensures)
