-- Reading the rest into the Pauli so far is reading the whole text.
use Rattle.paulis.specs.Strings.{pauli_of}
use Rattle.paulitext.proofs.Walk.{Reached}
use Rattle.paulitext.proofs.pauli_string.Given as goal

abbrev pub invariant-loop-q : goal.invariant-loop-q
invariant-loop-q l = Reached l.ops l.q (pauli_of l.pauli)
