-- The first q letters stand behind the coefficient, and past them what stood there.
use Rattle.std.proofs.Common.{◌≡◌}
use Rattle.std.proofs.Math.Seq.{paste}
use Rattle.paulis.specs.Strings.{pauli_of}
use Rattle.paulitext.specs.Text.{body}
use Rattle.paulitext.proofs.byte.write.Given as goal

abbrev pub invariant-loop-q : goal.invariant-loop-q
invariant-loop-q l = l.out ≡ paste l.initial.out l.at (body l.pauli.nqubits (pauli_of l.pauli)) l.q
