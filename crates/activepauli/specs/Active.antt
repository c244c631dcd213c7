-- What the declared type means.
use Rattle.paulilaws.specs.Pauli.{Pauli}
use Rattle.activepauli.specs.declared.ActivePauli.{ActivePauli}

abbrev pub active_of : ActivePauli → Pauli
active_of a = record { n = a.nqubits; k = a.phase; x = a.x; z = a.z }
