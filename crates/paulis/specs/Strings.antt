-- What the declared types mean: a PauliString is a Pauli, and a letter is one of the book.
use Rattle.paulilaws.specs.Pauli.{Pauli}
use Rattle.paulilaws.specs.Letter.{Letter}
use Rattle.masks.specs.Mask.{mask}
use Rattle.paulis.specs.declared.PauliString.{PauliString}
use Rattle.paulis.specs.declared.Pauli as one
use Rattle.paulis.specs.declared.Pauli.TheVariants as single

abbrev pub pauli_of : PauliString → Pauli
pauli_of s = record { n = s.nqubits; k = s.phase; x = mask s.x; z = mask s.z }

abbrev pub pauli_letter_of : one.Pauli → Letter
pauli_letter_of single.I = Letter.I
pauli_letter_of single.X = Letter.X
pauli_letter_of single.Z = Letter.Z
pauli_letter_of single.Y = Letter.Y
