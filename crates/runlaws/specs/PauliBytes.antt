-- A Pauli as its 17 bytes, and a correction as its field: read back they are what they were.
use Rattle.std.specs.Prelude.{◌≡◌, List, ◌∷◌, ◌++◌, ℕ, length}
use Rattle.std.proofs.Common.{arith, length-append}
use Rattle.paulilaws.specs.Pauli.{Pauli}
use Rattle.runlaws.specs.NumberBytes.{bytes_of, bytes_length}

-- k, x, z
unfoldable pub pauli_bytes : Pauli → List ℕ
pauli_bytes P = P.k ∷ (bytes_of 8 P.x ++ bytes_of 8 P.z)

pub pauli_length : (P : Pauli) → length (pauli_bytes P) ≡ 17
unfolding pauli_bytes
pauli_length P = simp length-append (omega (arith, bytes_length 8 P.x, bytes_length 8 P.z))

-- ---- the field of a correction

unfoldable pub correction_field : Pauli → List ℕ
correction_field P = 5 ∷ 17 ∷ 0 ∷ pauli_bytes P

pub field_length : (P : Pauli) → length (correction_field P) ≡ 20
unfolding correction_field
field_length P = omega (arith, pauli_length P)
