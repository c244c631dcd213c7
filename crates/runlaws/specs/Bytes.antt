-- Numbers, floats and Paulis in a list of bytes, little-endian.
use Rattle.std.specs.Prelude.{List, ℕ, zero, suc, ◌+◌, ◌*◌, ◌^◌, Float, get_or, take, drop}
use Rattle.std.specs.Float.{binary64}
use Rattle.std.specs.Float.Ieee.{of_bits}
use Rattle.paulilaws.specs.Pauli.{Pauli}

-- the byte at i, 0 past the end
abbrev pub byte_at : List ℕ → ℕ → ℕ
byte_at s i = get_or s i 0

-- the number of k bytes from i on
unfoldable pub number : ℕ → List ℕ → ℕ → ℕ
number zero s i = 0
number (suc k) s i = number k s i + 256 ^ k * byte_at s (i + k)

-- the float whose 64 bits stand from i on; each NaN pattern is the one NaN
unfoldable pub float_at : List ℕ → ℕ → Float
float_at s i = of_bits binary64 (number 8 s i)

-- the Pauli of the first 17 bytes, on n qubits: k, x, z
unfoldable pub pauli_at : ℕ → List ℕ → Pauli
pauli_at n s = record { n = n; k = byte_at s 0; x = number 8 s 1; z = number 8 s 9 }

-- `size` bytes from `from` on
abbrev pub part : ℕ → ℕ → List ℕ → List ℕ
part from size s = take size (drop from s)
