-- Pauli operators on any number of qubits.
use Rattle.std.specs.Prelude.{◌≡◌, Bool, cond, ◌&&◌, ℕ, ◌+◌, ◌*◌, ◌%◌, ◌^◌, leb, ltb, eqb}
use Rattle.std.specs.Int.Bits.{bit_and, bit_xor}
use Rattle.std.specs.Int.Count.{ones}
use Rattle.bitlaws.specs.Parity.{overlap}

-- The operator i^k X^x Z^z on n qubits: qubit q has an X part where bit q of x is set, a Z part where bit q of z is.
-- On each qubit Z acts before X.
pub record Pauli : Type 0 where
  pub n : ℕ
  pub k : ℕ
  pub x : ℕ
  pub z : ℕ

-- the most qubits that a Pauli of the first layer has
abbrev pub most_qubits : ℕ
most_qubits = 256

-- Row 3 of the table lets it pass: a phase in 0..3, a width of at most 256, no mask bit at or above the width.
unfoldable pub fits : Pauli → Bool
fits P = leb P.k 3 && leb P.n most_qubits && ltb P.x (2 ^ P.n) && ltb P.z (2 ^ P.n)

abbrev pub identity : ℕ → Pauli
identity n = record { n = n; k = 0; x = 0; z = 0 }

-- A B, in which B acts first. Moving B's X past A's Z costs a sign for each qubit that has both.
unfoldable pub product : Pauli → Pauli → Pauli
product A B = record {
  n = A.n;
  k = (A.k + B.k + 2 * overlap A.z B.x) % 4;
  x = bit_xor A.x B.x;
  z = bit_xor A.z B.z;
}

-- 1 where A's X parts against B's Z parts and A's Z parts against B's X parts differ in parity, else 0
unfoldable pub anti : Pauli → Pauli → ℕ
anti A B = (overlap A.x B.z + overlap A.z B.x) % 2

-- how many qubits have a Y, that is an X and a Z part
unfoldable pub ys : Pauli → ℕ
ys P = ones (bit_and P.x P.z)

-- k minus the number of Ys, modulo 4: the exponent of i in front of the letters, as Y is i X Z. (3 is -1 modulo 4.)
unfoldable pub coefficient : Pauli → ℕ
coefficient P = (P.k + 3 * ys P) % 4

unfoldable pub hermitian : Pauli → Bool
hermitian P = eqb (coefficient P % 2) 0

-- the measurement sign of a Hermitian Pauli: 1 where the letters stand after a minus
unfoldable pub sign : Pauli → ℕ
sign P = cond (eqb (coefficient P) 2) 1 0

-- two Paulis with equal parts
pub same : {A B : Pauli} → A.n ≡ B.n → A.k ≡ B.k → A.x ≡ B.x → A.z ≡ B.z → A ≡ B
same n k x z = λ i. record { n = n i; k = k i; x = x i; z = z i }
