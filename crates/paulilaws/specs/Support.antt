-- The highest qubit on which a Pauli is not the identity.
use Rattle.std.specs.Prelude.{◌≡◌, ℕ, ◌<◌}
use Rattle.std.proofs.Math.Option.{Option}
use Rattle.std.specs.Int.Bits.{bit_or}
use Rattle.bitlaws.specs.Highest.{highest}
use Rattle.paulilaws.specs.Pauli.{Pauli}
use Rattle.paulilaws.specs.Letter.{letter_at, I}

-- the highest qubit in x or z
unfoldable pub max_support : Pauli → Option ℕ
max_support P = highest P.n (bit_or P.x P.z)

-- qubit q, below the width, is not I, and every qubit above it is
pub record TopLetter (P : Pauli) (q : ℕ) : Type 0 where
  pub inside : q < P.n
  pub letter : letter_at q P ≡ I → ⊥
  pub above : (r : ℕ) → q < r → r < P.n → letter_at r P ≡ I
