-- The qubits on which two Paulis anticommute, as a mask: exactly those, each judged by its two letters alone, and an odd number of them exactly where the Paulis anticommute.
use Rattle.std.specs.Prelude.{◌≡◌}
use Prim.Native.Nat.{ℕ, ◌%◌}
use Rattle.std.specs.Int.Bits.{bit_and, bit_xor}
use Rattle.std.specs.Int.Count.{ones}
use Rattle.bitlaws.specs.Digit.{digit}
use Rattle.paulilaws.specs.Pauli.{Pauli, identity, anti}
use Rattle.paulilaws.specs.Letter.{Letter, letter_at, with_letter}
use Rattle.paulilaws.specs.Letter.Letter.{I, X, Z, Y}

unfoldable pub anti_mask : Pauli → Pauli → ℕ
anti_mask Q P = bit_xor (bit_and Q.x P.z) (bit_and Q.z P.x)

-- 1 where two letters anticommute: they differ, and neither is I
abbrev pub letters_anti : Letter → Letter → ℕ
letters_anti I b = 0
letters_anti X I = 0
letters_anti X X = 0
letters_anti X Z = 1
letters_anti X Y = 1
letters_anti Z I = 0
letters_anti Z X = 1
letters_anti Z Z = 0
letters_anti Z Y = 1
letters_anti Y I = 0
letters_anti Y X = 1
letters_anti Y Z = 1
letters_anti Y Y = 0

-- a letter as a Pauli on one qubit
unfoldable pub alone : Letter → Pauli
alone l = with_letter 0 l (identity 1)

pub record AntiMask (Q P : Pauli) (mask : ℕ) : Type 0 where
  -- a qubit is in the mask exactly where its two letters anticommute: by the letters' table,
  pub letters : (q : ℕ) → digit q mask ≡ letters_anti (letter_at q Q) (letter_at q P)
  -- and as Paulis on this one qubit
  pub qubit : (q : ℕ) → digit q mask ≡ anti (alone (letter_at q Q)) (alone (letter_at q P))
  -- an odd number of them where the two anticommute, an even one where they do not
  pub odd : ones mask % 2 ≡ anti Q P
