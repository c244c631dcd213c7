-- What elimination leaves. Complete: a word that is a sum of the words, up to digits that are not cleared, has none of the cleared digits left. Sound: what is
-- left differs from the word by a sum of the words.
use Rattle.std.specs.Prelude.{◌≡◌, List, [], ◌∷◌, ◌⊎◌}
use Prim.Native.Nat.{ℕ, ◌<◌}
use Rattle.std.specs.Int.Bits.{bit_xor}
use Rattle.bitlaws.specs.Digit.{digit}

-- e is o xor some of the words
abbrev pub Reach : ℕ → List ℕ → ℕ → Type 0
Reach o [] e = o ≡ e
Reach o (k ∷ ks) e = Reach o ks e ⊎ Reach (bit_xor o k) ks e

abbrev pub All : (ℕ → Type 0) → List ℕ → Type 0
All P [] = Unit
All P (k ∷ ks) = P k × All P ks

-- no digit below m
abbrev pub Clear : ℕ → ℕ → Type 0
Clear m a = (i : ℕ) → i < m → digit i a ≡ 0
