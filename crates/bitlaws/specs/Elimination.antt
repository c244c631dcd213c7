-- Elimination modulo 2: words cleared digit by digit, each digit by the first word that has it. What is left of one word beside them says whether it is a sum of
-- some of the words, as far as the cleared digits go, and of which (Eliminated).
use Rattle.std.specs.Prelude.{cond, List, [], ◌∷◌, map, ℕ, zero, suc, ◌^◌, eqb}
use Rattle.std.specs.Int.Bits.{bit_xor}
use Rattle.bitlaws.specs.Digit.{digit}

-- the first word that has digit j, 0 where none has
unfoldable pub first_with : ℕ → List ℕ → ℕ
first_with j [] = 0
first_with j (k ∷ ks) = cond (eqb (digit j k) 1) k (first_with j ks)

-- a, whose digit j is cleared by the word w
unfoldable pub cleared : ℕ → ℕ → ℕ → ℕ
cleared j w a = cond (eqb (digit j a) 1) (bit_xor a w) a

-- the words behind the lowest m digits, and a word then; the word that clears is cleared with the others, and is 0 from then on
unfoldable pub words_after : ℕ → List ℕ → List ℕ
words_after zero ks = ks
words_after (suc m) ks = map (cleared m (first_with m (words_after m ks))) (words_after m ks)

unfoldable pub word_after : ℕ → List ℕ → ℕ → ℕ
word_after zero ks o = o
word_after (suc m) ks o = cleared m (first_with m (words_after m ks)) (word_after m ks o)

-- the words of a linear map, one for each of the q digits of its argument, the highest first
unfoldable pub words_of : (ℕ → ℕ) → ℕ → List ℕ
words_of f zero = []
words_of f (suc q) = f (2 ^ q) ∷ words_of f q
