-- The mask that four 64-bit words make.
use Rattle.std.specs.Prelude.{Bool, cond, List, ℕ, ltb, get_or}
use Rattle.bitlaws.specs.Digit.{bit_of, put}
use Rattle.bitlaws.specs.Words.{words}

-- bit q at bit q mod 64 of word q div 64
unfoldable pub mask : List ℕ → ℕ
mask w = words 64 (λ i. get_or w i 0) 4

-- bit q written; past the last of the 256 bits nothing is
unfoldable pub bit_written : ℕ → Bool → ℕ → ℕ
bit_written q v m = cond (ltb q 256) (put q (bit_of v) m) m
