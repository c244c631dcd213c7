-- What `bench` prints, as bytes in ASCII: the last width and each basis with its amplitude, or a refusal, each on a line.
use Rattle.std.specs.Prelude.{cond, List, [], ◌∷◌, ◌++◌, ℕ, zero, suc, ◌/◌, ◌%◌, ltb, Float}
use Rattle.std.specs.Float.{binary64}
use Rattle.std.specs.Float.Ieee.{is_nan, to_bits}
use Rattle.floatlaws.specs.Same.{is_zero}
use Rattle.io.specs.Digits.{hex_digit_ascii}
pub use Rattle.io.specs.Digits.{last_digits as digits}

-- the decimal digits of n, which is at most `most`: those of n / 10, where it is not 0, and then the last
unfoldable pub decimal_up_to : ℕ → ℕ → List ℕ
decimal_up_to zero n = hex_digit_ascii 0 ∷ []
decimal_up_to (suc most) n = cond (ltb n 10) (hex_digit_ascii n ∷ []) (decimal_up_to most (n / 10) ++ hex_digit_ascii (n % 10) ∷ [])

unfoldable pub decimal : ℕ → List ℕ
decimal n = decimal_up_to n n

-- the bits of a float, every NaN having the same
unfoldable pub bits_of : Float → ℕ
bits_of x = cond (is_nan x) 0x7ff8000000000000 (to_bits binary64 x)

-- the bits that are listed: 0 for either zero (E6 of the change requests)
unfoldable pub listed_bits : Float → ℕ
listed_bits x = cond (is_zero x) 0 (bits_of x)

-- a space and 16 hexadecimal digits
unfoldable pub part : Float → List ℕ
part x = 32 ∷ digits 16 16 (listed_bits x)

-- `qubits ` and the width
unfoldable pub width_line : ℕ → List ℕ
width_line width = 113 ∷ 117 ∷ 98 ∷ 105 ∷ 116 ∷ 115 ∷ 32 ∷ (decimal width ++ 10 ∷ [])

-- the basis, and the two parts of its amplitude
unfoldable pub amplitude_line : ℕ → Float → Float → List ℕ
amplitude_line basis re im = decimal basis ++ (part re ++ (part im ++ 10 ∷ []))

-- `refused ` and the number
unfoldable pub refusal_line : ℕ → List ℕ
refusal_line number = 114 ∷ 101 ∷ 102 ∷ 117 ∷ 115 ∷ 101 ∷ 100 ∷ 32 ∷ (decimal number ++ 10 ∷ [])
