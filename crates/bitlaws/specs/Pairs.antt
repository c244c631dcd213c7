-- The pairs b, b xor x, counted by the basis without the pivot, where x has the pivot.
use Rattle.std.specs.Prelude.{ℕ, ◌*◌}
use Rattle.std.specs.Int.Bits.{bit_xor}
use Rattle.bitlaws.specs.Digit.{digit}
use Rattle.bitlaws.specs.Opening.{drop_bit}

-- the number of the pair that b is in: of b and b xor x the one whose bit p is clear, without that bit
unfoldable pub pair_of : ℕ → ℕ → ℕ → ℕ
pair_of p x b = drop_bit p (bit_xor b (digit p b * x))
