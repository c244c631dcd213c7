-- The basis that a diagonal projection reads.
use Rattle.std.specs.Prelude.{ℕ, ◌+◌, ◌*◌, ◌%◌, ◌^◌}
use Rattle.bitlaws.specs.Parity.{overlap}
use Rattle.bitlaws.specs.Opening.{open_bit}

-- the basis whose bits without the pivot p are j and whose parity with z is e's, where z has the pivot
unfoldable pub source : ℕ → ℕ → ℕ → ℕ → ℕ
source p z e j = open_bit p j + (e + overlap (open_bit p j) z) % 2 * 2 ^ p
