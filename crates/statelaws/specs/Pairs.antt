-- A loop over the pairs b, b xor x of n qubits, where x has the pivot p: turn t writes the pair whose basis without the pivot is t.
use Rattle.std.specs.Prelude.{◌≡◌, ℕ, ◌^◌, ◌<◌}
use Rattle.bitlaws.specs.Digit.{digit}

-- x is a mask of n qubits that has the pivot p
pub record Pivoted (n p x : ℕ) : Type 0 where
  pub inside : p < n
  pub mask : x < 2 ^ n
  pub has : digit p x ≡ 1
