-- What folding leaves of a run differs from the run without its corrections' fields, closed up, in sign and branch bytes only.
use Rattle.std.specs.Prelude.{◌≡◌, List, ◌⊎◌, ℕ, ◌+◌, length}
use Rattle.std.specs.Float.Ieee.{Float}
use Rattle.amplitudelaws.specs.Step.{Step}
use Rattle.runlaws.specs.Bytes.{byte_at}
use Rattle.runlaws.specs.Flags.{FlagIn}

-- a and b, which begin at `at`, differ in the flags of the steps' fields only
pub record Unlike (at : ℕ) (us : List (Step Float)) (a b : List ℕ) : Type 0 where
  pub size : length a ≡ length b
  pub byte : (i : ℕ) → (byte_at a i ≡ byte_at b i) ⊎ FlagIn at us (at + i)
