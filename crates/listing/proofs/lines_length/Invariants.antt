use Prim.Native.Nat.{◌≤◌}
use mathlib.Core.Path.{◌≡◌}
use lib.ListN.{length}
use Rattle.amplitudelaws.specs.State.{State}
use Rattle.listing.specs.Listing.{amplitude_lines}
use Rattle.listing.proofs.lines_length.Given as goal

abbrev pub invariant-loop-b : goal.invariant-loop-b
invariant-loop-b l = (l.dim ≤ 4096) × ((S : State) → l.len ≡ length (amplitude_lines S l.b))
