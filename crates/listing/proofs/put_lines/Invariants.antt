use Rattle.std.proofs.Common.{◌≡◌, ℕ, ◌+◌, ◌≤◌, List, length}
use Rattle.std.proofs.lemmas.List.Edits.{sets}
use Rattle.amplitudelaws.specs.State.{State, state_of}
use Rattle.listing.specs.Listing.{amplitude_lines}
use Rattle.listing.proofs.put_lines.Given as goal

pub record Put (S : State) (dim at : ℕ) (old : List ℕ) (b end : ℕ) (now : List ℕ) : Type 0 where
  pub room : at + length (amplitude_lines S dim) ≤ length old
  pub ends : end ≡ at + length (amplitude_lines S b)
  pub stands : now ≡ sets old at (amplitude_lines S b)

abbrev pub invariant-loop-b : goal.invariant-loop-b
invariant-loop-b l = (l.dim ≤ length l.re) × (l.dim ≤ length l.im) × Put (state_of l.re l.im) l.dim l.at l.initial.out l.b l.end l.out
