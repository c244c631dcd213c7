-- A text put into a buffer at a place where it fits, and measured in any case.
use Rattle.std.specs.Prelude.{◌≡◌, List, ℕ, ◌+◌, ◌≤◌, length}
use Rattle.std.proofs.lemmas.List.Edits.{sets}

-- r is where the text ends, and `left` the buffer: with the text, where that fits, and never longer or shorter
pub record PutFitting (text : List ℕ) (at : ℕ) (out : List ℕ) (r : ℕ) (left : List ℕ) : Type 0 where
  pub ends : r ≡ at + length text
  pub holds : at + length text ≤ length out → left ≡ sets out at text
  pub kept : length left ≡ length out
