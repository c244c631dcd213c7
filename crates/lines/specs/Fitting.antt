-- A text that is put into a buffer only where it has room there.
use Rattle.std.specs.Prelude.{◌≡◌, cond, List, [], ℕ, ◌+◌, ◌≤◌, ◌<◌, leb, length}
use Rattle.std.proofs.Common.{ap}
use Rattle.std.proofs.Math.Bool.{Bool}
use borrow.Author.Tests.{le-leb, lt-leb}

-- what is put at `at`: the text, or nothing where the buffer ends before it would
unfoldable pub fitting : List ℕ → ℕ → List ℕ → List ℕ
fitting text at out = cond (leb (at + length text) (length out)) text []

module _ (text : List ℕ) (at : ℕ) (out : List ℕ) where
  pub fitting_whole : at + length text ≤ length out → fitting text at out ≡ text
  unfolding fitting
  fitting_whole h = ap (λ (t : Bool). cond t text []) (le-leb (at + length text) (length out) h)

  pub fitting_none : length out < at + length text → fitting text at out ≡ []
  unfolding fitting
  fitting_none h = ap (λ (t : Bool). cond t text []) (lt-leb (at + length text) (length out) h)
