-- A part of a text, and where a byte stands in one.
use Rattle.std.specs.Prelude.{Bool, true, false, List, [], ◌∷◌, ℕ, suc, eqb, take, drop}

-- the text from `start` on and before `end`
unfoldable pub slice : ℕ → ℕ → List ℕ → List ℕ
slice start end s = drop start (take end s)

-- the place of a byte: it is the first, or it stands k behind the first
unfoldable pub index_after : Bool → ℕ → ℕ
index_after true k = 0
index_after false k = suc k

-- the place of the first byte b; the length of the text where there is none
unfoldable pub index_of : ℕ → List ℕ → ℕ
index_of b [] = 0
index_of b (x ∷ s) = index_after (eqb x b) (index_of b s)
