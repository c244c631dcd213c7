-- A step of a run, over any arithmetic's numbers, and the width behind it.
use Rattle.std.specs.Prelude.{ℕ, suc, ◌-◌, List, [], ◌∷◌}
use Rattle.paulilaws.specs.Pauli.{Pauli}

-- A rotation has its Pauli, sign, c and s; a promotion c and q; a projection its Pauli, pivot, branch and invnorm; a correction its Pauli, and so
-- has a quarter turn.
-- A Pauli's width is the state's when the step begins.
pub data Step (R : Type 0) : Type 0 where
  rotation : Pauli → ℕ → R → R → Step R
  promotion : R → R → Step R
  projection : Pauli → ℕ → ℕ → R → Step R
  correction : Pauli → Step R
  quarter_turn : Pauli → Step R

module _ {R : Type 0} where
  unfoldable pub width_after : ℕ → Step R → ℕ
  width_after n (rotation P sign c s) = n
  width_after n (promotion c q) = suc n
  width_after n (projection M p v invnorm) = n - 1
  width_after n (correction P) = n
  width_after n (quarter_turn P) = n

  unfoldable pub last_width : ℕ → List (Step R) → ℕ
  last_width n [] = n
  last_width n (t ∷ ts) = last_width (width_after n t) ts
