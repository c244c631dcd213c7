-- A Pauli carried through steps: what becomes of each step's sign or branch, and of the Pauli.
use Rattle.std.specs.Prelude.{Bool, true, false, List, [], ◌∷◌, ℕ, suc, ◌+◌, ◌*◌, ◌%◌, eqb}
use Rattle.bitlaws.specs.Digit.{digit}
use Rattle.paulilaws.specs.Pauli.{Pauli, product, anti}
use Rattle.paulilaws.specs.Frame.{raised, dropped}
use Rattle.amplitudelaws.specs.Step.{Step}
use Rattle.amplitudelaws.specs.Step.Step.{rotation, promotion, projection, correction, quarter_turn}

-- a sign or a branch, flipped where Q and P anticommute
unfoldable pub flipped : Pauli → Pauli → ℕ → ℕ
flipped Q P flag = (flag + anti Q P) % 2

-- the part of Q that decides at a pivot of M: its X part where M has one, else its Z part
unfoldable pub deciding : Bool → Pauli → ℕ
deciding true Q = Q.z
deciding false Q = Q.x

-- whether Q has that part at pivot p
unfoldable pub meets : Pauli → ℕ → Pauli → Bool
meets M p Q = eqb (digit p (deciding (eqb M.x 0) Q)) 1

-- Q before the pivot's qubit goes: multiplied by M, times -1 where the new branch v is 1, or as it was
unfoldable pub absorbed : Bool → Pauli → ℕ → Pauli → Pauli
absorbed true M v Q = raised (2 * v) (product Q M)
absorbed false M v Q = Q

-- the identity on a new highest qubit
unfoldable pub widened : Pauli → Pauli
widened Q = record { n = suc Q.n; k = Q.k; x = Q.x; z = Q.z }

-- Q behind a quarter turn of P: t says that they anticommute
unfoldable pub turned_by : Bool → Pauli → Pauli → Pauli
turned_by true P Q = raised 3 (product P Q)
turned_by false P Q = Q

unfoldable pub turned_past : Pauli → Pauli → Pauli
turned_past Q P = turned_by (eqb (anti Q P) 1) P Q

module _ {R : Type 0} where
  -- the step that Q leaves behind it
  unfoldable pub carried_step : Pauli → Step R → Step R
  carried_step Q (rotation P sign c s) = rotation P (flipped Q P sign) c s
  carried_step Q (promotion c q) = promotion c q
  carried_step Q (projection M p v invnorm) = projection M p (flipped Q M v) invnorm
  carried_step Q (correction P) = correction P
  carried_step Q (quarter_turn P) = quarter_turn P

  -- and what Q is then
  unfoldable pub passed : Pauli → Step R → Pauli
  passed Q (rotation P sign c s) = Q
  passed Q (promotion c q) = widened Q
  passed Q (projection M p v invnorm) = dropped p (absorbed (meets M p Q) M (flipped Q M v) Q)
  passed Q (correction P) = raised (2 * anti Q P) Q
  passed Q (quarter_turn P) = turned_past Q P

  unfoldable pub carried_steps : Pauli → List (Step R) → List (Step R)
  carried_steps Q [] = []
  carried_steps Q (t ∷ ts) = carried_step Q t ∷ carried_steps (passed Q t) ts

  unfoldable pub end_pauli : Pauli → List (Step R) → Pauli
  end_pauli Q [] = Q
  end_pauli Q (t ∷ ts) = end_pauli (passed Q t) ts
