-- Corrections folded into the Pauli that is carried along: the steps that are left, and the Pauli at the end.
use Rattle.std.specs.Prelude.{◌≡◌, List, [], ◌∷◌, ◌++◌, ℕ, ◌+◌}
use Rattle.std.proofs.Math.Option.{Option, none, some}
use Rattle.paulilaws.specs.Pauli.{Pauli, product}
use Rattle.amplitudelaws.specs.Step.{Step}
use Rattle.amplitudelaws.specs.Step.Step.{rotation, promotion, projection, correction, quarter_turn}
use Rattle.framelaws.specs.Carrying.{carried_step, passed}

-- 1 for a Pauli that is fired
unfoldable pub one_fired : Option Pauli → ℕ
one_fired none = 0
one_fired (some P) = 1

module _ {R : Type 0} where
  -- the Pauli that a step fires: a correction's
  unfoldable pub fires : Step R → Option Pauli
  fires (rotation P sign c s) = none
  fires (promotion c q) = none
  fires (projection M p v invnorm) = none
  fires (correction P) = some P
  fires (quarter_turn P) = none

  -- what is left of a step behind Q: nothing of a correction
  unfoldable pub left_of : Option Pauli → Pauli → Step R → List (Step R)
  left_of none Q t = carried_step Q t ∷ []
  left_of (some P) Q t = []

  -- and what Q is then: a correction acts after it
  unfoldable pub folded_by : Option Pauli → Pauli → Step R → Pauli
  folded_by none Q t = passed Q t
  folded_by (some P) Q t = product P Q

  unfoldable pub folded_past : Pauli → Step R → Pauli
  folded_past Q t = folded_by (fires t) Q t

  unfoldable pub folded_steps : Pauli → List (Step R) → List (Step R)
  folded_steps Q [] = []
  folded_steps Q (t ∷ ts) = left_of (fires t) Q t ++ folded_steps (folded_past Q t) ts

  unfoldable pub folded_end : Pauli → List (Step R) → Pauli
  folded_end Q [] = Q
  folded_end Q (t ∷ ts) = folded_end (folded_past Q t) ts

  -- how many steps are corrections
  unfoldable pub corrections : List (Step R) → ℕ
  corrections [] = 0
  corrections (t ∷ ts) = one_fired (fires t) + corrections ts

  -- and that none is
  abbrev pub Bare : List (Step R) → Type 0
  Bare [] = Unit
  Bare (t ∷ ts) = (fires t ≡ none) × Bare ts
