-- The log that a chip's frame unit writes beside a run (E10 of the change requests): a byte for each rotation and projection in the run's order, the sign or branch that it used,
-- and then the 17 bytes of the Pauli that it ends in.
use Rattle.std.specs.Prelude.{Bool, true, false, ◌&&◌, List, [], ◌∷◌, ◌++◌, ℕ, eqb}
use Rattle.paulilaws.specs.Pauli.{Pauli}
use Rattle.amplitudelaws.specs.Step.{Step}
use Rattle.amplitudelaws.specs.Step.Step.{rotation, promotion, projection, correction, quarter_turn}
use Rattle.framelaws.specs.Carrying.{carried_steps, end_pauli}
use Rattle.runlaws.specs.PauliBytes.{pauli_bytes}

module _ {R : Type 0} where
  -- a step's sign or branch; promotions, corrections and quarter turns have no byte
  unfoldable pub flag_of : Step R → List ℕ
  flag_of (rotation P sign c s) = sign ∷ []
  flag_of (promotion c q) = []
  flag_of (projection M p v invnorm) = v ∷ []
  flag_of (correction P) = []
  flag_of (quarter_turn P) = []

  unfoldable pub flags_of : List (Step R) → List ℕ
  flags_of [] = []
  flags_of (t ∷ ts) = flag_of t ++ flags_of ts

  -- the log of a unit that carries Q
  unfoldable pub frame_log : Pauli → List (Step R) → List ℕ
  frame_log Q ts = flags_of (carried_steps Q ts) ++ pauli_bytes (end_pauli Q ts)

-- byte for byte
unfoldable pub is_same : List ℕ → List ℕ → Bool
is_same [] [] = true
is_same [] (b ∷ t) = false
is_same (a ∷ s) [] = false
is_same (a ∷ s) (b ∷ t) = eqb a b && is_same s t
