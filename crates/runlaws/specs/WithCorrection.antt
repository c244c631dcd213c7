-- A run with one correction more: right behind its start field, or right before its end field.
use Rattle.std.specs.Prelude.{◌≡◌, List, ◌++◌, ℕ, ◌+◌, ◌-◌, length, take, drop}
use Rattle.std.proofs.Common.{arith, length-append, length-drop}
use Rattle.std.proofs.Math.ListN.{length-take}
use Rattle.paulilaws.specs.Pauli.{Pauli}
use Rattle.runlaws.specs.PauliBytes.{correction_field, field_length}

-- the bytes f put in before byte i
abbrev pub put_in : ℕ → List ℕ → List ℕ → List ℕ
put_in i f s = take i s ++ (f ++ drop i s)

-- behind the start field's four bytes
unfoldable pub behind_start : Pauli → List ℕ → List ℕ
behind_start Q s = put_in 4 (correction_field Q) s

-- before the end field's three
unfoldable pub before_end : Pauli → List ℕ → List ℕ
before_end Q s = put_in (length s - 3) (correction_field Q) s

-- ---- either has twenty bytes more

module _ (Q : Pauli) (s : List ℕ) where
  pub behind_length : length (behind_start Q s) ≡ length s + 20
  unfolding behind_start
  behind_length = simp (length-append, length-take, length-drop) (omega (arith, field_length Q))

  pub before_length : length (before_end Q s) ≡ length s + 20
  unfolding before_end
  before_length = simp (length-append, length-take, length-drop) (omega (arith, field_length Q))
