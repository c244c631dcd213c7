-- A state of n qubits: two lists of which the first 2^n entries are amplitudes. What lies past them is no part of it and is kept.
use Rattle.std.specs.Prelude.{Bool, ◌&&◌, List, ℕ, ◌^◌, ◌≤◌, leb, Float, length, get_or, set}
use Rattle.std.specs.Float.{nan}
use Rattle.statelaws.specs.Over.{over}
use Rattle.amplitudelaws.specs.Binary.{Point}

pub record State : Type 0 where
  pub re : List Float
  pub im : List Float

abbrev pub state_of : List Float → List Float → State
state_of re im = record { re = re; im = im }

-- the amplitude at b
unfoldable pub point : State → ℕ → Point
point S b = record { re = get_or S.re b nan; im = get_or S.im b nan }

-- amplitude a written at b
unfoldable pub set_point : ℕ → Point → State → State
set_point b a S = record { re = set S.re b a.re; im = set S.im b a.im }

-- the amplitudes of n qubits replaced by F's
unfoldable pub written : ℕ → (ℕ → Point) → State → State
written n F S = record { re = over (2 ^ n) (λ b. (F b).re) S.re; im = over (2 ^ n) (λ b. (F b).im) S.im }

-- both lists have room for k amplitudes
unfoldable pub room_for : ℕ → State → Bool
room_for k S = leb k (length S.re) && leb k (length S.im)

-- and for those of n qubits
unfoldable pub room : ℕ → State → Bool
room n S = room_for (2 ^ n) S

abbrev pub HasRoom : ℕ → State → Type 0
HasRoom n S = (2 ^ n ≤ length S.re) × (2 ^ n ≤ length S.im)
