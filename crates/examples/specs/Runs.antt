-- Runs written out as bytes, for examples: masks below 256, c and s (or c and q) 0 and 1, invnorm 1.
use Rattle.std.specs.Prelude.{List, [], ◌∷◌, ◌++◌, ℕ, suc, Float, length, replicate}
use Rattle.std.specs.Float.{binary64}
use Rattle.std.specs.Float.Ieee.{of_bits}

abbrev pub zero : Float
zero = of_bits binary64 0

abbrev pub one : Float
one = of_bits binary64 0x3FF0000000000000

-- eight bytes of a mask below 256, and of the floats 0 and 1; then what follows
abbrev eight : ℕ → List ℕ → List ℕ
eight low rest = low ∷ 0 ∷ 0 ∷ 0 ∷ 0 ∷ 0 ∷ 0 ∷ 0 ∷ rest

abbrev zero_bits : List ℕ → List ℕ
zero_bits = eight 0

abbrev one_bits : List ℕ → List ℕ
one_bits rest = 0 ∷ 0 ∷ 0 ∷ 0 ∷ 0 ∷ 0 ∷ 240 ∷ 63 ∷ rest

-- a Pauli's 17 bytes
abbrev pauli_bytes : ℕ → ℕ → ℕ → List ℕ → List ℕ
pauli_bytes k x z rest = k ∷ eight x (eight z rest)

-- the fields of a rotation (k, x, z, sign), a promotion, a projection (k, x, z, pivot, branch), a correction and a quarter turn (k, x, z); then what follows
abbrev pub rotation : ℕ → ℕ → ℕ → ℕ → List ℕ → List ℕ
rotation k x z sign rest = 2 ∷ 34 ∷ 0 ∷ pauli_bytes k x z (sign ∷ zero_bits (one_bits rest))

abbrev pub promotion : List ℕ → List ℕ
promotion rest = 3 ∷ 16 ∷ 0 ∷ zero_bits (one_bits rest)

abbrev pub projection : ℕ → ℕ → ℕ → ℕ → ℕ → List ℕ → List ℕ
projection k x z pivot branch rest = 4 ∷ 27 ∷ 0 ∷ pauli_bytes k x z (pivot ∷ branch ∷ one_bits rest)

abbrev pub correction : ℕ → ℕ → ℕ → List ℕ → List ℕ
correction k x z rest = 5 ∷ 17 ∷ 0 ∷ pauli_bytes k x z rest

abbrev pub quarter_turn : ℕ → ℕ → ℕ → List ℕ → List ℕ
quarter_turn k x z rest = 7 ∷ 17 ∷ 0 ∷ pauli_bytes k x z rest

-- the start field, the steps, the end field
abbrev pub run_from : ℕ → (List ℕ → List ℕ) → List ℕ
run_from n steps = 1 ∷ 1 ∷ 0 ∷ n ∷ steps (6 ∷ 0 ∷ 0 ∷ [])

-- a byte that no run here has
abbrev other : ℕ
other = 238

-- an output to carry a run into: other bytes, one more than the run has; and the same with the carried run in it, the last byte as it was
abbrev pub output_for : List ℕ → List ℕ
output_for run = replicate (suc (length run)) other

abbrev pub filled_with : List ℕ → List ℕ
filled_with carried = carried ++ other ∷ []
