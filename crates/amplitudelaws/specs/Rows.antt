-- Which row of the table refuses a call on amplitudes or a kernel, lowest number first; 0 where none does.
use Rattle.std.specs.Prelude.{Bool, false, not, cond, ◌&&◌, ◌||◌, ℕ, suc, ◌-◌, leb, ltb, eqb, Float}
use Rattle.std.specs.Float.Ieee.Scale.{finite}
use Rattle.answers.specs.Row.{row, first}
use Rattle.bitlaws.specs.Digit.{digit}
use Rattle.paulilaws.specs.Pauli.{Pauli, fits, hermitian, most_qubits}
use Rattle.amplitudelaws.specs.Binary.{in_unit}
use Rattle.amplitudelaws.specs.State.{State, room}

-- the widest Pauli that becomes an action, the widest that becomes a kernel or a correction, and the widest state
-- that a qubit is promoted from
abbrev pub widest_action : ℕ
widest_action = 62

abbrev pub widest_kernel : ℕ
widest_kernel = 61

abbrev pub widest_promotion : ℕ
widest_promotion = 60

-- 3 and 6: no Pauli, or too wide
unfoldable pub width_row : ℕ → Pauli → ℕ
width_row widest P = row (not (fits P)) 3 (row (ltb widest P.n) 6 0)

-- 7 too: not Hermitian
unfoldable pub hermitian_row : ℕ → Pauli → ℕ
hermitian_row widest P = first (width_row widest P) (row (not (hermitian P)) 7 0)

unfoldable pub action_row : Pauli → ℕ
action_row P = hermitian_row widest_action P

-- 8: one of two coefficients is none
unfoldable pub unit_row : Float → Float → ℕ
unit_row c s = row (not (in_unit c && in_unit s)) 8 0

unfoldable pub rotation_kernel_row : Pauli → Float → Float → ℕ
rotation_kernel_row P c s = first (hermitian_row widest_kernel P) (unit_row c s)

-- the mask that the pivot must be in: x, or z where x is 0
unfoldable pub pivot_mask : Pauli → ℕ
pivot_mask M = cond (eqb M.x 0) M.z M.x

-- 9: no qubit to measure, 10: no pivot of this width, 11: identity, 12: a pivot that the Pauli does not have
unfoldable pub pivot_row : Pauli → ℕ → ℕ
pivot_row M p = row (eqb M.n 0) 9 (row (leb M.n p) 10 (row (eqb (pivot_mask M) 0) 11 (row (not (eqb (digit p (pivot_mask M)) 1)) 12 0)))

-- with 8 between, where `unfit` says so
unfoldable pub measurement_row : Pauli → ℕ → Bool → ℕ
measurement_row M p unfit = first (hermitian_row widest_kernel M) (first (row unfit 8 0) (pivot_row M p))

-- 13: no room for n qubits
unfoldable pub room_row : Bool → ℕ
room_row enough = row (not enough) 13 0

-- ---- the calls on amplitudes

unfoldable pub rotation_row : Pauli → Float → Float → State → ℕ
rotation_row P c s S = first (rotation_kernel_row P c s) (room_row (room P.n S))

-- 3 and 6 of a width without a Pauli
unfoldable pub promoted_width_row : ℕ → ℕ
promoted_width_row n = first (row (ltb most_qubits n) 3 0) (row (ltb widest_promotion n) 6 0)

unfoldable pub promotion_row : ℕ → Float → Float → State → ℕ
promotion_row n c q S = first (promoted_width_row n) (first (unit_row c q) (room_row (room (suc n) S)))

-- a projection with an X part needs room for what it leaves in the scratch too
unfoldable pub projection_row : Pauli → ℕ → Float → State → State → ℕ
projection_row M p invnorm S scratch =
    first (measurement_row M p (not (finite invnorm))) (room_row (room M.n S && (eqb M.x 0 || room (M.n - 1) scratch)))

unfoldable pub probability_row : Pauli → ℕ → State → ℕ
probability_row M p S = first (measurement_row M p false) (room_row (room M.n S))

unfoldable pub correction_row : Pauli → State → ℕ
correction_row P S = first (width_row widest_kernel P) (room_row (room P.n S))
