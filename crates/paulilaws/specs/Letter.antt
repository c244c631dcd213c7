-- The letters of a Pauli, one to a qubit: reading one, and setting one, which keeps the coefficient.
use Rattle.std.specs.Prelude.{◌≡◌, refl, ℕ, zero, suc, ◌+◌, ◌*◌, ◌%◌, ◌<◌, min}
use Rattle.std.proofs.Common.{ap₂, ◌∙◌, arith}
use Rattle.bitlaws.specs.Digit.{digit, put}
use Rattle.bitlaws.specs.Writing.{digit_put, digit_put_other}
use Rattle.paulilaws.specs.Pauli.{Pauli}

pub data Letter : Type 0 where
  I X Z Y : Letter

-- the letters' parts: Y has both
abbrev pub x_part : Letter → ℕ
x_part I = 0
x_part X = 1
x_part Z = 0
x_part Y = 1

abbrev pub z_part : Letter → ℕ
z_part I = 0
z_part X = 0
z_part Z = 1
z_part Y = 1

-- the letter with these parts
abbrev pub letter_of : ℕ → ℕ → Letter
letter_of zero zero = I
letter_of (suc x) zero = X
letter_of zero (suc z) = Z
letter_of (suc x) (suc z) = Y

-- 1 for Y, else 0
abbrev pub is_y : Letter → ℕ
is_y l = min (x_part l) (z_part l)

unfoldable pub letter_at : ℕ → Pauli → Letter
letter_at q P = letter_of (digit q P.x) (digit q P.z)

-- Qubit q's letter set to l: both its bits are written, and k gains 1 for a new Y and loses 1, which is 3 modulo 4, for an old one.
unfoldable pub with_letter : ℕ → Letter → Pauli → Pauli
with_letter q l P = record {
  n = P.n;
  k = (P.k + is_y l + 3 * is_y (letter_at q P)) % 4;
  x = put q (x_part l) P.x;
  z = put q (z_part l) P.z;
}

-- ---- the parts of a letter

pub x_digit : (l : Letter) → x_part l < 2
x_digit I = omega arith
x_digit X = omega arith
x_digit Z = omega arith
x_digit Y = omega arith

pub z_digit : (l : Letter) → z_part l < 2
z_digit I = omega arith
z_digit X = omega arith
z_digit Z = omega arith
z_digit Y = omega arith

of_parts : (l : Letter) → letter_of (x_part l) (z_part l) ≡ l
of_parts I = refl
of_parts X = refl
of_parts Z = refl
of_parts Y = refl

-- ---- what is set is read, there and nowhere else

pub letter_set : (q : ℕ) (l : Letter) (P : Pauli) → letter_at q (with_letter q l P) ≡ l
unfolding letter_at with_letter
letter_set q l P = ap₂ letter_of (digit_put q (x_part l) P.x (x_digit l)) (digit_put q (z_part l) P.z (z_digit l)) ∙ of_parts l

pub letter_kept : (q r : ℕ) (l : Letter) (P : Pauli) → (r ≡ q → ⊥) → letter_at r (with_letter q l P) ≡ letter_at r P
unfolding letter_at with_letter
letter_kept q r l P ne = ap₂ letter_of (digit_put_other q r (x_part l) P.x (x_digit l) ne) (digit_put_other q r (z_part l) P.z (z_digit l) ne)
