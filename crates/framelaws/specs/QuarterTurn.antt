-- What a quarter turn of P is: in its rows and in what it leaves the rotation of P with sign 0 whose c and s are both h. But a Pauli goes past
-- it otherwise: the step stays, and where they anticommute the Pauli becomes another.
use Rattle.std.specs.Prelude.{◌≡◌, refl, ℕ, Float}
use Rattle.std.specs.Float.Ieee.{of_bits, neg, le, lt, eq}
use Rattle.answers.specs.Row.{row}
use Rattle.paulilaws.specs.Pauli.{Pauli, product, anti}
use Rattle.paulilaws.specs.Frame.{raised}
use Rattle.amplitudelaws.specs.Arithmetic.{Amplitude, Arithmetic}
use Rattle.amplitudelaws.specs.Binary.{binary, in_unit}
use Rattle.amplitudelaws.specs.Rows.{unit_row}
use Rattle.amplitudelaws.specs.Step.{width_after}
use Rattle.amplitudelaws.specs.Step.Step.{rotation, quarter_turn}
use Rattle.amplitudelaws.specs.Acting.{acts}
use Rattle.framelaws.specs.Caller.{Caller}
use Rattle.framelaws.specs.Rows.{step_row}
use Rattle.framelaws.specs.Carrying.{carried_step, passed}
use Rattle.framelaws.specs.Memory.{Memory, stepped}
use Rattle.framelaws.specs.Survey.{mixed_amplitudes}

pub record QuarterTurn (P : Pauli) : Type 1 where
  -- refused by the same rows
  pub rows : (caller : Caller) (n : ℕ) → step_row caller n (quarter_turn P) ≡ step_row caller n (rotation P 0 binary.h binary.h)
  -- the same amplitudes in any arithmetic, at binary64 in every lent buffer; no qubit more or less, and no scratch
  pub amplitudes : {R : Type 0} (A : Arithmetic R) (n : ℕ) (F : ℕ → Amplitude R)
      → acts A n (quarter_turn P) F ≡ acts A n (rotation P 0 A.h A.h) F
  pub buffers : (n : ℕ) (m : Memory) → stepped n (quarter_turn P) m ≡ stepped n (rotation P 0 binary.h binary.h) m
  pub width : (n : ℕ) → width_after {R = Float} n (quarter_turn P) ≡ n
  pub scratch : (n : ℕ) → mixed_amplitudes {R = Float} n (quarter_turn P) ≡ 0
  -- a Pauli Q leaves it as it is, and is P times Q, its phase raised by 3, or Q again
  pub stays : (Q : Pauli) → carried_step {R = Float} Q (quarter_turn P) ≡ quarter_turn P
  pub becomes : (Q : Pauli) → anti Q P ≡ 1 → passed {R = Float} Q (quarter_turn P) ≡ raised 3 (product P Q)
  pub passes : (Q : Pauli) → anti Q P ≡ 0 → passed {R = Float} Q (quarter_turn P) ≡ Q

-- c and s, which row 8 lets pass
pub root_unit : unit_row binary.h binary.h ≡ 0
unfolding unit_row row in_unit le lt eq neg of_bits
root_unit = refl
