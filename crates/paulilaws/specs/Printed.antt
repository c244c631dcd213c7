-- The letters as Nielsen and Chuang print them: what I, X, Y and Z on one qubit do to |0> and |1>.
use Rattle.std.specs.Prelude.{◌≡◌, ℕ}
use Rattle.paulilaws.specs.Pauli.{identity}
use Rattle.paulilaws.specs.Letter.{Letter, with_letter}
use Rattle.paulilaws.specs.Letter.Letter.{I, X, Y, Z}
use Rattle.paulilaws.specs.Action.{Ket, on_ket}

-- i^phase |basis>
abbrev times_i : ℕ → ℕ → Ket
times_i phase basis = record { phase = phase; basis = basis }

-- what a letter alone makes of a basis state of its qubit
unfoldable pub sent : Letter → ℕ → Ket
sent l b = on_ket (with_letter 0 l (identity 1)) (times_i 0 b)

pub record Printed : Type 0 where
  pub i_zero : sent I 0 ≡ times_i 0 0
  pub i_one : sent I 1 ≡ times_i 0 1
  pub x_zero : sent X 0 ≡ times_i 0 1
  pub x_one : sent X 1 ≡ times_i 0 0
  pub y_zero : sent Y 0 ≡ times_i 1 1
  pub y_one : sent Y 1 ≡ times_i 3 0
  pub z_zero : sent Z 0 ≡ times_i 0 0
  pub z_one : sent Z 1 ≡ times_i 2 1
