-- A Pauli fired as a pulse: its action on the amplitudes.
use Rattle.std.specs.Prelude.{ℕ, ◌+◌, ◌*◌, ◌%◌}
use Rattle.std.specs.Int.Bits.{bit_xor}
use Rattle.bitlaws.specs.Parity.{overlap}
use Rattle.paulilaws.specs.Pauli.{Pauli}
use Rattle.amplitudelaws.specs.Arithmetic.{Amplitude, Arithmetic, times_power}

module _ {R : Type 0} (A : Arithmetic R) where
  -- the amplitude at b comes from b xor x, times i^(k + 2 parity) for the parity there
  unfoldable pub corrected : Pauli → (ℕ → Amplitude R) → ℕ → Amplitude R
  corrected P F b =
      let from = bit_xor b P.x in
      times_power A ((P.k + 2 * overlap from P.z) % 4) (F from)
