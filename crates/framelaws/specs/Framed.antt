-- Two states of n qubits that differ by a Pauli Q, up to the sign of a zero: F is Q applied to G.
use Rattle.std.specs.Prelude.{ℕ, ◌+◌, ◌*◌, ◌^◌, ◌<◌}
use Rattle.std.specs.Int.Bits.{bit_xor}
use Rattle.bitlaws.specs.Parity.{overlap}
use Rattle.paulilaws.specs.Pauli.{Pauli}
use Rattle.amplitudelaws.specs.Binary.{Point}
use Rattle.framelaws.specs.Alike.{Alike}
use Rattle.framelaws.specs.Turns.{turns}

pub record Framed (n : ℕ) (Q : Pauli) (F G : ℕ → Point) : Type 0 where
  pub at : (b : ℕ) → b < 2 ^ n → Alike (F (bit_xor b Q.x)) (turns (Q.k + 2 * overlap b Q.z) (G b))
