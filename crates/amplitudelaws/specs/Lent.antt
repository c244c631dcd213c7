-- What lent slices of floats hold, as contracts name them: the lists that stand in the two slices of a state.
use Rattle.std.specs.Prelude.{List, ℕ, ◌<◌, Float, length}
use Rattle.amplitudelaws.specs.State.{state_of, HasRoom}

-- room for the amplitudes of n qubits; a basis index of both slices
abbrev pub Room : ℕ → List Float → List Float → Type 0
Room n re im = HasRoom n (state_of re im)

abbrev pub In : ℕ → List Float → List Float → Type 0
In b re im = (b < length re) × (b < length im)
