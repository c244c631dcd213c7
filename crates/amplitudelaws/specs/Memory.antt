-- The four lent buffers of a call that may need a scratch.
use Rattle.std.specs.Prelude.{List, Float}
use Rattle.amplitudelaws.specs.State.{State, state_of}

-- the state, and the scratch that a projection with an X part makes its result in
pub record Memory : Type 0 where
  pub state : State
  pub scratch : State

abbrev pub memory_of : List Float → List Float → List Float → List Float → Memory
memory_of re im scratchRe scratchIm = record { state = state_of re im; scratch = state_of scratchRe scratchIm }
