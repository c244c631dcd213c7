-- What steps leave in the four lent buffers.
use Rattle.std.specs.Prelude.{List, [], ◌∷◌, ℕ, Float}
pub use Rattle.amplitudelaws.specs.Memory.{Memory, memory_of}
use Rattle.amplitudelaws.specs.Binary.{binary}
use Rattle.amplitudelaws.specs.Steps as leaves
use Rattle.amplitudelaws.specs.Step.{Step, width_after}
use Rattle.amplitudelaws.specs.Step.Step.{rotation, promotion, projection, correction, quarter_turn}

-- the step's own definition on the state of n qubits, and what it leaves in the scratch
unfoldable pub stepped : ℕ → Step Float → Memory → Memory
stepped n (rotation P sign c s) m = record { state = leaves.rotation P sign c s m.state; scratch = m.scratch }
stepped n (promotion c q) m = record { state = leaves.promotion n c q m.state; scratch = m.scratch }
stepped n (projection M p v invnorm) m = record {
  state = leaves.projection M p v invnorm m.state;
  scratch = leaves.scratch_after M p v invnorm m.state m.scratch;
}
stepped n (correction P) m = record { state = leaves.correction P m.state; scratch = m.scratch }
stepped n (quarter_turn P) m = record { state = leaves.rotation P 0 binary.h binary.h m.state; scratch = m.scratch }

-- one step after the other
unfoldable pub ran : ℕ → List (Step Float) → Memory → Memory
ran n [] m = m
ran n (t ∷ ts) m = ran (width_after n t) ts (stepped n t m)
