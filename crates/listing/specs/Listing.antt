-- The whole listing of a run, as bytes in ASCII.
use Rattle.std.specs.Prelude.{List, [], ◌++◌, ℕ, zero, suc, ◌-◌, ◌^◌, Float, replicate, set}
use Rattle.answers.specs.Answer.{Answer}
use Rattle.answers.specs.Answer.Answer.{accepted, refused, refused_at}
use Rattle.amplitudelaws.specs.Binary.{binary}
use Rattle.amplitudelaws.specs.State.{State, point}
use Rattle.framelaws.specs.Memory.{Memory, memory_of}
use Rattle.framelaws.specs.Caller.{widest_run, service}
use Rattle.runlaws.specs.Calls.{Ending, running}
use Rattle.lines.specs.Lines.{width_line, amplitude_line, refusal_line}

-- ---- the start: amplitude (1, 0) at basis 0, every other part +0

-- room for the widest state, and in the scratch for what a projection leaves of it
abbrev pub states : List Float
states = replicate (2 ^ widest_run) binary.nought

abbrev mixtures : List Float
mixtures = replicate (2 ^ (widest_run - 1)) binary.nought

unfoldable pub fresh : Memory
fresh = memory_of (set states 0 binary.one) states mixtures mixtures

-- ---- the text

-- a line for each basis below b
unfoldable pub amplitude_lines : State → ℕ → List ℕ
amplitude_lines S zero = []
amplitude_lines S (suc b) = amplitude_lines S b ++ amplitude_line b (point S b).re (point S b).im

-- a state of n qubits: the width, and every amplitude
unfoldable pub state_text : ℕ → State → List ℕ
state_text n S = width_line n ++ amplitude_lines S (2 ^ n)

-- what running answered, and the state that it left
unfoldable pub text_of : Answer Ending → State → List ℕ
text_of (accepted E) S = state_text E.width S
text_of (refused n) S = refusal_line n
text_of (refused_at n at) S = refusal_line n

-- of a run's bytes, run from the start
unfoldable pub listed : List ℕ → List ℕ
listed s = text_of (running service s fresh).answer (running service s fresh).lent.state
