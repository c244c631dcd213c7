-- What reading and showing a text answer, and what showing leaves in the lent buffer.
use Rattle.std.specs.Prelude.{◌≡◌, List, ◌++◌, ℕ, ltb, length, drop, Result}
use Rattle.answers.specs.Answer.{Answer, refuse}
use Rattle.answers.specs.Answer.Answer.{accepted, refused, refused_at}
use Rattle.paulilaws.specs.Pauli.{Pauli, identity, most_qubits}
use Rattle.refusals.specs.declared.Row.{Row}
use Rattle.refusals.specs.Refusal.{answer_of}
use Rattle.paulis.specs.Calls.{on_pauli}
use Rattle.paulitext.specs.Text.{reading, shown}

-- row 1 over 256 bytes, then row 2 at the first byte that is no letter
unfoldable pub read_call : List ℕ → Answer Pauli
read_call s = refuse (ltb most_qubits (length s)) 1 (reading 0 s (identity (length s)))

-- row 3, then row 16 where the buffer is shorter than the text
unfoldable pub show_call : Pauli → List ℕ → Answer ℕ
show_call P out = on_pauli P (refuse (ltb (length out) (length (shown P))) 16 (accepted (length (shown P))))

-- the text and then what lay past it; on a refusal, the buffer as it was
unfoldable pub buffer_after : Answer ℕ → List ℕ → List ℕ → List ℕ
buffer_after (accepted n) s out = s ++ drop n out
buffer_after (refused n) s out = out
buffer_after (refused_at n i) s out = out

-- r is what showing P into `out` answers, and `left` what it leaves there
pub record Shown (P : Pauli) (out : List ℕ) (r : Result ℕ Row) (left : List ℕ) : Type 0 where
  pub told : answer_of (λ n. n) r ≡ show_call P out
  pub buffer : left ≡ buffer_after (show_call P out) (shown P) out
