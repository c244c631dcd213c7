-- What writing a line, or a text of several, to the start of a lent buffer answers and leaves there.
use Rattle.std.specs.Prelude.{◌≡◌, List, ℕ, ltb, length, Result}
use Rattle.answers.specs.Answer.{Answer, refuse}
use Rattle.answers.specs.Answer.Answer.{accepted}
use Rattle.paulitext.specs.Calls.{buffer_after}
use Rattle.refusals.specs.declared.Row.{Row}
use Rattle.refusals.specs.Refusal.{answer_of}

-- row 16 where the buffer is shorter than the line
unfoldable pub line_call : List ℕ → List ℕ → Answer ℕ
line_call line out = refuse (ltb (length out) (length line)) 16 (accepted (length line))

-- the line and then what lay past it; on a refusal, the buffer as it was
abbrev pub line_left : List ℕ → List ℕ → List ℕ
line_left line out = buffer_after (line_call line out) line out

-- r is what writing `line` into `out` answers, and `left` what it leaves there
pub record Lined (line out : List ℕ) (r : Result ℕ Row) (left : List ℕ) : Type 0 where
  pub told : answer_of (λ n. n) r ≡ line_call line out
  pub buffer : left ≡ line_left line out
