-- What is listed for a person of a run that carries a Pauli: of one step, or of all; and of the whole input that asks for it.
use Rattle.std.specs.Prelude.{cond, List, [], ◌∷◌, ◌++◌, ℕ, suc, Float}
use Rattle.answers.specs.Answer.{Answer}
use Rattle.answers.specs.Answer.Answer.{accepted, refused, refused_at}
use Rattle.paulilaws.specs.Pauli.{Pauli}
use Rattle.framelaws.specs.Caller.{service}
use Rattle.framelaws.specs.Reporting.{Framed}
use Rattle.runlaws.specs.Calls.{Frames, framing, finding}
use Rattle.lines.specs.Lines.{refusal_line}
use Rattle.paulitext.specs.Calls.{read_call}
use Rattle.reports.specs.Input.{before, after, has, number}
use Rattle.reports.specs.Text.{step_line, end_line, refusal_at_line}

-- a line for each step, the first of which has the number i
unfoldable pub step_lines : ℕ → List (Framed Float) → List ℕ
step_lines i [] = []
step_lines i (f ∷ fs) = step_line i f ++ step_lines (suc i) fs

-- every step, and the frame behind the last
unfoldable pub frames_text : Frames → List ℕ
frames_text F = step_lines 0 F.steps ++ end_line F.last

-- what is answered, or the refusal
unfoldable pub answer_text : {A : Type 0} → (A → List ℕ) → Answer A → List ℕ
answer_text text (accepted a) = text a
answer_text text (refused n) = refusal_line n
answer_text text (refused_at n at) = refusal_at_line n at

unfoldable pub step_listed : List ℕ → Pauli → ℕ → List ℕ
step_listed s Q i = answer_text (step_line i) (finding service s Q i)

unfoldable pub steps_listed : List ℕ → Pauli → List ℕ
steps_listed s Q = answer_text frames_text (framing service s Q)

-- ---- the program's input: a line with a Pauli's text and, behind a space, a step's number; then the run. 10 is a newline, 32 a space.

-- by the line: the step of the number, or all where there is no space
unfoldable pub asked : List ℕ → List ℕ → Pauli → List ℕ
asked line s Q = cond (has 32 line) (step_listed s Q (number (after 32 line))) (steps_listed s Q)

unfoldable pub report_listed : List ℕ → List ℕ
report_listed input = let line = before 10 input in answer_text (asked line (after 10 input)) (read_call (before 32 line))
