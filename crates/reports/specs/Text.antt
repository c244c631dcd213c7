-- What is told of a run's steps for a person to read, as bytes in ASCII.
use Rattle.std.specs.Prelude.{true, false, cond, List, [], ◌∷◌, ◌++◌, ℕ, zero, suc, eqb, Float}
use Rattle.bitlaws.specs.Digit.{digit}
use Rattle.paulilaws.specs.Pauli.{Pauli}
use Rattle.paulitext.specs.Text.{shown}
use Rattle.amplitudelaws.specs.Step.{Step}
use Rattle.amplitudelaws.specs.Step.Step.{rotation, promotion, projection, correction, quarter_turn}
use Rattle.framelaws.specs.Reporting.{Report, Framed, report_of}
use Rattle.framelaws.specs.Reporting.Report.{no_flag, flagged}
use Rattle.lines.specs.Lines.{decimal}

-- ---- the qubits of a mask

-- a space and the qubit, where the mask has it
unfoldable pub qubit_text : ℕ → ℕ → List ℕ
qubit_text q mask = cond (eqb (digit q mask) 1) (32 ∷ decimal q) []

-- `count` qubits from q on
unfoldable pub qubits_from : ℕ → ℕ → ℕ → List ℕ
qubits_from q zero mask = []
qubits_from q (suc count) mask = qubit_text q mask ++ qubits_from (suc q) count mask

-- of a mask on n qubits: nothing where it is 0, else ` qubits` and each of them
unfoldable pub qubits_text : ℕ → ℕ → List ℕ
qubits_text n mask = cond (eqb mask 0) [] (32 ∷ 113 ∷ 117 ∷ 98 ∷ 105 ∷ 116 ∷ 115 ∷ qubits_from 0 n mask)

-- ---- a step

-- ` no flag`, ` changed` or ` kept`
unfoldable pub flag_text : ℕ → Report → List ℕ
flag_text n no_flag = 32 ∷ 110 ∷ 111 ∷ 32 ∷ 102 ∷ 108 ∷ 97 ∷ 103 ∷ []
flag_text n (flagged true mask) = 32 ∷ 99 ∷ 104 ∷ 97 ∷ 110 ∷ 103 ∷ 101 ∷ 100 ∷ qubits_text n mask
flag_text n (flagged false mask) = 32 ∷ 107 ∷ 101 ∷ 112 ∷ 116 ∷ qubits_text n mask

-- `rotation `, `promotion`, `projection `, `correction ` or `quarter-turn `, and the step's Pauli
unfoldable pub kind_text : Step Float → List ℕ
kind_text (rotation P sign c s) = 114 ∷ 111 ∷ 116 ∷ 97 ∷ 116 ∷ 105 ∷ 111 ∷ 110 ∷ 32 ∷ shown P
kind_text (promotion c q) = 112 ∷ 114 ∷ 111 ∷ 109 ∷ 111 ∷ 116 ∷ 105 ∷ 111 ∷ 110 ∷ []
kind_text (projection M p v invnorm) = 112 ∷ 114 ∷ 111 ∷ 106 ∷ 101 ∷ 99 ∷ 116 ∷ 105 ∷ 111 ∷ 110 ∷ 32 ∷ shown M
kind_text (correction P) = 99 ∷ 111 ∷ 114 ∷ 114 ∷ 101 ∷ 99 ∷ 116 ∷ 105 ∷ 111 ∷ 110 ∷ 32 ∷ shown P
kind_text (quarter_turn P) = 113 ∷ 117 ∷ 97 ∷ 114 ∷ 116 ∷ 101 ∷ 114 ∷ 45 ∷ 116 ∷ 117 ∷ 114 ∷ 110 ∷ 32 ∷ shown P

-- `step `, its number and its kind
unfoldable pub step_text : ℕ → Step Float → List ℕ
step_text i t = 115 ∷ 116 ∷ 101 ∷ 112 ∷ 32 ∷ (decimal i ++ 32 ∷ kind_text t)

-- ` frame ` and the frame
unfoldable pub frame_text : Pauli → List ℕ
frame_text Q = 32 ∷ 102 ∷ 114 ∷ 97 ∷ 109 ∷ 101 ∷ 32 ∷ shown Q

-- ---- the lines

-- a step, the frame before it and its flag
unfoldable pub step_line : ℕ → Framed Float → List ℕ
step_line i f = step_text i f.step ++ (frame_text f.frame ++ (flag_text f.frame.n (report_of f) ++ 10 ∷ []))

-- `end` and the frame behind the last step
unfoldable pub end_line : Pauli → List ℕ
end_line E = 101 ∷ 110 ∷ 100 ∷ (frame_text E ++ 10 ∷ [])

-- `refused `, the number, ` at ` and the place
unfoldable pub refusal_at_line : ℕ → ℕ → List ℕ
refusal_at_line number place = 114 ∷ 101 ∷ 102 ∷ 117 ∷ 115 ∷ 101 ∷ 100 ∷ 32 ∷ (decimal number ++ (32 ∷ 97 ∷ 116 ∷ 32 ∷ (decimal place ++ 10 ∷ [])))
