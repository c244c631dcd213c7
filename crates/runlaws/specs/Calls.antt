-- What the calls on runs answer, and what they leave in the lent buffers, refused or not.
use Rattle.std.specs.Prelude.{Bool, not, ◌&&◌, List, ◌++◌, ℕ, eqb, ltb, Float, length, drop}
use Rattle.std.proofs.Math.Option.{Option, none, some}
use Rattle.std.proofs.Math.ListN.{get_elem?}
use Rattle.answers.specs.Answer.{Answer}
use Rattle.answers.specs.Answer.Answer.{accepted, refused, refused_at}
use Rattle.answers.specs.Row.{row, first, answered}
pub use Rattle.answers.specs.Outcome.{Outcome, by_row}
use Rattle.paulilaws.specs.Pauli.{Pauli, identity}
use Rattle.amplitudelaws.specs.Rows.{room_row}
use Rattle.amplitudelaws.specs.State.{room_for, room}
use Rattle.amplitudelaws.specs.Step.{last_width}
use Rattle.framelaws.specs.Caller.{Caller}
use Rattle.framelaws.specs.Carrying.{carried_steps, end_pauli}
use Rattle.framelaws.specs.Folding.{folded_end}
use Rattle.framelaws.specs.Memory.{Memory, ran}
use Rattle.framelaws.specs.PassRow.{placed_row}
use Rattle.framelaws.specs.Reporting.{Framed, Report, framed_steps, report_of}
use Rattle.framelaws.specs.Seeking.{is_reached, start_for}
use Rattle.framelaws.specs.Survey.{Survey, survey}
use Rattle.runlaws.specs.Flags.{flagged}
use Rattle.runlaws.specs.FoldedRun.{folded_run}
use Rattle.runlaws.specs.FrameLog.{frame_log, is_same}
use Rattle.runlaws.specs.Run.{Run, mapped, chained, run_of}

-- a run that is refused leaves what was lent as it was
unfoldable pub on_run : {A B : Type 0} → Answer Run → B → (Run → Outcome A B) → Outcome A B
on_run (accepted R) old f = f R
on_run (refused n) old f = record { answer = refused n; lent = old }
on_run (refused_at n at) old f = record { answer = refused_at n at; lent = old }

-- ---- checking

unfoldable pub survey_of : Run → Survey
survey_of R = survey R.width R.steps

unfoldable pub checking : Caller → List ℕ → Answer Survey
checking caller s = mapped survey_of (run_of caller s)

-- the width that a run starts at, and its survey
pub record CheckedRun : Type 0 where
  pub start : ℕ
  pub survey : Survey

abbrev pub checked_run_of : Run → CheckedRun
checked_run_of R = record { start = R.width; survey = survey_of R }

unfoldable pub checking_with_start : Caller → List ℕ → Answer CheckedRun
checking_with_start caller s = mapped checked_run_of (run_of caller s)

-- ---- running

-- the last width, and the number of steps done
pub record Ending : Type 0 where
  pub width : ℕ
  pub steps : ℕ

abbrev pub ending_of : Survey → Ending
ending_of v = record { width = v.width; steps = v.steps }

-- 13: the state's room at the greatest width, the scratch's for the largest state that a projection with an X part leaves
unfoldable pub memory_row : Survey → Memory → ℕ
memory_row v m = room_row (room v.greatest m.state && room_for v.scratch m.scratch)

unfoldable pub running : Caller → List ℕ → Memory → Outcome Ending Memory
running caller s m = on_run (run_of caller s) m (λ R. by_row (memory_row (survey_of R) m) (ending_of (survey_of R)) (ran R.width R.steps m) m)

-- ---- carrying

-- 3: no Pauli, 4: not on the start qubits, 16: an output that is shorter than the run
unfoldable pub carrying_row : Pauli → ℕ → ℕ → ℕ → ℕ
carrying_row Q width size room = first (placed_row Q width) (row (ltb room size) 16 0)

-- the run with the carried steps' signs and branches; their fields begin behind the start field's four bytes
unfoldable pub carried_run : Pauli → Run → List ℕ → List ℕ
carried_run Q R s = flagged 4 (carried_steps Q R.steps) s

unfoldable pub carrying : Caller → List ℕ → Pauli → List ℕ → Outcome Pauli (List ℕ)
carrying caller s Q out =
    on_run (run_of caller s) out (λ R. by_row (carrying_row Q R.width (length s) (length out)) (end_pauli Q R.steps) (carried_run Q R s ++ drop (length s) out) out)

-- ---- seeking

-- what a call answers that is lent nothing to write
unfoldable pub of_run : {A : Type 0} → Answer Run → (Run → Answer A) → Answer A
of_run read f = (on_run {B = Unit} read tt (λ R. record { answer = f R; lent = tt })).answer

-- 3: no Pauli, 4: not on the last qubits; 25, last of all: no Pauli on the start qubits is carried to it
unfoldable pub seeking_row : Pauli → Run → ℕ
seeking_row E R = first (placed_row E (last_width R.width R.steps)) (row (not (is_reached R.width R.steps E)) 25 0)

-- a Pauli on the start qubits that is carried to E
unfoldable pub seeking : Caller → List ℕ → Pauli → Answer Pauli
seeking caller s E = of_run (run_of caller s) (λ R. answered (seeking_row E R) (start_for R.width R.steps E))

-- ---- folding

-- the end Pauli, and how many bytes are left
pub record Folding : Type 0 where
  pub end : Pauli
  pub size : ℕ

abbrev pub folding_of : List ℕ → Run → Folding
folding_of s R = record { end = folded_end (identity R.width) R.steps; size = length (folded_run R s) }

-- 16: an output that is shorter than what is left
unfoldable pub folding_row : ℕ → ℕ → ℕ
folding_row size room = row (ltb room size) 16 0

unfoldable pub folding : Caller → List ℕ → List ℕ → Outcome Folding (List ℕ)
folding caller s out =
    on_run (run_of caller s) out (λ R. let left = folded_run R s in by_row (folding_row (length left) (length out)) (folding_of s R) (left ++ drop (length left) out) out)

-- ---- reporting

-- every step of a run with the frame before it, and the frame behind the last
pub record Frames : Type 0 where
  pub steps : List (Framed Float)
  pub last : Pauli

abbrev pub frames_of : Pauli → Run → Frames
frames_of Q R = record { steps = framed_steps Q R.steps; last = end_pauli Q R.steps }

-- 3: no Pauli, 4: not on the start qubits
unfoldable pub framing : Caller → List ℕ → Pauli → Answer Frames
framing caller s Q = of_run (run_of caller s) (λ R. answered (placed_row Q R.width) (frames_of Q R))

-- 20, behind all others: no step of this number
unfoldable pub found : Option (Framed Float) → Answer (Framed Float)
found none = refused 20
found (some f) = accepted f

-- the step of a number, which is 0 at the first field behind start
unfoldable pub finding : Caller → List ℕ → Pauli → ℕ → Answer (Framed Float)
finding caller s Q i = chained (framing caller s Q) (λ F. found (get_elem? F.steps i))

unfoldable pub reporting : Caller → List ℕ → Pauli → ℕ → Answer Report
reporting caller s Q i = mapped report_of (finding caller s Q i)

-- ---- a frame unit's log

-- the log that carrying Q gives, and how many bytes it has; 16: an output that is shorter
unfoldable pub logging : Caller → List ℕ → Pauli → List ℕ → Outcome ℕ (List ℕ)
logging caller s Q out =
    on_run (run_of caller s) out (λ R. let log = frame_log Q R.steps in
    by_row (carrying_row Q R.width (length log) (length out)) (length log) (log ++ drop (length log) out) out)

-- 3: no Pauli, 4: not on the start qubits; 24, behind them: a log of another length than the run's
unfoldable pub judging_row : Pauli → ℕ → ℕ → ℕ → ℕ
judging_row Q width size long = first (placed_row Q width) (row (not (eqb long size)) 24 0)

-- whether a log, whoever made it, is the one that carrying Q gives
unfoldable pub judging : Caller → List ℕ → Pauli → List ℕ → Answer Bool
judging caller s Q log =
    of_run (run_of caller s) (λ R. let right = frame_log Q R.steps in answered (judging_row Q R.width (length right) (length log)) (is_same log right))
