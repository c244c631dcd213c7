-- THE TWO CALLERS, as they are said to agree: change request E8, its sentences on the reader and on the state, over the definitions that the calls for reading, checking, running, carrying, seeking, folding and reporting promise to
-- the service and to the emulator, and `run_of`, on which they stand. Agreement.antt proves it, for any wide and any narrow caller.
use Rattle.std.specs.Prelude.{◌≡◌, true, List, ◌⊎◌, ℕ, ◌≤◌, ◌<◌}
use Rattle.std.proofs.Math.Option.{some}
use Rattle.answers.specs.Answer.{is_accepted}
use Rattle.answers.specs.Answer.Answer.{accepted, refused_at}
use Rattle.paulilaws.specs.Pauli.{Pauli}
use Rattle.framelaws.specs.Caller.{Caller}
use Rattle.framelaws.specs.Memory.{Memory}
use Rattle.runlaws.specs.Bytes.{byte_at}
use Rattle.runlaws.specs.Field.{field_at}
use Rattle.runlaws.specs.Reading.{Cursor, read_at}
use Rattle.runlaws.specs.Reading.Read.{refused_read}
use Rattle.runlaws.specs.Run.{start_width, run_of}
use Rattle.runlaws.specs.Calls.{CheckedRun, Ending, checking_with_start, memory_row, running, carrying, seeking, folding, reporting, logging, judging}
use Rattle.runlaws.specs.FileOrder.{NotBefore}
use Rattle.runlaws.specs.Frame.{Agreeing}

-- ---- a run that both can hold

-- All that is asked: caller a accepts the run, on m; its width never passes b's greatest; b's buffers u have room for it; the two begin with the same start
-- state. What lies past it, the lengths of the buffers and the scratch are any.
pub record Shared (a b : Caller) (s : List ℕ) (m u : Memory) : Type 0 where
  pub here : is_accepted (running a s m).answer ≡ true
  -- what checking answers of the run
  pub checked : CheckedRun
  pub checks : checking_with_start a s ≡ accepted checked
  pub narrow : checked.survey.greatest ≤ b.widest
  pub room : memory_row checked.survey u ≡ 0
  pub start : Agreeing checked.start m.state u.state

-- What comes of it: b accepts the run too and answers the same, and every amplitude is equal in every bit. On one memory running leaves the same in all four buffers,
-- refused by 13 or not; carrying and folding the same, whatever Pauli is carried and whatever output is lent; seeking answers the same, whatever end is named,
-- and reporting, whatever Pauli is carried and whatever step is asked for.
pub record Agreed (a b : Caller) (s : List ℕ) (m u : Memory) : Type 0 where
  pub ending : Ending
  pub here : (running a s m).answer ≡ accepted ending
  pub there : (running b s u).answer ≡ accepted ending
  pub amplitudes : Agreeing ending.width (running a s m).lent.state (running b s u).lent.state
  pub checks : checking_with_start b s ≡ checking_with_start a s
  pub runs : (w : Memory) → running b s w ≡ running a s w
  pub carries : (Q : Pauli) (out : List ℕ) → carrying b s Q out ≡ carrying a s Q out
  pub seeks : (E : Pauli) → seeking b s E ≡ seeking a s E
  pub folds : (out : List ℕ) → folding b s out ≡ folding a s out
  pub reports : (Q : Pauli) (i : ℕ) → reporting b s Q i ≡ reporting a s Q i

-- And of the log that a chip's frame unit writes: both write the same, whatever Pauli is carried and whatever output is lent, and judge alike whatever log is handed over.
pub record LogsAgreed (a b : Caller) (s : List ℕ) : Type 0 where
  pub logs : (Q : Pauli) (out : List ℕ) → logging b s Q out ≡ logging a s Q out
  pub judges : (Q : Pauli) (log : List ℕ) → judging b s Q log ≡ judging a s Q log

-- ---- a run that one refuses

-- The field at a cursor is a promotion at the caller's greatest width, and the caller's own row refuses it there.
pub record OwnRead (caller : Caller) (s : List ℕ) (c : Cursor) : Type 0 where
  pub tag : byte_at s c.at ≡ 3
  pub width : c.width ≡ caller.widest
  pub is : read_at caller s c ≡ refused_read caller.promotion_row c.at

-- The narrow caller refuses the run by a row of its own: the start field gives more than its greatest width, and the place is 0; or the place is the tag of a promotion at
-- that width, before which the wide caller refuses nothing.
pub data Own (wide narrow : Caller) (s : List ℕ) : Type 0 where
  start_over : (n : ℕ) → start_width (field_at s 0) ≡ some n → narrow.widest < n → run_of narrow s ≡ refused_at narrow.start_row 0 → Own wide narrow s
  promotion_at : (at : ℕ) → OwnRead narrow s (record { at = at; width = narrow.widest }) → run_of narrow s ≡ refused_at narrow.promotion_row at
      → NotBefore at (run_of wide s) → Own wide narrow s

-- ---- the theorem

pub record TwoCallers (wide narrow : Caller) : Type 0 where
  -- A run of the wide caller's whose width never passes the narrow one's greatest is the narrow one's too; and a run of the narrow caller's is the wide one's.
  pub forth : (s : List ℕ) (m u : Memory) → Shared wide narrow s m u → Agreed wide narrow s m u
  pub back : (s : List ℕ) (m u : Memory) → Shared narrow wide s m u → Agreed narrow wide s m u
  -- What the narrow caller accepts the wide one accepts, and its width never passes the narrow one's greatest.
  pub narrows : (s : List ℕ) (C : CheckedRun) → checking_with_start narrow s ≡ accepted C → (checking_with_start wide s ≡ accepted C) × (C.survey.greatest ≤ narrow.widest)
  -- What the wide caller accepts, and whose width passes the narrow one's greatest, the narrow one refuses by a row of its own.
  pub passes : (s : List ℕ) (C : CheckedRun) → checking_with_start wide s ≡ accepted C → narrow.widest < C.survey.greatest → Own wide narrow s
  -- Whatever the bytes are: both read the same run in them, or refuse it by the same number at the same place; or the narrow one refuses it by a row of its own.
  pub otherwise : (s : List ℕ) → (run_of narrow s ≡ run_of wide s) ⊎ Own wide narrow s
  -- And so of each field, at a cursor that both may have.
  pub reads : (s : List ℕ) (c : Cursor) → c.width ≤ narrow.widest → (read_at narrow s c ≡ read_at wide s c) ⊎ OwnRead narrow s c
