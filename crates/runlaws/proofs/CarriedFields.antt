-- A step's field in a run, and in what carrying leaves of the run: it stands at the same place, and its sign or branch there is the carried step's.
use Rattle.std.specs.Prelude.{◌≡◌, refl, List, [], ◌∷◌, ◌++◌, ℕ, ◌+◌, ◌≤◌, ◌<◌, Float, length, drop}
use Rattle.std.proofs.Common.{sym, ap, ap₂, ◌∙◌, arith, lit<}
use Rattle.std.proofs.Math.ListN.{get_or-append}
use borrow.Author.Tests.{le-ltb}
use Rattle.answers.specs.Answer.Answer.{accepted}
use Rattle.answers.specs.Row.{row, first}
use Rattle.paulilaws.specs.Pauli.{Pauli}
use Rattle.amplitudelaws.specs.Step.{Step}
use Rattle.amplitudelaws.specs.Step.Step.{rotation, promotion, projection, correction, quarter_turn}
use Rattle.framelaws.specs.Caller.{Caller}
use Rattle.framelaws.specs.Carrying.{carried_step, passed, carried_steps, end_pauli}
use Rattle.framelaws.specs.PassRow.{placed_row}
use Rattle.framelaws.specs.Reported.{carried_at}
use Rattle.runlaws.specs.Bytes.{byte_at}
use Rattle.runlaws.specs.Calls.{carrying_row, carried_run, carrying}
use Rattle.runlaws.specs.CutRun.{FieldOf}
use Rattle.runlaws.proofs.CutRun.{field_of}
use Rattle.runlaws.proofs.Flagged.{carried_size}
use Rattle.runlaws.specs.Flags.{field_size, fields_size, FlagOf}
use Rattle.runlaws.specs.FrameLog.{flag_of}
use Rattle.runlaws.specs.Outcomes.{carrying_answers}
use Rattle.runlaws.proofs.Reread.{carried_length, reread}
use Rattle.runlaws.specs.Run.{Run, run_of}
use Rattle.runlaws.specs.StepOf.{StepOf}

carried_sizes : (Q : Pauli) (ts : List (Step Float)) → fields_size (carried_steps Q ts) ≡ fields_size ts
unfolding fields_size carried_steps
carried_sizes Q [] = refl
carried_sizes Q (t ∷ ts) = ap₂ ◌+◌ (carried_size Q t) (carried_sizes (passed Q t) ts)

-- the step of a number
abbrev pub step_of : (caller : Caller) (s : List ℕ) (R : Run) (before : List (Step Float)) (t : Step Float) (after : List (Step Float)) → run_of caller s ≡ accepted R
    → R.steps ≡ before ++ t ∷ after → (i : ℕ) → length before ≡ i → StepOf caller s i t
step_of caller s R before t after read steps i number =
    let own = field_of caller s R before after t read steps in
    record {
      run = R;
      is = read;
      at = record { before = before; after = after; steps = steps; number = number };
      place = 4 + fields_size before;
      begins = refl;
      width = own.width;
      behind = own.behind;
      read = own.read;
    }

module _ (caller : Caller) (s : List ℕ) (Q : Pauli) (R : Run) (read : run_of caller s ≡ accepted R) where
  -- in any output that has room
  module _ (placed : placed_row Q R.width ≡ 0) (out : List ℕ) (room : length s ≤ length out) where
    pub carrying_passes : carrying_row Q R.width (length s) (length out) ≡ 0
    unfolding carrying_row first row
    carrying_passes = rw (placed, le-ltb (length out) (length s) room)

    pub left_byte : (i : ℕ) → i < length s → byte_at (carrying caller s Q out).lent i ≡ byte_at (carried_run Q R s) i
    left_byte i h =
        ap (λ (l : List ℕ). byte_at l i) (carrying_answers caller s Q out R read carrying_passes).1
        ∙ get_or-append (carried_run Q R s) (drop (length s) out) 0 i (omega (arith, h, carried_length Q R s))

  module _ (before : List (Step Float)) (t : Step Float) (after : List (Step Float)) (steps : R.steps ≡ before ++ t ∷ after) where
    abbrev frame : Pauli
    frame = end_pauli Q before

    pub carried_field : FieldOf caller (carried_run Q R s) R.width (carried_steps Q before) (carried_step frame t)
    carried_field =
        field_of caller (carried_run Q R s) (record { width = R.width; steps = carried_steps Q R.steps }) (carried_steps Q before) (carried_steps (passed frame t) after)
        (carried_step frame t) (reread caller s Q R read) (ap (carried_steps Q) steps ∙ carried_at Q before t after)

    pub carried_byte : (i : ℕ) → i < field_size t → byte_at (carried_run Q R s) (4 + fields_size before + i) ≡ byte_at carried_field.field i
    carried_byte i h =
        ap (λ (n : ℕ). byte_at (carried_run Q R s) (4 + n + i)) (sym (carried_sizes Q before))
        ∙ carried_field.own i (omega (arith, h, carried_size frame t))

    -- a byte of the field in the output
    module _ (placed : placed_row Q R.width ≡ 0) (out : List ℕ) (room : length s ≤ length out) where
      left_field : (i : ℕ) → i < field_size t → byte_at (carrying caller s Q out).lent (4 + fields_size before + i) ≡ byte_at carried_field.field i
      left_field i h =
          left_byte placed out room _ (omega (arith, h, (field_of caller s R before after t read steps).inside)) ∙ carried_byte i h

  -- and so the sign or branch that is left
  pub left_flag : (placed : placed_row Q R.width ≡ 0) (before : List (Step Float)) (t : Step Float) (after : List (Step Float)) → R.steps ≡ before ++ t ∷ after
      → (place : ℕ) → FlagOf (4 + fields_size before) t place → (out : List ℕ) → length s ≤ length out
      → flag_of (carried_step (end_pauli Q before) t) ≡ byte_at (carrying caller s Q out).lent place ∷ []
  unfolding flag_of carried_step field_size
  left_flag placed before (rotation P sign c q) after e place is out room =
      let byte = left_field before (rotation P sign c q) after e placed out room 20 (lit< tt) ∙ (carried_field before (rotation P sign c q) after e).flag in
      rw is (ap (λ (n : ℕ). n ∷ []) (sym byte))
  left_flag placed before (promotion c q) after e place is out room = absurd is
  left_flag placed before (projection M p v invnorm) after e place is out room =
      let byte = left_field before (projection M p v invnorm) after e placed out room 21 (lit< tt) ∙ (carried_field before (projection M p v invnorm) after e).flag in
      rw is (ap (λ (n : ℕ). n ∷ []) (sym byte))
  left_flag placed before (correction P) after e place is out room = absurd is
  left_flag placed before (quarter_turn P) after e place is out room = absurd is
