-- What the walk that writes a log keeps, and that a turn keeps it.
use mathlib.Core.Path.{◌≡◌, refl, sym, ap, ◌∙◌}
use mathlib.Core.List.{List, [], ◌++◌}
use Prim.Native.Nat.{ℕ, ◌+◌, ◌≤◌}
use native.Mathlib.Nat.{zero-add}
use native.Mathlib.Omega.{arith}
use lib.Ieee.{Float}
use lib.ListN.{length, drop, length-append}
use lib.Seq.{sets, sets-eq, length-sets}
use Rattle.answers.specs.Stores.{sets_sets}
use Rattle.paulilaws.specs.Pauli.{Pauli}
use Rattle.amplitudelaws.specs.Step.{Step}
use Rattle.framelaws.specs.Caller.{Caller}
use Rattle.framelaws.specs.Carrying.{carried_step, passed}
use Rattle.runlaws.specs.FrameLog.{flag_of, frame_log}
use Rattle.runlaws.specs.Going.{Going, Gone, going_outset}
use Rattle.runlaws.proofs.Logged.{flag_most, log_length, log_step, log_end}
use Rattle.runlaws.specs.OnStart.{run_in, OnStart}
use Rattle.runlaws.specs.PauliBytes.{pauli_bytes, pauli_length}
use Rattle.runlaws.specs.Reading.{Cursor}
use Rattle.framelog.specs.LogIn.{log_in}

-- At a cursor, with the Pauli as it is there, the log being written up to `to`: the log of the steps that are left, stored from there on, makes it whole.
pub record Writing (caller : Caller) (s : List ℕ) (all old : List ℕ) (c : Cursor) (Q : Pauli) (to : ℕ) (out : List ℕ) : Type 0 where
  pub steps : List (Step Float)
  pub going : Going caller s c Q steps
  pub writes : sets out to (frame_log Q steps) ≡ all
  pub room : to + length (frame_log Q steps) ≤ length out
  pub long : length out ≡ length old

-- before the first step
pub outset : (caller : Caller) (s : List ℕ) (Q : Pauli) (out : List ℕ) → OnStart caller s Q → length (log_in caller s Q) ≤ length out
    → Writing caller s (log_in caller s Q ++ drop (length (log_in caller s Q)) out) out (record { at = 4; width = Q.n }) Q 0 out
outset caller s Q out b room =
    let log = log_in caller s Q in
    record {
      steps = (run_in caller s).steps;
      going = going_outset caller s (run_in caller s) Q b.read b.admitted b.width;
      writes = sets-eq log out 0 (omega (arith, room)) ∙ ap (λ (n : ℕ). log ++ drop n out) (zero-add (length log));
      room = omega (arith, room);
      long = refl;
    }

module _ {caller : Caller} {s : List ℕ} {all old : List ℕ} {c : Cursor} {Q : Pauli} {to : ℕ} {out : List ℕ} (w : Writing caller s all old c Q to out) where
  module _ {t : Step Float} {d : Cursor} (g : Gone caller s c Q w.steps t d) where
    abbrev flag : List ℕ
    flag = flag_of (carried_step Q t)

    abbrev rest : List ℕ
    rest = frame_log (passed Q t) g.after

    log_is : frame_log Q w.steps ≡ flag ++ rest
    log_is = ap (frame_log Q) g.steps_are ∙ log_step Q t g.after

    size_is : length (frame_log Q w.steps) ≡ length flag + length rest
    size_is = ap length log_is ∙ length-append flag rest

    turned : Writing caller s all old d (passed Q t) (to + length flag) (sets out to flag)
    turned = record {
      steps = g.after;
      going = g.going;
      writes = sets_sets out to (to + length flag) flag rest refl ∙ ap (sets out to) (sym log_is) ∙ w.writes;
      room = omega (arith, w.room, size_is, length-sets out to flag);
      long = length-sets out to flag ∙ w.long;
    }

    pub turn : (t' : Step Float) (Q' : Pauli) (to' : ℕ) (out' : List ℕ) → t' ≡ carried_step Q t → Q' ≡ passed Q t → out' ≡ sets out to (flag_of t') → to' ≡ to + length (flag_of t')
        → Writing caller s all old d Q' to' out'
    turn t' Q' to' out' is passes writes ends = rw (writes, ends, is, passes) turned

  -- a step's byte has room, the Pauli's being still to be written
  pub flag_fits : (t : Step Float) → to + length (flag_of t) ≤ length out
  flag_fits t = omega (arith, w.room, log_length Q w.steps, flag_most t)

  -- behind the last step: the Pauli's bytes
  module _ (none : w.steps ≡ []) where
    last_is : frame_log Q w.steps ≡ pauli_bytes Q
    last_is = ap (frame_log Q) none ∙ log_end Q

    pub pauli_fits : to + 17 ≤ length out
    pauli_fits = omega (arith, w.room, ap length last_is, pauli_length Q)

    pub last_long : (out' : List ℕ) → out' ≡ sets out to (pauli_bytes Q) → length out' ≡ length old
    last_long out' is = ap length is ∙ length-sets out to (pauli_bytes Q) ∙ w.long

    pub all_written : (out' : List ℕ) → out' ≡ sets out to (pauli_bytes Q) → out' ≡ all
    all_written out' is = is ∙ ap (sets out to) (sym last_is) ∙ w.writes
