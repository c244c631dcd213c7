-- What the loop over a run's steps keeps while their lines are put, or only measured, and that a turn keeps it.
use mathlib.Core.Path.{◌≡◌, refl, sym, ap, ◌∙◌}
use mathlib.Core.List.{List, [], ◌++◌, append_assoc}
use Prim.Native.Nat.{ℕ, suc, ◌+◌, ◌*◌, ◌≤◌}
use native.Mathlib.Numerals.{add-one}
use native.Mathlib.Omega.{arith}
use lib.Ieee.{Float}
use lib.ListN.{length, length-append}
use lib.Seq.{sets}
use Rattle.paulilaws.specs.Pauli.{Pauli}
use Rattle.amplitudelaws.specs.Step.{Step}
use Rattle.framelaws.specs.Caller.{service, widest_run}
use Rattle.framelaws.specs.Carrying.{passed, end_pauli}
use Rattle.framelaws.specs.Reporting.{framed_steps}
use Rattle.lines.specs.Pieces.{sets_next}
use Rattle.runlaws.specs.Calls.{frames_of}
use Rattle.runlaws.specs.Field.{most_bytes}
use Rattle.runlaws.specs.Fields.{size_ge}
use Rattle.runlaws.specs.Going.{Going, Gone, going_outset}
use Rattle.runlaws.specs.OnStart.{run_in, OnStart}
use Rattle.runlaws.specs.Reading.{Cursor}
use Rattle.runlaws.specs.WholeRun.{run_allowed}
use Rattle.reports.specs.Listing.{step_lines, frames_text}
use Rattle.reports.specs.Narrow.{NarrowPauli}
use Rattle.reports.specs.NarrowRun.{NarrowFramed, passed_narrow}
use Rattle.reports.specs.Put.{PutFitting}
use Rattle.reports.specs.Text.{step_line, end_line}

-- the lines of the steps from number i on, with Q before them, and of the end
unfoldable pub lines_from : ℕ → Pauli → List (Step Float) → List ℕ
lines_from i Q steps = step_lines i (framed_steps Q steps) ++ end_line (end_pauli Q steps)

-- At a cursor, with the Pauli as it is there: the lines that are left bring the place and the buffer to what they are in the end. A line has at most 128 bytes, a field at least one.
pub record Underway (s : List ℕ) (all old : List ℕ) (c : Cursor) (Q : Pauli) (i at : ℕ) (out : List ℕ) : Type 0 where
  pub steps : List (Step Float)
  pub going : Going service s c Q steps
  pub ends : at + length (lines_from i Q steps) ≡ length all
  pub holds : length all ≤ length old → sets out at (lines_from i Q steps) ≡ sets old 0 all
  pub kept : length out ≡ length old
  pub narrow : Q.n ≤ widest_run
  pub number : i ≤ c.at
  pub small : at ≤ 128 * c.at

-- ---- before the first step

pub outset : (s : List ℕ) (Q : Pauli) (out : List ℕ) → OnStart service s Q → Underway s (frames_text (frames_of Q (run_in service s))) out (record { at = 4; width = Q.n }) Q 0 0 out
unfolding lines_from frames_text
outset s Q out b = record {
  steps = (run_in service s).steps;
  going = going_outset service s (run_in service s) Q b.read b.admitted b.width;
  ends = omega arith;
  holds = λ h. refl;
  kept = refl;
  narrow = omega (arith, b.width, (run_allowed service s (run_in service s) b.read).width);
  number = omega arith;
  small = omega arith;
}

module _ {s all old : List ℕ} {c : Cursor} {Q : Pauli} {i at : ℕ} {out : List ℕ} (w : Underway s all old c Q i at out) where
  -- the cursor is in the run, which is short
  pub at_most : c.at ≤ most_bytes
  at_most = omega (arith, w.going.left.inside, w.going.left.short)

  module _ {t : Step Float} {d : Cursor} (g : Gone service s c Q w.steps t d) where
    pub here_narrow : NarrowFramed (record { frame = Q; step = t })
    here_narrow = passed_narrow Q w.narrow t g.row

    abbrev line : List ℕ
    line = step_line i (record { frame = Q; step = t })

    abbrev rest : List ℕ
    rest = lines_from (suc i) (passed Q t) g.after

    lines_are : lines_from i Q w.steps ≡ line ++ rest
    unfolding lines_from step_lines framed_steps end_pauli
    lines_are = rw g.steps_are (append_assoc line _ _)

    size : length (lines_from i Q w.steps) ≡ length line + length rest
    size = ap length lines_are ∙ length-append line rest

    line_fits : length all ≤ length old → at + length line ≤ length out
    line_fits h = omega (arith, h, w.ends, size, w.kept)

    pub turn : {Q' : Pauli} {end : ℕ} {left : List ℕ} → Q' ≡ passed Q t → length line ≤ 128 → PutFitting line at out end left → Underway s all old d Q' (i + 1) end left
    turn {Q'} {end} {left} passes short p = rw (passes, add-one i) (record {
      steps = g.after;
      going = g.going;
      ends = omega (arith, p.ends, size, w.ends);
      holds = λ h.
          sets_next out at end line rest left (sets left end rest) (p.holds (line_fits h)) p.ends refl
          ∙ ap (sets out at) (sym lines_are) ∙ w.holds h;
      kept = p.kept ∙ w.kept;
      narrow = omega (arith, g.going.width, g.read.within);
      number = omega (arith, w.number, g.read.next, size_ge t);
      small = omega (arith, w.small, p.ends, short, g.read.next, size_ge t);
    })

  -- behind the last step
  module _ (none : w.steps ≡ []) where
    pub end_narrow : NarrowPauli Q
    end_narrow = record { admitted = w.going.admitted; narrow = w.narrow }

    end_is : lines_from i Q w.steps ≡ end_line Q
    unfolding lines_from step_lines framed_steps end_pauli
    end_is = rw none

    end_fits : length all ≤ length old → at + length (end_line Q) ≤ length out
    end_fits h = omega (arith, h, w.ends, ap length end_is, w.kept)

    pub over : {end : ℕ} {left : List ℕ} → PutFitting (end_line Q) at out end left → PutFitting all 0 old end left
    over p = record {
      ends = omega (arith, p.ends, w.ends, ap length end_is);
      holds = λ h. p.holds (end_fits (omega (arith, h))) ∙ ap (sets out at) (sym end_is) ∙ w.holds (omega (arith, h));
      kept = p.kept ∙ w.kept;
    }
