-- A run that both of two callers can hold: what the first accepts, and whose width never passes the second's greatest, the second reads alike; and from the same
-- start state both leave the same amplitudes.
use Rattle.std.specs.Prelude.{◌≡◌, Float, length}
use Rattle.std.proofs.Math.Path.{sym, subst}
use Rattle.std.proofs.Common.{ap, ◌∙◌, le_trans, le_refl, arith}
use mathlib.Core.List.{List, [], ◌∷◌}
use Prim.Native.Nat.{ℕ, ◌+◌, ◌-◌, ◌≤◌}
use borrow.Author.Tests.{le-ltb}
use Rattle.answers.specs.Answer.Answer.{accepted}
use Rattle.answers.specs.Row.{accepted_same, accepted_value}
use Rattle.amplitudelaws.specs.Binary.{binary}
use Rattle.amplitudelaws.specs.State.{point}
use Rattle.amplitudelaws.specs.Step.{Step, width_after, last_width}
use Rattle.amplitudelaws.proofs.Near.{acted_near}
use Rattle.framelaws.specs.Caller.{Caller}
use Rattle.framelaws.specs.CallerRows.{row_alike}
use Rattle.framelaws.proofs.Acted.{allowed_propers, ran_acted}
use Rattle.framelaws.specs.Memory.{Memory}
use Rattle.framelaws.specs.Passing.{width_kept}
use Rattle.framelaws.specs.Rows.{step_row}
use Rattle.framelaws.specs.Survey.{survey}
use Rattle.framelaws.specs.Surveyed.{survey_width, survey_greatest, survey_greatest_rest}
use Rattle.runlaws.specs.Field.{most_bytes}
use Rattle.runlaws.specs.Reading.{Cursor, read_field, read_at}
use Rattle.runlaws.specs.Reading.Read.{step_read, end_read}
use Rattle.runlaws.specs.Run.{Run, mapped, ended, follow, walk, run_of}
use Rattle.runlaws.specs.Calls.{CheckedRun, checked_run_of, Ending, ending_of, survey_of, memory_row, checking_with_start, running, carrying, seeking, folding, framing, finding, reporting, logging, judging}
use Rattle.runlaws.specs.Fields.{read_decodes, read_within, step_field, end_field, step_read_lem}
use Rattle.runlaws.specs.Frame.{Agreeing}
use Rattle.runlaws.specs.Mapped.{mapped_accepted}
use Rattle.runlaws.specs.Outcomes.{room_both, running_done, running_answers}
use Rattle.runlaws.specs.TwoCallers.{Shared, Agreed, LogsAgreed}
use Rattle.runlaws.specs.Walk.{walk_by, walk_step, first_step, last_field}
use Rattle.runlaws.specs.WholeRun.{run_begun, run_allowed}

-- ---- it is read alike

module _ (a b : Caller) (s : List ℕ) where
  -- a step, and the end, are read by both
  step_alike : (c d : Cursor) (t : Step Float) → c.width ≤ b.widest → d.width ≤ b.widest → read_at a s c ≡ step_read t d → read_at b s c ≡ step_read t d
  step_alike c d t within after e =
      let k = step_field a s c d t e in
      let width : d.width ≡ width_after c.width t = ap (λ (d : Cursor). d.width) k.behind in
      let row : step_row b c.width t ≡ 0
      = row_alike a b c.width t (width_kept a c.width t k.within k.row) (rw width at after) ∙ k.row in
      read_within b s c k.short within ∙ rw k.here (read_decodes b c k.field k.is row) ∙ ap (step_read t) (sym k.behind)

  end_alike : (c d : Cursor) → c.width ≤ b.widest → read_at a s c ≡ end_read d → read_at b s c ≡ end_read d
  unfolding read_field
  end_alike c d within e =
      let k = end_field a s c d e in
      read_within b s c k.short within ∙ rw (k.here, k.tag, k.bare) (ap end_read (sym k.behind))

  walk_alike : (fuel : ℕ) (ts : List (Step Float)) (c : Cursor) → length s ≤ most_bytes → length s ≤ c.at + fuel → (survey c.width ts).greatest ≤ b.widest
      → walk a fuel s c ≡ accepted ts → walk b fuel s c ≡ accepted ts
  unfolding follow ended
  walk_alike fuel [] c short enough narrow e =
      let l = last_field a fuel s c short enough e in
      let read = end_alike c l.behind (le_trans (survey_greatest c.width []) narrow) l.read in
      walk_by b fuel s c short enough ∙ rw (read, le-ltb l.behind.at (length s) l.long)
  walk_alike fuel (t ∷ ts) c short enough narrow e =
      let k = first_step a fuel s c short enough t ts e in
      let r = step_read_lem a s c k.behind t k.read in
      let rest : (survey k.behind.width ts).greatest ≤ b.widest = rw r.width (le_trans (survey_greatest_rest c.width t ts) narrow) in
      let read = step_alike c k.behind t (le_trans (survey_greatest c.width (t ∷ ts)) narrow) (le_trans (survey_greatest k.behind.width ts) rest) k.read in
      walk_step b fuel s c k.behind t ts short enough read (walk_alike (fuel - 1) ts k.behind short k.enough rest k.walked)

  pub run_alike : (R : Run) → run_of a s ≡ accepted R → (survey_of R).greatest ≤ b.widest → run_of b s ≡ accepted R
  unfolding mapped survey_of
  run_alike R e narrow =
      let r = run_allowed a s R e in
      let walked = walk_alike (length s) R.steps (record { at = 4; width = R.width }) r.short (omega arith) narrow r.walked in
      run_begun b s r.short R.width r.start (le_trans (survey_greatest R.width R.steps) narrow) ∙ rw walked

-- ---- what both leave of it

module _ (a b : Caller) (s : List ℕ) (m u : Memory) where
  module _ (R : Run) (one : run_of a s ≡ accepted R) (two : run_of b s ≡ accepted R) (here : memory_row (survey_of R) m ≡ 0) (there : memory_row (survey_of R) u ≡ 0)
      (start : Agreeing R.width m.state u.state) where
    abbrev ends : Ending
    ends = ending_of (survey_of R)

    amplitudes : Agreeing ends.width (running a s m).lent.state (running b s u).lent.state
    unfolding survey_of
    amplitudes =
        let n : ℕ = R.width in
        let ts : List (Step Float) = R.steps in
        let allowed = (run_allowed a s R one).allowed in
        let again = (run_allowed b s R two).allowed in
        let g : ℕ = (survey_of R).greatest in
        let last : ends.width ≡ last_width n ts = survey_width n ts in
        record {
          at = λ i l.
              rw ((running_answers a s m R one here).1, (running_answers b s u R two there).1)
              (ran_acted a g ts n m allowed (room_both (survey_of R) m here).0 (le_refl g) i (rw last at l)
              ∙ acted_near binary n ts (allowed_propers a n ts allowed) (point m.state) (point u.state) start.at i (rw last at l)
              ∙ sym (ran_acted b g ts n u again (room_both (survey_of R) u there).0 (le_refl g) i (rw last at l)));
        }

    agreed_run : Agreed a b s m u
    unfolding checking_with_start running carrying seeking folding framing finding reporting
    agreed_run = record {
      ending = ends;
      here = (running_answers a s m R one here).0;
      there = (running_answers b s u R two there).0;
      amplitudes = amplitudes;
      checks = rw (one, two);
      runs = λ w. rw (one, two);
      carries = λ Q out. rw (one, two);
      seeks = λ E. rw (one, two);
      folds = λ out. rw (one, two);
      reports = λ Q i. rw (one, two);
    }

    agreed_logs : LogsAgreed a b s
    unfolding logging judging
    agreed_logs = record { logs = λ Q out. rw (one, two); judges = λ Q log. rw (one, two) }

  pub shared_logs : Shared a b s m u → LogsAgreed a b s
  unfolding checking_with_start
  shared_logs h =
      let known = mapped_accepted checked_run_of (run_of a s) h.checked h.checks in
      let R : Run = known.value in
      let done = running_done a s m _ (accepted_value (running a s m).answer h.here).is in
      let its : done.run ≡ R = accepted_same (sym done.was ∙ known.was) in
      let narrow : (survey_of R).greatest ≤ b.widest = subst (λ (C : CheckedRun). C.survey.greatest ≤ b.widest) known.is h.narrow in
      let room : memory_row (survey_of R) u ≡ 0 = subst (λ (C : CheckedRun). memory_row C.survey u ≡ 0) known.is h.room in
      let start : Agreeing R.width m.state u.state = subst (λ (C : CheckedRun). Agreeing C.start m.state u.state) known.is h.start in
      agreed_logs R known.was (run_alike a b s R known.was narrow) (subst (λ (r : Run). memory_row (survey_of r) m ≡ 0) its done.passed) room start

  pub shared_agreed : Shared a b s m u → Agreed a b s m u
  unfolding checking_with_start
  shared_agreed h =
      let known = mapped_accepted checked_run_of (run_of a s) h.checked h.checks in
      let R : Run = known.value in
      let done = running_done a s m _ (accepted_value (running a s m).answer h.here).is in
      let its : done.run ≡ R = accepted_same (sym done.was ∙ known.was) in
      let narrow : (survey_of R).greatest ≤ b.widest = subst (λ (C : CheckedRun). C.survey.greatest ≤ b.widest) known.is h.narrow in
      let room : memory_row (survey_of R) u ≡ 0 = subst (λ (C : CheckedRun). memory_row C.survey u ≡ 0) known.is h.room in
      let start : Agreeing R.width m.state u.state = subst (λ (C : CheckedRun). Agreeing C.start m.state u.state) known.is h.start in
      agreed_run R known.was (run_alike a b s R known.was narrow) (subst (λ (r : Run). memory_row (survey_of r) m ≡ 0) its done.passed) room start
