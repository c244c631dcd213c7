-- What the loop over a run's fields keeps: the survey so far, gone on with over the rest of the steps, is the whole run's.
use mathlib.Core.Path.{◌≡◌, refl, sym, ap, ◌∙◌}
use mathlib.Core.List.{List, [], ◌∷◌}
use mathlib.Core.Bool.{Bool, true, false, cond, not}
use Prim.Native.Nat.{ℕ, ◌≤◌, ◌<◌}
use native.Mathlib.Omega.{arith}
use lib.Dec.{ltb}
use lib.Ieee.{Float}
use lib.Ieee.Scale.{finite}
use lib.ListN.{length}
use Rattle.answers.specs.Answer.{Answer}
use Rattle.answers.specs.Answer.Answer.{accepted, refused_at}
use Rattle.answers.specs.Row.{row, first_passed}
use Rattle.amplitudelaws.specs.Rows.{measurement_row}
use Rattle.amplitudelaws.proofs.Passed.{measurement_passed}
use Rattle.framelaws.specs.Caller.{Caller}
use Rattle.framelaws.specs.Allowed.{Placed}
use Rattle.framelaws.specs.Rows.{step_row, projection_step_row}
use Rattle.amplitudelaws.specs.Step.{Step, width_after}
use Rattle.amplitudelaws.specs.Step.Step.{rotation, promotion, projection, correction, quarter_turn}
use Rattle.framelaws.specs.Survey.{Survey, outset, surveyed, survey_from, survey}
use Rattle.runlaws.specs.Field.{most_bytes}
use Rattle.runlaws.specs.Reading.{Cursor, read_at}
use Rattle.runlaws.specs.Reading.Read.{step_read, end_read, refused_read}
use Rattle.runlaws.specs.Run.{mapped, ended, walk}
use Rattle.runlaws.specs.Walk.{Left, left_outset, left_step, left_end, left_refused}
use Rattle.runlaws.specs.Fields.{step_read_lem, size_ge}
use Rattle.runlaws.specs.Mapped.{mapped_mapped}
use borrow.Author.Tests.{lt-ltb, le-ltb}
use Rattle.checker.specs.Surveyed.{Measured, Surveyable}

-- v is the survey of the steps before the cursor, `all` that of the run; a step takes more bytes than one
pub record Surveying (caller : Caller) (s : List ℕ) (all : Answer Survey) (c : Cursor) (v : Survey) : Type 0 where
  pub rest : Answer (List (Step Float))
  pub left : Left caller s c rest
  pub same : mapped (survey_from v) rest ≡ all
  pub few : v.steps ≤ c.at
  pub width : v.width ≡ c.width

-- no row refuses the step: a projection has a pivot
measured : (caller : Caller) (n : ℕ) (t : Step Float) → Placed n t → step_row caller n t ≡ 0 → Measured n t
unfolding step_row projection_step_row
measured caller n (rotation P sign c s) at e = tt
measured caller n (promotion c q) at e = tt
measured caller n (projection M p v invnorm) at e =
    let passed = measurement_passed M p (not (finite invnorm)) (first_passed (measurement_row M p (not (finite invnorm))) (row (ltb 1 v) 14 0) e).0 in
    (omega (arith, at, passed.2.inside), omega (arith, at, passed.0))
measured caller n (correction P) at e = tt
measured caller n (quarter_turn P) at e = tt

-- at the end field, bytes past it or none
end_answer : (v : Survey) (past : Bool) (at : ℕ)
    → cond past (refused_at 14 at) (accepted v) ≡ mapped (survey_from {R = Float} v) (cond past (refused_at 14 at) (accepted []))
unfolding mapped survey_from
end_answer v true at = refl
end_answer v false at = refl

pub at_start : (caller : Caller) (s : List ℕ) (n : ℕ) → 4 ≤ length s → length s ≤ most_bytes
    → Surveying caller s (mapped (survey n) (walk caller (length s) s (record { at = 4; width = n }))) (record { at = 4; width = n }) (outset n)
unfolding survey
at_start caller s n h short = record {
  rest = walk caller (length s) s (record { at = 4; width = n });
  left = left_outset caller s (record { at = 4; width = n }) short h;
  same = refl;
  few = omega arith;
  width = refl;
}

module _ {caller : Caller} {s : List ℕ} {all : Answer Survey} {c : Cursor} {v : Survey} (k : Surveying caller s all c v) where
  module _ (t : Step Float) (d : Cursor) (e : step_read t d ≡ read_at caller s c) where
    -- the cursor moves on
    pub moves : (c.at < d.at) × (d.at ≤ length s)
    moves = let r = step_read_lem caller s c d t (sym e) in (omega (arith, r.next, size_ge t), r.inside)

    pub surveyable : Surveyable v t d.width
    surveyable =
        let r = step_read_lem caller s c d t (sym e) in
        let m = moves in
        record {
          few = omega (arith, k.few, k.left.short);
          behind = r.width ∙ ap (λ (n : ℕ). width_after n t) (sym k.width);
          measured = rw k.width (measured caller c.width t r.placed r.row);
        }

    pub one_more : Surveying caller s all d (surveyed v t)
    unfolding surveyed survey_from
    one_more =
        let r = step_read_lem caller s c d t (sym e) in
        let m = moves in
        let l = left_step k.left t d (sym e) in
        record {
          rest = l.after;
          left = l.left;
          same = sym (mapped_mapped (survey_from v) (λ (ts : List (Step Float)). t ∷ ts) l.after) ∙ ap (mapped (survey_from v)) (sym l.rest_is) ∙ k.same;
          few = omega (arith, k.few);
          width = ap (λ (n : ℕ). width_after n t) k.width ∙ sym r.width;
        }

  answered : (rest : Answer (List (Step Float))) → k.rest ≡ rest → mapped (survey_from v) rest ≡ all
  answered rest e = sym (ap (mapped (survey_from v)) e) ∙ k.same

  -- a refusal ends the survey
  pub refused : (n at : ℕ) → refused_read n at ≡ read_at caller s c → refused_at n at ≡ all
  unfolding mapped
  refused n at e = answered _ (left_refused k.left n at (sym e))

  -- and so does the end field, with bytes past it or none
  at_end : (d : Cursor) → end_read d ≡ read_at caller s c → cond (ltb d.at (length s)) (refused_at 14 d.at) (accepted v) ≡ all
  unfolding ended
  at_end d e = end_answer v (ltb d.at (length s)) d.at ∙ answered _ (left_end k.left d (sym e))

  pub past_end : (d : Cursor) → end_read d ≡ read_at caller s c → d.at < length s → refused_at 14 d.at ≡ all
  past_end d e h = rw (lt-ltb d.at (length s) h) at (at_end d e)

  pub ended_here : (d : Cursor) → end_read d ≡ read_at caller s c → length s ≤ d.at → accepted v ≡ all
  ended_here d e h = rw (le-ltb d.at (length s) h) at (at_end d e)
