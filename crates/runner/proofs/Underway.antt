-- What the loop over a run's steps keeps: the steps that are left do to the memory as it is what the whole run does to the memory as it was.
use mathlib.Core.Path.{◌≡◌, sym, ap, ap₂, ◌∙◌, subst}
use mathlib.Core.List.{List, []}
use Prim.Native.Nat.{ℕ, ◌<◌, ◌-◌}
use native.Mathlib.Omega.{arith}
use lib.Ieee.{Float}
use lib.ListN.{length}
use Rattle.std.specs.Prelude.{Result, Ok}
use Rattle.refusals.specs.declared.RowAt.{RowAt}
use Rattle.answers.specs.Answer.Answer.{accepted}
use Rattle.amplitudelaws.specs.Step.{Step}
use Rattle.framelaws.specs.Caller.{Caller}
use Rattle.framelaws.specs.Survey.{survey}
use Rattle.framelaws.specs.Memory.{Memory, stepped, ran}
use Rattle.framelaws.specs.Kept.{SameSizes}
use Rattle.framelaws.proofs.Kept.{ran_sizes}
use Rattle.runlaws.specs.Reading.{Cursor, read_at}
use Rattle.runlaws.specs.Reading.Read.{step_read}
use Rattle.runlaws.specs.Calls.{survey_of, running}
use Rattle.runlaws.specs.Outcomes.{running_answers}
use Rattle.runlaws.specs.Walk.{Left, left_outset, accepted_step}
use Rattle.runlaws.specs.Fields.{step_read_lem, size_ge}
use Rattle.runlaws.specs.WholeRun.{run_allowed}
use Rattle.steps.proofs.Ended.{none_left}
use Rattle.steps.specs.declared.Cursor as declared
use Rattle.steps.specs.declared.Read.{Read}
use Rattle.steps.specs.declared.Read.TheVariants as read
use Rattle.steps.specs.Meaning.{read_of}
use Rattle.runner.specs.Ready.{StepReady, RunReady}
use Rattle.runner.proofs.Rooms.{Rooms, rooms_passed, rooms_before, rooms_behind, rooms_scratch, rooms_rest}

-- m is the memory at the cursor c, m₀ the one at the start
pub record Underway (caller : Caller) (s : List ℕ) (m₀ : Memory) (c : Cursor) (m : Memory) : Type 0 where
  pub steps : List (Step Float)
  pub left : Left caller s c (accepted steps)
  pub same : ran c.width steps m ≡ (running caller s m₀).lent
  pub rooms : Rooms (survey c.width steps) m

module _ {caller : Caller} {s : List ℕ} {m₀ : Memory} where
  module _ {width : ℕ} (r : RunReady caller s width m₀) where
    lent_ran : (running caller s m₀).lent ≡ ran r.run.width r.run.steps m₀
    lent_ran = (running_answers caller s m₀ r.run r.is r.row).1

    pub lent_sizes : SameSizes (running caller s m₀).lent m₀
    lent_sizes = rw lent_ran (ran_sizes r.run.width r.run.steps m₀)

    pub underway_outset : Underway caller s m₀ (record { at = 4; width = width }) m₀
    unfolding survey_of
    underway_outset =
        let read = run_allowed caller s r.run r.is in
        rw r.start (record {
          steps = r.run.steps;
          left = rw (← read.walked) (left_outset caller s (record { at = 4; width = r.run.width }) read.short read.begins);
          same = sym lent_ran;
          rooms = rooms_passed (survey_of r.run) m₀ r.row;
        })

  module _ {c : Cursor} {m : Memory} (u : Underway caller s m₀ c m) where
    module _ (t : Step Float) (d : Cursor) (e : read_at caller s c ≡ step_read t d) where
      pub underway_ready : StepReady c.width t m
      underway_ready =
          let read = step_read_lem caller s c d t e in
          let next = accepted_step u.left t d e in
          let rooms = subst (λ (ts : List (Step Float)). Rooms (survey c.width ts) m) next.rest_is u.rooms in
          record {
            caller = caller;
            placed = read.placed;
            row = read.row;
            before = rooms_before c.width t next.after m rooms;
            behind = rooms_behind c.width t next.after m rooms;
            scratch = rooms_scratch c.width t next.after m rooms;
          }

      pub underway_step : (m' : Memory) → m' ≡ stepped c.width t m → Underway caller s m₀ d m'
      unfolding ran
      underway_step m' done =
          let read = step_read_lem caller s c d t e in
          let next = accepted_step u.left t d e in
          let rooms = subst (λ (ts : List (Step Float)). Rooms (survey c.width ts) m) next.rest_is u.rooms in
          record {
            steps = next.after;
            left = next.left;
            same =
                ap₂ (λ (n : ℕ) (u : Memory). ran n next.after u) read.width done ∙ ap (λ (ts : List (Step Float)). ran c.width ts m) (sym next.rest_is) ∙ u.same;
            rooms = rooms_rest c.width t next.after m rooms read.width done;
          }

      pub underway_less : length s - d.at < length s - c.at
      underway_less =
          let read = step_read_lem caller s c d t e in
          omega (arith, read.next, read.inside, size_ge t)

    all_taken : u.steps ≡ [] → m ≡ (running caller s m₀).lent
    unfolding ran
    all_taken e = ap (λ (ts : List (Step Float)). ran c.width ts m) (sym e) ∙ u.same

    -- what is no step is the end: a run that was accepted has no refusal
    pub underway_end : (r : Result Read RowAt) → read_of r ≡ read_at caller s c → ((t : _) (d : declared.Cursor) → r ≡ Ok (read.Step t d) → ⊥)
        → m ≡ (running caller s m₀).lent
    underway_end r e k = all_taken (none_left u.left r e k)
