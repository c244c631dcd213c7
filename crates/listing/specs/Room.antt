-- The start has room for every run, so that none is refused by 13: a listing is that of the state which the steps leave, or the
-- run's own refusal.
use Rattle.std.specs.Prelude.{◌≡◌, List, ℕ, ◌-◌, ◌^◌}
use Rattle.std.proofs.Math.Path.{ap, ap₂}
use Rattle.std.proofs.Common.{◌∙◌, le_refl}
use Rattle.answers.specs.Answer.{Answer}
use Rattle.answers.specs.Answer.Answer.{accepted, refused_at}
use Rattle.amplitudelaws.specs.Step.{last_width}
use Rattle.framelaws.specs.Caller.{widest_run, service}
use Rattle.framelaws.specs.Memory.{Memory, ran}
use Rattle.framelaws.specs.Surveyed.{survey_width}
use Rattle.lines.specs.Lines.{refusal_line}
use Rattle.runlaws.specs.Calls.{Ending, on_run, survey_of, memory_row, running}
use Rattle.runlaws.specs.Outcomes.{running_answers}
use Rattle.runlaws.specs.Roomy.{widest_room}
use Rattle.runlaws.specs.Run.{Run, run_of}
use Rattle.listing.specs.Listing.{fresh, state_text, text_of, listed}

pub fresh_room : (s : List ℕ) (R : Run) → run_of service s ≡ accepted R → memory_row (survey_of R) fresh ≡ 0
unfolding fresh
fresh_room = let states = le_refl (2 ^ widest_run) in let mixtures = le_refl (2 ^ (widest_run - 1)) in widest_room service fresh (states, states) (mixtures, mixtures)

-- ---- so the listing of a run that is read whole is that of the state behind its steps, and of any other that of its refusal

module _ (s : List ℕ) where
  pub listed_run : (R : Run) → run_of service s ≡ accepted R
      → listed s ≡ state_text (last_width R.width R.steps) (ran R.width R.steps fresh).state
  unfolding listed text_of survey_of
  listed_run R e =
      let done = running_answers service s fresh R e (fresh_room s R e) in
      ap₂ (λ (a : Answer Ending) (m : Memory). text_of a m.state) done.0 done.1
      ∙ ap (λ (n : ℕ). state_text n (ran R.width R.steps fresh).state) (survey_width R.width R.steps)

  pub listed_refusal : (n at : ℕ) → run_of service s ≡ refused_at n at → listed s ≡ refusal_line n
  unfolding listed text_of running on_run
  listed_refusal n at e = rw e
