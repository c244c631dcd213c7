-- What the runner's answer, and the state that it left, make of the listing.
use Rattle.std.proofs.Common.{◌≡◌, ℕ, ◌^◌, ◌≤◌, List, length, sym, ap, ap₂}
use Rattle.std.specs.Prelude.{Float, Err}
use Rattle.std.proofs.Math.Pow.{pow_mono}
use Rattle.amplitudelaws.specs.Memory.{Memory, memory_of}
use Rattle.amplitudelaws.specs.State.{state_of}
use Rattle.answers.specs.Answer.{Answer}
use Rattle.answers.specs.Answer.Answer.{accepted}
use Rattle.framelaws.specs.Caller.{widest_run, service}
use Rattle.refusals.specs.declared.Refusal.{Refusal}
use Rattle.refusals.specs.declared.Refusal.TheVariants.{Whole, At}
use Rattle.refusals.specs.Refusal.{refusal_answer_of}
use Rattle.runlaws.specs.Calls.{Ending, running}
use Rattle.runlaws.specs.Outcomes.{ending_within}
use Rattle.listing.specs.Listing.{fresh, state_text, text_of, listed}
use Rattle.listing.specs.Refused.{refused_line}

-- an accepted run ends within the service's limit, and 4,096 entries are room for that
module _ (s : List ℕ) (m : Memory) (E : Ending) (e : accepted E ≡ (running service s m).answer) where
  pub narrow : E.width ≤ widest_run
  narrow = ending_within service s m E (sym e)

  pub enough : (l : List Float) → length l ≡ 4096 → 2 ^ E.width ≤ length l
  enough l h = rw h (pow_mono {i = E.width} {j = widest_run} narrow)

module _ (s : List ℕ) where
  pub listed_state : (E : Ending) (re im p q : List Float) → accepted E ≡ (running service s fresh).answer → memory_of re im p q ≡ (running service s fresh).lent
      → state_text E.width (state_of re im) ≡ listed s
  unfolding listed text_of
  listed_state E re im p q e lent = ap₂ (λ (a : Answer Ending) (m : Memory). text_of a m.state) e lent

  pub listed_refused : {A : Type 0} (value : A → Ending) (r : Refusal) → refusal_answer_of value (Err r) ≡ (running service s fresh).answer → refused_line r ≡ listed s
  unfolding listed text_of
  listed_refused value (Whole r) e = ap (λ (a : Answer Ending). text_of a (running service s fresh).lent.state) e
  listed_refused value (At p) e = ap (λ (a : Answer Ending). text_of a (running service s fresh).lent.state) e
