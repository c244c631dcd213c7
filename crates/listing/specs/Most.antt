-- How long a listing can be: no buffer of `most_text` bytes is too short.
use Rattle.std.specs.Prelude.{◌≡◌, refl, List, ℕ, ◌^◌, ◌≤◌, length, Result, Ok}
use Rattle.std.proofs.Common.{arith, length-append, pow_mono}
use Rattle.answers.specs.Answer.{Answer}
use Rattle.answers.specs.Answer.Answer.{accepted, refused, refused_at}
use Rattle.amplitudelaws.specs.State.{State}
use Rattle.lines.specs.Calls.{Lined}
use Rattle.lines.specs.Lengths.{decimal_most, width_length, refusal_length}
use Rattle.lines.specs.Lines.{width_line, refusal_line}
use Rattle.lines.specs.Pieces.{lined_fits}
use Rattle.refusals.specs.declared.Row.{Row}
use Rattle.runlaws.specs.Calls.{Ending, running}
use Rattle.runlaws.specs.Outcomes.{ending_within}
use Rattle.framelaws.specs.Caller.{widest_run, service}
use Rattle.listing.specs.Laws.{lines_most}
use Rattle.listing.specs.Listing.{fresh, amplitude_lines, state_text, text_of, listed}
use Rattle.runlaws.specs.Numbers.{Refusals}
use Rattle.runlaws.proofs.Numbers.{service_most}

-- a line of 10 bytes for the width, and 4,096 of at most 39
abbrev pub most_text : ℕ
most_text = 159754

state_most : (n : ℕ) (S : State) → n ≤ widest_run → length (state_text n S) ≤ most_text
unfolding state_text
state_most n S h =
    let dim : 2 ^ n ≤ 4096 = pow_mono {i = n} {j = widest_run} h in
    omega (
      arith,
      length-append (width_line n) (amplitude_lines S (2 ^ n)),
      width_length n,
      decimal_most 1 n (omega (arith, h)),
      lines_most S (2 ^ n) (omega (arith, dim)),
      dim,
    )

refusal_most : (n : ℕ) → n ≤ 15 → length (refusal_line n) ≤ most_text
refusal_most n h = omega (arith, refusal_length n, decimal_most 1 n (omega (arith, h)))

pub listed_most : (s : List ℕ) → length (listed s) ≤ most_text
unfolding listed text_of Refusals
listed_most s = by (running service s fresh).answer refl (service_most widest_run s fresh)
  where
    by : (a : Answer Ending) → (running service s fresh).answer ≡ a → Refusals (λ n. n ≤ 15) a → length (text_of a (running service s fresh).lent.state) ≤ most_text
    by (accepted E) e h = state_most E.width _ (ending_within service s fresh E e)
    by (refused n) e h = refusal_most n h
    by (refused_at n at) e h = refusal_most n h

-- ---- so writing it there is not refused

pub listed_fits : (s out : List ℕ) (r : Result ℕ Row) (left : List ℕ) → most_text ≤ length out → Lined (listed s) out r left → r ≡ Ok (length (listed s))
listed_fits s out r left h l = (lined_fits (listed s) out r left (omega (arith, h, listed_most s)) l).0
