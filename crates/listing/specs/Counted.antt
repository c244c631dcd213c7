-- How many lines a listing has: one for the width and one for each basis, or that of a refusal.
use Rattle.std.specs.Prelude.{◌≡◌, List, ℕ, zero, suc, ◌+◌, ◌^◌}
use Rattle.std.proofs.Math.Path.{refl}
use Rattle.std.proofs.Common.{◌∙◌, arith}
use Rattle.answers.specs.Answer.{Answer}
use Rattle.answers.specs.Answer.Answer.{accepted, refused, refused_at}
use Rattle.amplitudelaws.specs.State.{State, point}
use Rattle.lines.specs.Lines.{width_line, amplitude_line}
use Rattle.lines.specs.Newlines.{line_count, count_append, width_one, amplitude_one, refusal_one}
use Rattle.runlaws.specs.Calls.{Ending, running}
use Rattle.framelaws.specs.Caller.{service}
use Rattle.listing.specs.Listing.{fresh, amplitude_lines, state_text, text_of, listed}

lines_count : (S : State) (d : ℕ) → line_count (amplitude_lines S d) ≡ d
unfolding amplitude_lines
lines_count S zero = unfold line_count in refl
lines_count S (suc d) =
    let line : List ℕ = amplitude_line d (point S d).re (point S d).im in
    count_append (amplitude_lines S d) line ∙ omega (arith, lines_count S d, amplitude_one d (point S d).re (point S d).im)

pub state_count : (n : ℕ) (S : State) → line_count (state_text n S) ≡ 1 + 2 ^ n
unfolding state_text
state_count n S = count_append (width_line n) (amplitude_lines S (2 ^ n)) ∙ omega (arith, width_one n, lines_count S (2 ^ n))

abbrev lines_of : Answer Ending → ℕ
lines_of (accepted E) = 1 + 2 ^ E.width
lines_of (refused n) = 1
lines_of (refused_at n at) = 1

pub listed_count : (s : List ℕ) → line_count (listed s) ≡ lines_of (running service s fresh).answer
unfolding listed text_of
listed_count s = by (running service s fresh).answer
  where
    by : (a : Answer Ending) → line_count (text_of a (running service s fresh).lent.state) ≡ lines_of a
    by (accepted E) = state_count E.width (running service s fresh).lent.state
    by (refused n) = refusal_one n
    by (refused_at n at) = refusal_one n
