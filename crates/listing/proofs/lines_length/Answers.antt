-- `lines_length`: the invariant is the length of the lines passed, whatever the state; 4,096 lines of at most 39 bytes fit a usize.
use Rattle.std.proofs.Common.{◌≡◌, ℕ, ◌+◌, ◌*◌, ◌≤◌, [], length, refl, arith, add-one}
use Rattle.amplitudelaws.specs.State.{State, state_of}
use Rattle.lines.specs.Lines.{decimal}
use Rattle.lines.specs.Lengths.{decimal_most}
use Rattle.listing.specs.Listing.{amplitude_lines}
use Rattle.listing.specs.Laws.{next_length, lines_most}
use Rattle.listing.proofs.lines_length.Goals as goal

-- any state serves where only a length is asked
most : (b len : ℕ) → b ≤ 4096 → ((S : State) → len ≡ length (amplitude_lines S b)) → len ≤ 39 * b
most b len h e = let none : State = state_of [] [] in omega (arith, e none, lines_most none b (omega (arith, h)))

more : (b len digits : ℕ) → digits ≡ length (decimal b) → ((S : State) → len ≡ length (amplitude_lines S b)) → (S : State) → len + (digits + 35) ≡ length (amplitude_lines S (b + 1))
more b len digits d e S = rw (add-one b) (omega (arith, d, e S, next_length S b))

pub loop-b-init : goal.loop-b-init
unfolding amplitude_lines
loop-b-init c = (c.requires, λ S. refl)

pub overflow_add-len : goal.overflow_add-len
overflow_add-len c = omega (arith, decimal_most 3 c.loop-b.b (omega arith))

pub overflow_add-len-in-loop-b : goal.overflow_add-len-in-loop-b
overflow_add-len-in-loop-b c =
    let at = c.loop-b in
    omega (arith, decimal_most 3 at.b (omega arith), most at.b at.len (omega arith) at.invariant.1)

pub loop-b-preserved : goal.loop-b-preserved
loop-b-preserved c =
    let at = c.loop-b in
    (at.invariant.0, more at.b at.len c.decimal_length.result c.decimal_length.ensures at.invariant.1)
