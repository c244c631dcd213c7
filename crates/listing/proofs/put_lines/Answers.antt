-- `put_lines`: the invariant is that the lines of the bases passed stand from `at` on, and end at `end`.
use Rattle.std.proofs.Common.{◌≡◌, ℕ, suc, ◌+◌, ◌≤◌, ◌<◌, List, length, refl, ap, ◌∙◌, arith, add-one, length-append}
use Rattle.std.proofs.lemmas.List.Edits.{sets}
use Rattle.std.proofs.Math.Seq.{length-sets}
use Rattle.amplitudelaws.specs.State.{State, state_of, point}
use Rattle.lines.specs.Lines.{amplitude_line}
use Rattle.lines.specs.Pieces.{sets_next}
use Rattle.listing.specs.Listing.{amplitude_lines}
use Rattle.listing.specs.Laws.{lines_mono}
use Rattle.listing.proofs.put_lines.Invariants.{Put}
use Rattle.listing.proofs.put_lines.Goals as goal

module _ {S : State} {dim at : ℕ} {old : List ℕ} {b end : ℕ} {now : List ℕ} (p : Put S dim at old b end now) where
  kept : length now ≡ length old
  kept = ap length p.stands ∙ length-sets old at (amplitude_lines S b)

  abbrev line : List ℕ
  line = amplitude_line b (point S b).re (point S b).im

  one_more : length (amplitude_lines S (suc b)) ≡ length (amplitude_lines S b) + length line
  unfolding amplitude_lines
  one_more = length-append (amplitude_lines S b) line

  fits : b < dim → end + length line ≤ length now
  fits h = omega (arith, p.room, p.ends, one_more, lines_mono S (suc b) dim h, kept)

  put_more : {next : ℕ} {left : List ℕ} → next ≡ end + length line → left ≡ sets now end line → Put S dim at old (b + 1) next left
  unfolding amplitude_lines
  put_more {next} {left} e w =
      rw (add-one b) (record {
        room = p.room;
        ends = omega (arith, e, p.ends, one_more);
        stands = sets_next old at end (amplitude_lines S b) line now left p.stands p.ends w;
      })

pub loop-b-init : goal.loop-b-init
unfolding amplitude_lines
loop-b-init c =
    (c.requires.dim_in_bounds.0, c.requires.dim_in_bounds.1, record { room = c.requires.dim_in_bounds_2; ends = omega arith; stands = refl })

pub put_line-end-requires : goal.put_line-end-requires
unfolding point
put_line-end-requires c = fits c.loop-b.invariant.2 c.loop-b-test.true

pub loop-b-preserved : goal.loop-b-preserved
unfolding point
loop-b-preserved c =
    let at = c.loop-b.invariant in
    let line = c.put_line-end.ensures in
    (at.0, at.1, put_more at.2 line.value line.out_after)

pub returns : goal.returns
returns c =
    let at = c.loop-b in
    let all : at.b ≡ c.args.dim = omega arith in
    at.invariant.2.stands ∙ ap (λ (b : ℕ). sets c.args.out.now c.args.at (amplitude_lines (state_of c.args.re.now c.args.im.now) b)) all
