-- Two states have the same text exactly where they have the same width and the same numbers.
use Rattle.std.specs.Prelude.{◌≡◌, Float, length}
use Rattle.std.proofs.Math.Path.{refl, sym, ap, ap₂}
use Rattle.std.proofs.Common.{◌∙◌, arith}
use mathlib.Core.List.{List, [], ◌∷◌, ◌++◌}
use Rattle.std.proofs.Math.Logic.{⊎_elim}
use Prim.Native.Nat.{ℕ, zero, suc, ◌+◌, ◌^◌, ◌≤◌, ◌<◌}
use Rattle.std.proofs.Math.Pow.{pow-lt}
use Rattle.bitlaws.specs.Order.{le_or_lt}
use Rattle.floatlaws.specs.Same.{same_eq, same_zeros}
use Rattle.floatlaws.proofs.Same.{same_says}
use Rattle.amplitudelaws.specs.Binary.{Point}
use Rattle.amplitudelaws.specs.State.{State, point}
use Rattle.framelaws.specs.Representable.{Representable, RepresentableState}
use Rattle.lines.specs.Lengths.{part_length}
use Rattle.lines.specs.Lines.{decimal, part, width_line, amplitude_line}
use Rattle.lines.specs.Newlines.{line_count}
use Rattle.lines.proofs.Numbers.{same_part, part_same}
use Rattle.lines.specs.Pieces.{parts_same}
use Rattle.runlaws.specs.Frame.{SameNumber, SameNumbers}
use Rattle.listing.specs.Counted.{state_count}
use Rattle.listing.specs.Laws.{next_length}
use Rattle.listing.specs.Listing.{amplitude_lines, state_text}

-- ---- the same numbers, the same text

number_part : {x y : Float} → SameNumber x y → part x ≡ part y
number_part h = same_part (⊎_elim same_eq (λ z. same_zeros z.0 z.1) h)

line_same : (b : ℕ) (p q : Point) → SameNumbers p q → amplitude_line b p.re p.im ≡ amplitude_line b q.re q.im
unfolding amplitude_line
line_same b p q h = ap₂ (λ (r i : List ℕ). decimal b ++ (r ++ (i ++ 10 ∷ []))) (number_part h.0) (number_part h.1)

module _ (S U : State) where
  lines_same : (d : ℕ) → ((b : ℕ) → b < d → SameNumbers (point S b) (point U b)) → amplitude_lines S d ≡ amplitude_lines U d
  unfolding amplitude_lines
  lines_same zero h = refl
  lines_same (suc d) h = ap₂ (λ (l k : List ℕ). l ++ k) (lines_same d (λ b k. h b (omega arith))) (line_same d (point S d) (point U d) (h d (omega arith)))

  pub state_same : (n : ℕ) → ((b : ℕ) → b < 2 ^ n → SameNumbers (point S b) (point U b)) → state_text n S ≡ state_text n U
  unfolding state_text
  state_same n h = ap (λ (l : List ℕ). width_line n ++ l) (lines_same (2 ^ n) h)

-- ---- and the other way round

line_tells : (b : ℕ) (p q : Point) → Representable p → Representable q → amplitude_line b p.re p.im ≡ amplitude_line b q.re q.im → SameNumbers p q
unfolding amplitude_line
line_tells b p q f g e =
    let parts = (parts_same {s = decimal b} {u = decimal b} refl e).1 in
    let both = parts_same (part_length p.re ∙ sym (part_length q.re)) parts in
    let last = parts_same (part_length p.im ∙ sym (part_length q.im)) both.1 in
    (same_says _ _ (part_same p.re q.re f.0 g.0 both.0), same_says _ _ (part_same p.im q.im f.1 g.1 last.0))

power_same : (n k : ℕ) → 2 ^ n ≡ 2 ^ k → n ≡ k
power_same n k e =
    ⊎_elim (λ (h : n ≤ k). ⊎_elim (λ (l : k ≤ n). omega arith) (λ (l : n < k). absurd (omega (arith, pow-lt l, e))) (le_or_lt k n))
    (λ (h : k < n). absurd (omega (arith, pow-lt h, e)))
    (le_or_lt n k)

-- a line is as long as its basis has it
lines_long : (S U : State) (d : ℕ) → length (amplitude_lines S d) ≡ length (amplitude_lines U d)
lines_long S U zero = unfold amplitude_lines in refl
lines_long S U (suc d) = next_length S d ∙ omega (arith, lines_long S U d) ∙ sym (next_length U d)

module _ (S U : State) (f : RepresentableState S) (g : RepresentableState U) where
  lines_tell : (d : ℕ) → amplitude_lines S d ≡ amplitude_lines U d → (b : ℕ) → b < d → SameNumbers (point S b) (point U b)
  unfolding amplitude_lines
  lines_tell zero e b h = absurd (omega arith)
  lines_tell (suc d) e b h =
      let both = parts_same (lines_long S U d) e in
      ⊎_elim (λ (l : d ≤ b). let last : b ≡ d = omega (arith, h, l) in rw last (line_tells d (point S d) (point U d) (f.at d) (g.at d) both.1))
      (λ (l : b < d). lines_tell d both.0 b l)
      (le_or_lt d b)

  pub state_tells : (n k : ℕ) → state_text n S ≡ state_text k U → (n ≡ k) × ((b : ℕ) → b < 2 ^ n → SameNumbers (point S b) (point U b))
  unfolding state_text
  state_tells n k e =
      let count : 1 + 2 ^ n ≡ 1 + 2 ^ k = sym (state_count n S) ∙ ap line_count e ∙ state_count k U in
      let width : n ≡ k = power_same n k (omega (arith, count)) in
      let lines : amplitude_lines S (2 ^ n) ≡ amplitude_lines U (2 ^ n)
      = (parts_same {s = width_line n} {u = width_line n} refl (e ∙ ap (λ (k : ℕ). width_line k ++ amplitude_lines U (2 ^ k)) (sym width))).1 in
      (width, lines_tell (2 ^ n) lines)
