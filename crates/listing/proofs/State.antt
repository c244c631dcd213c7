-- A state's text in a buffer: the width's line, and then the lines of its amplitudes.
use mathlib.Core.Path.{◌≡◌, refl, ap, ◌∙◌, subst}
use mathlib.Core.List.{List, ◌++◌}
use Prim.Native.Nat.{ℕ, ◌+◌, ◌^◌, ◌≤◌, ◌<◌}
use native.Mathlib.Omega.{arith}
use lib.ListN.{length, length-append}
use lib.Pow.{pow_mono}
use lib.Seq.{sets, length-sets}
use Rattle.amplitudelaws.specs.State.{State}
use Rattle.lines.specs.Calls.{Lined}
use Rattle.lines.specs.Lengths.{decimal_most, width_length}
use Rattle.lines.specs.Lines.{decimal, width_line}
use Rattle.lines.specs.Pieces.{sets_next, lined_short, lined_all, lined_fits, length_same}
use Rattle.std.specs.Prelude.{Result, Ok, Err}
use Rattle.std.specs.Result.{IsOk}
use Rattle.refusals.specs.declared.Row.{Row}
use Rattle.refusals.specs.declared.Row.TheVariants as row
use Rattle.framelaws.specs.Caller.{widest_run}
use Rattle.listing.specs.Listing.{amplitude_lines, state_text}
use Rattle.listing.specs.Laws.{lines_most}

-- a width within the service's limit has two digits at most, and its lines are few enough to be counted
pub width_most : (width digits : ℕ) → width ≤ widest_run → digits ≡ length (decimal width) → digits ≤ 2
width_most width digits h e = omega (arith, e, decimal_most 1 width (omega (arith, h)))

pub dim_most : (width dim : ℕ) → width ≤ widest_run → dim ≡ 2 ^ width → dim ≤ 4096
dim_most width dim h e = rw e (pow_mono {i = width} {j = widest_run} h)

pub count_most : (S : State) (width dim count : ℕ) → width ≤ widest_run → dim ≡ 2 ^ width → count ≡ length (amplitude_lines S dim) → count ≤ 159744
count_most S width dim count h d e = omega (arith, e, dim_most width dim h d, lines_most S dim (omega (arith, dim_most width dim h d)))

module _ (S : State) (width dim digits count : ℕ) (d : dim ≡ 2 ^ width) (e : digits ≡ length (decimal width)) (f : count ≡ length (amplitude_lines S dim))
    (out : List ℕ) where
  abbrev rest : List ℕ
  rest = amplitude_lines S dim

  text_is : width_line width ++ rest ≡ state_text width S
  unfolding state_text
  text_is = ap (λ (n : ℕ). width_line width ++ amplitude_lines S n) d

  size : 8 + digits + count ≡ length (width_line width ++ rest)
  size = omega (arith, e, f, width_length width, length-append (width_line width) rest)

  pub state_short : length out < 8 + digits + count → Lined (state_text width S) out (Err row.OutputTooShort) out
  state_short h = subst (λ (t : List ℕ). Lined t out (Err row.OutputTooShort) out) text_is (lined_short (width_line width ++ rest) out (omega (arith, size, h)))

  module _ (h : 8 + digits + count ≤ length out) {r : Result ℕ Row} {x : List ℕ} (l : Lined (width_line width) out r x) where
    done : (r ≡ Ok (length (width_line width))) × (x ≡ sets out 0 (width_line width))
    done = lined_fits (width_line width) out r x (omega (arith, h, e, width_length width)) l

    pub width_ok : IsOk r
    width_ok = rw done.0 refl

    module _ {first : ℕ} (is : r ≡ Ok first) where
      behind : first ≡ length (width_line width)
      behind = length_same done.0 is

      pub rest_fits : first + length rest ≤ length x
      rest_fits = omega (arith, h, f, e, behind, width_length width, ap length done.1 ∙ length-sets out 0 (width_line width))

      pub state_all : {y : List ℕ} → y ≡ sets x first rest → Lined (state_text width S) out (Ok (8 + digits + count)) y
      state_all {y} w =
          subst (λ (t : List ℕ). Lined t out (Ok (8 + digits + count)) y) text_is
          (lined_all (width_line width ++ rest) out (8 + digits + count) y size (omega (arith, size, h))
          (sets_next out 0 first (width_line width) rest x y done.1 (omega (arith, behind)) w))
