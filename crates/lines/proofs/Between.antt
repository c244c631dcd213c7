-- A number of `count` digits between two texts, as `line` writes it.
use mathlib.Core.Path.{◌≡◌}
use mathlib.Core.List.{List, ◌++◌}
use Prim.Native.Nat.{ℕ, ◌+◌, ◌≤◌, ◌<◌}
use native.Mathlib.Omega.{arith}
use lib.ListN.{length, length-append}
use lib.Seq.{sets}
use Rattle.std.specs.Prelude.{Ok, Err}
use Rattle.refusals.specs.declared.Row.TheVariants as row
use Rattle.lines.specs.Calls.{Lined}
use Rattle.lines.specs.Pieces.{sets_next, lined_short, lined_all}

module _ (label number tail out : List ℕ) (count : ℕ) (l : count ≡ length number) where
  abbrev whole : List ℕ
  whole = label ++ (number ++ tail)

  size : length label + count + length tail ≡ length whole
  size = omega (arith, l, length-append label (number ++ tail), length-append number tail)

  pub number_short : length out < length label + count + length tail → Lined whole out (Err row.OutputTooShort) out
  number_short h = lined_short whole out (omega (arith, size, h))

  pub number_all : (a b : ℕ) (x y z : List ℕ) → length label + count + length tail ≤ length out
      → x ≡ sets out 0 label → a ≡ 0 + length label → y ≡ sets x a number → b ≡ a + length number → z ≡ sets y b tail
      → Lined whole out (Ok (length label + count + length tail)) z
  number_all a b x y z h w e v f u =
      lined_all whole out (length label + count + length tail) z size (omega (arith, size, h))
      (sets_next out 0 a label (number ++ tail) x z w e (sets_next x a b number tail y z v f u))
