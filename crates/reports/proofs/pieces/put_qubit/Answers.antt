-- `put_qubit`: a number below 100 has two digits at most.
use mathlib.Core.Path.{◌≡◌, sym, ◌∙◌, subst}
use mathlib.Core.Bool.{true, false}
use mathlib.Core.List.{List, [], ◌∷◌}
use Prim.Native.Nat.{ℕ}
use native.Mathlib.Omega.{arith}
use lib.Dec.{eqb}
use Rattle.bitlaws.specs.Digit.{digit}
use Rattle.lines.specs.Lengths.{decimal_most}
use Rattle.lines.specs.Lines.{decimal}
use Rattle.lines.specs.Stored.{Stored, stored_none}
use Rattle.reports.specs.Text.{qubit_text}
use Rattle.reports.proofs.pieces.put_qubit.Goals as goal

module _ (q mask : ℕ) where
  set : eqb (digit q mask) 1 ≡ true → qubit_text q mask ≡ 32 ∷ decimal q
  unfolding qubit_text
  set e = rw e

  clear : eqb (digit q mask) 1 ≡ false → qubit_text q mask ≡ []
  unfolding qubit_text
  clear e = rw e

pub put_numbered-requires : goal.put_numbered-requires
put_numbered-requires c = omega (arith, c.requires, decimal_most 1 c.args.q (omega (arith, c.requires.0)))

pub returns-then-word_bit : goal.returns-then-word_bit
returns-then-word_bit c =
    let done = c.put_numbered in
    let text = set c.args.q c.args.mask (sym c.word_bit.ensures ∙ c.if-word_bit.true) in
    subst (λ (t : List ℕ). Stored t c.args.at c.args.out.now done.result done.new.out) (sym text) done.ensures

pub returns : goal.returns
returns c =
    let text = clear c.args.q c.args.mask (sym c.word_bit.ensures ∙ c.if-word_bit.false) in
    subst (λ (t : List ℕ). Stored t c.args.at c.args.out.now c.args.at c.args.out.now) (sym text) stored_none
