-- `put_number`: the digits that `io` writes are the number's, of which there is at least one.
use mathlib.Core.Path.{◌≡◌, sym, ap, ◌∙◌, subst}
use mathlib.Core.List.{List}
use Prim.Native.Nat.{ℕ}
use native.Mathlib.Omega.{arith}
use lib.ListN.{length, take}
use Rattle.lines.specs.Fitting.{fitting_whole, fitting_none}
use Rattle.lines.specs.Lines.{decimal}
use Rattle.lines.specs.Stored.{Stored, stored_none}
use Rattle.lines.proofs.Digits.{decimal_digits}
use Rattle.lines.proofs.put_number.Goals as goal

pub put-requires : goal.put-requires
put-requires c = omega (arith, c.decimal-count.ensures.len.0)

pub returns-then-room-count : goal.returns-then-room-count
returns-then-room-count c =
    let d = c.decimal-count in
    let q : take d.result d.new.out ≡ decimal c.args.n = d.ensures.digits ∙ decimal_digits d.result c.args.n d.ensures.len in
    let none = fitting_none (decimal c.args.n) c.args.at c.args.out.now (omega (arith, ap length q)) in
    subst (λ (t : List ℕ). Stored t c.args.at c.args.out.now c.args.at c.args.out.now) (sym none) stored_none

pub returns : goal.returns
returns c =
    let d = c.decimal-count in
    let done = c.put in
    let q : take d.result d.new.out ≡ decimal c.args.n = d.ensures.digits ∙ decimal_digits d.result c.args.n d.ensures.len in
    let whole = fitting_whole (decimal c.args.n) c.args.at c.args.out.now (omega (arith, ap length q)) in
    subst (λ (t : List ℕ). Stored t c.args.at c.args.out.now done.result done.new.out) (q ∙ sym whole) done.ensures
