-- `put_number`: the digits that `io` writes are the number's.
use mathlib.Core.Path.{◌≡◌, ap, ◌∙◌, subst}
use mathlib.Core.List.{List}
use Prim.Native.Nat.{ℕ}
use native.Mathlib.Omega.{arith}
use lib.ListN.{length, take}
use Rattle.lines.specs.Lines.{decimal}
use Rattle.lines.proofs.Digits.{decimal_digits}
use Rattle.lines.specs.Stored.{Stored}
use Rattle.reports.proofs.pieces.put_number.Goals as goal

pub put-requires : goal.put-requires
put-requires c =
    let d = c.decimal-count in
    let q : take d.result d.new.out ≡ decimal c.args.n = d.ensures.digits ∙ decimal_digits d.result c.args.n d.ensures.len in
    omega (arith, c.requires, ap length q)

pub returns : goal.returns
returns c =
    let d = c.decimal-count in
    let done = c.put in
    let q : take d.result d.new.out ≡ decimal c.args.n = d.ensures.digits ∙ decimal_digits d.result c.args.n d.ensures.len in
    subst (λ (t : List ℕ). Stored t c.args.at c.args.out.now done.result done.new.out) q done.ensures
