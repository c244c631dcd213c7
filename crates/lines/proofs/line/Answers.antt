-- `line`: the three texts follow one another from the start of the buffer, and together have at most 8 + 20 + 35 bytes.
use mathlib.Core.Path.{◌≡◌, ap, ◌∙◌}
use mathlib.Core.List.{List}
use Prim.Native.Nat.{ℕ, ◌+◌}
use native.Mathlib.Omega.{arith}
use lib.ListN.{length, take}
use lib.Seq.{sets}
use Rattle.lines.specs.Lines.{decimal}
use Rattle.lines.proofs.Digits.{decimal_digits, twenty}
use Rattle.lines.proofs.Between.{number_short, number_all}
use Rattle.lines.proofs.line.Goals as goal

pub overflow_add-len : goal.overflow_add-len
overflow_add-len c =
    omega (arith, c.requires.0, twenty c.args.n c.decimal-count.result c.well_formed.1.0.1 c.decimal-count.ensures.len)

pub overflow_add-len-2 : goal.overflow_add-len-2
overflow_add-len-2 c =
    omega (arith, c.requires, twenty c.args.n c.decimal-count.result c.well_formed.1.0.1 c.decimal-count.ensures.len)

pub returns-then-out-len : goal.returns-then-out-len
returns-then-out-len c =
    let d = c.decimal-count in
    let q = d.ensures.digits ∙ decimal_digits d.result c.args.n d.ensures.len in
    number_short c.args.label.now (decimal c.args.n) c.args.tail.now c.args.out.now d.result (d.ensures.in_bounds.1 ∙ ap length q) c.if-out-len.true

pub returns : goal.returns
returns c =
    let d = c.decimal-count in
    let first = c.put-number in
    let second = c.put-rest in
    let third = c.put in
    let x : List ℕ = first.new.out in
    let q : take d.result d.new.out ≡ decimal c.args.n = d.ensures.digits ∙ decimal_digits d.result c.args.n d.ensures.len in
    let long = c.if-out-len.false in
    number_all c.args.label.now (decimal c.args.n) c.args.tail.now c.args.out.now d.result (d.ensures.in_bounds.1 ∙ ap length q)
    first.result second.result x second.new.out third.new.out
    long
    first.ensures.stands first.ensures.ends
    (second.ensures.stands ∙ ap (sets x first.result) q) (second.ensures.ends ∙ ap (λ (l : List ℕ). first.result + length l) q)
    third.ensures.stands
