-- `decimal_length`: the digits that `io` writes are the number's.
use mathlib.Core.Path.{ap, ◌∙◌}
use lib.ListN.{length}
use Rattle.lines.proofs.Digits.{decimal_digits}
use Rattle.lines.proofs.decimal_length.Goals as goal

pub returns : goal.returns
returns c =
    let d = c.decimal in
    d.ensures.in_bounds.1 ∙ ap length (d.ensures.digits ∙ decimal_digits d.result c.args.n d.ensures.len)
