use mathlib.Core.Path.{◌∙◌}
use native.Mathlib.Omega.{arith}
use Rattle.lines.specs.Stored.{copied_all}
use Rattle.lines.specs.Pieces.{lined_short, lined_all}
use Rattle.reports.proofs.whole.Goals as goal

pub returns-then-out-text : goal.returns-then-out-text
returns-then-out-text c = lined_short _ _ c.if-out-text.true

pub returns : goal.returns
returns c =
    let copied = c.copy.ensures in
    let fits = c.if-out-text.false in
    let a = c.args in
    lined_all a.text.now a.out.now _ _ copied.0 (omega (arith, fits)) (copied.1 ∙ copied_all a.text.now a.out.now (omega (arith, fits)))
