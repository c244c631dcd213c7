use mathlib.Core.Path.{◌∙◌}
use native.Mathlib.Omega.{arith}
use Rattle.refusals.proofs.Asked.{refused_at_row}
use Rattle.fields.proofs.Fields.{start_cut, start_tag, start_size, start_good}
use Rattle.fields.proofs.start.Goals as goal

pub returns-in_err-head : goal.returns-in_err-head
returns-in_err-head c = refused_at_row _ _ _ c.from_residual.ensures.1 ∙ start_cut _ c.in_err-head.ensures

pub returns-then-head-ne-START : goal.returns-then-head-ne-START
returns-then-head-ne-START c = start_tag _ _ _ _ c.in_ok-head.ensures c.if-head-ne-START.true

pub returns-in_default : goal.returns-in_default
returns-in_default c = start_size _ _ _ _ _ c.in_ok-head.ensures c.body.ensures c.if-head-ne-START.false (omega arith)

pub returns-in_default-2 : goal.returns-in_default-2
returns-in_default-2 c = start_size _ _ _ _ _ c.in_ok-head.ensures c.body.ensures c.if-head-ne-START.false (omega arith)

pub returns : goal.returns
returns c = rw c.from.ensures (start_good _ _ _ _ _ c.in_ok-head.ensures c.body.ensures c.if-head-ne-START.false (omega arith))
