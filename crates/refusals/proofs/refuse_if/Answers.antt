use Rattle.answers.specs.Row.{row}
use Rattle.std.proofs.Common.{rules}
use Rattle.refusals.proofs.refuse_if.Goals as goal

pub returns-then-test : goal.returns-then-test
unfolding row
returns-then-test c = rw c.if-test.true

pub returns-else-test : goal.returns-else-test
unfolding row
returns-else-test c = rw c.if-test.false
