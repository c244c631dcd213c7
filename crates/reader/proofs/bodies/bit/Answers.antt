use native.Mathlib.Omega.{arith}
use borrow.Author.Tests.{lt-ltb}
use Rattle.answers.specs.Row.{row, answered}
use Rattle.reader.proofs.bodies.bit.Goals as goal

pub returns-in-0 : goal.returns-in-0
unfolding row answered
returns-in-0 c = rw c.in-0.is

pub returns-in-1 : goal.returns-in-1
unfolding row answered
returns-in-1 c = rw c.in-1.is

pub returns-in_default : goal.returns-in_default
unfolding row answered
returns-in_default c = rw (lt-ltb 1 c.args.byte (omega arith))
