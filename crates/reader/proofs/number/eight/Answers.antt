use native.Mathlib.Omega.{arith}
use native.Mathlib.Nat.{add-zero}
use Rattle.runlaws.specs.Bytes.{number}
use Rattle.reader.proofs.number.eight.Goals as goal

pub returns : goal.returns
unfolding number
returns c = rw add-zero (omega (arith, c.from_le_bytes.ensures))
