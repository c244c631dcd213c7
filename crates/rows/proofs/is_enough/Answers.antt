use mathlib.Core.Path.{sym}
use Prim.Native.Nat.{◌^◌}
use native.Mathlib.Omega.{arith}
use lib.Pow.{pow_mono}
use borrow.Author.Tests.{lt-leb}
use Rattle.rows.proofs.is_enough.Goals as goal

pub returns-then-nqubits-ge64 : goal.returns-then-nqubits-ge64
returns-then-nqubits-ge64 c =
    let a = c.args in
    sym (lt-leb (2 ^ a.nqubits) a.length (omega (arith, pow_mono {i = 64} {j = a.nqubits} c.if-nqubits-ge64.true)))
