use mathlib.Core.Path.{ap}
use Prim.Native.Nat.{◌-◌}
use native.Mathlib.Omega.{arith}
use lib.Ieee.{nan_bits}
use Rattle.bitlaws.specs.Digit.{one_shifted}
use Rattle.amplitudelaws.specs.Projection.{projection_coefficient}
use Rattle.kernels.specs.Kernel.{Action, pauli_action, measurement_kernel}
use Rattle.kernels.proofs.measurement_kernel.Goals as goal

pub float_from_bits-h : goal.float_from_bits-h
unfolding nan_bits
float_from_bits-h c = tt

pub returns : goal.returns
unfolding measurement_kernel projection_coefficient pauli_action
returns c =
    let act = c.action-action.ensures in
    let even = ap (λ (A : Action). A.even) act in
    rw (c.scaled.ensures, c.conjugate-conjugate.ensures, act, even, one_shifted 64 (c.args.pauli.nqubits - 1) (omega arith))
