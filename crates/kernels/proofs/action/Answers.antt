use mathlib.Core.Path.{◌≡◌}
use Prim.Native.Nat.{◌%◌}
use native.Mathlib.Omega.{arith}
use Rattle.kernels.specs.Kernel.{pauli_action}
use Rattle.bitlaws.specs.Parity.{overlap}
use Rattle.kernels.proofs.action.Goals as goal

pub returns : goal.returns
unfolding pauli_action overlap
returns c =
    let phase : c.args.pauli.phase % 4 ≡ c.args.pauli.phase = omega (arith, c.requires) in
    rw (c.negated.ensures, c.phase_factor-even_phase.ensures, phase, c.is_odd_popcount.ensures)
