use mathlib.Core.Path.{ap, ◌∙◌}
use Rattle.kernels.specs.Kernel.{Action, pauli_action, rotation_kernel}
use Rattle.amplitudelaws.specs.Rotation.{rotation_coefficient}
use Rattle.kernels.proofs.DefaultPivot.{searched}
use borrow.Author.Rules.{rules}
use Rattle.kernels.proofs.rotation_kernel.Goals as goal

pub returns : goal.returns
unfolding rotation_kernel rotation_coefficient pauli_action
returns c =
    let act = c.action-action.ensures in
    let even = ap (λ (A : Action). A.even) act in
    let P = c.args.pauli in
    let pair = c.highest_or_zero.ensures ∙ searched P.nqubits 64 P.x (search rules) c.requires.1 in
    rw (pair, c.times.ensures, act, even)
