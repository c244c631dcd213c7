use mathlib.Core.Path.{sym, ap, ◌∙◌}
use Rattle.answers.specs.Answer.Answer.{accepted}
use Rattle.answers.specs.Row.{answered_none}
use Rattle.refusals.proofs.Asked.{asked}
use Rattle.activepauli.specs.Active.{active_of}
use Rattle.amplitudelaws.specs.Passed.{rotation_passed}
use Rattle.kernels.specs.Kernel.{rotation_kernel_of}
use Rattle.kernels.proofs.PrecomputedActivePauliRotationKernel.new.Goals as goal

pub returns-in_err-rotation_row : goal.returns-in_err-rotation_row
returns-in_err-rotation_row c = asked _ _ _ rotation_kernel_of _ c.from_residual.ensures.1 c.in_err-rotation_row.ensures

pub rotation_kernel-requires : goal.rotation_kernel-requires
rotation_kernel-requires c =
    let a = c.args in
    let fitting = (rotation_passed (active_of a.pauli) a.c a.s (sym c.in_ok-rotation_row.ensures)).0 in
    (fitting.phase, fitting.xs)

pub returns : goal.returns
returns c = ap accepted c.rotation_kernel.ensures ∙ sym (answered_none _ _ (sym c.in_ok-rotation_row.ensures))
