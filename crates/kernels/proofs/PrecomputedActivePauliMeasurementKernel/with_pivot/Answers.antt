use mathlib.Core.Path.{sym, ap, ◌∙◌}
use mathlib.Core.Bool.{false}
use native.Mathlib.Omega.{arith}
use Rattle.answers.specs.Answer.Answer.{accepted}
use Rattle.answers.specs.Row.{answered_none, first_passed}
use Rattle.refusals.proofs.Asked.{asked}
use Rattle.activepauli.specs.Active.{active_of}
use Rattle.amplitudelaws.specs.Passed.{hermitian_passed}
use Rattle.amplitudelaws.proofs.Passed.{measurement_passed}
use Rattle.amplitudelaws.specs.Rows.{hermitian_row, measurement_row, widest_kernel}
use Rattle.kernels.specs.Kernel.{measurement_kernel_of}
use Rattle.kernels.proofs.PrecomputedActivePauliMeasurementKernel.with_pivot.Goals as goal

pub returns-in_err-measurement_row : goal.returns-in_err-measurement_row
returns-in_err-measurement_row c = asked _ _ _ measurement_kernel_of _ c.from_residual.ensures.1 c.in_err-measurement_row.ensures

pub measurement_kernel-requires : goal.measurement_kernel-requires
unfolding measurement_row
measurement_kernel-requires c =
    let a = c.args in
    let M = active_of a.pauli in
    let none = sym c.in_ok-measurement_row.ensures in
    let fitting = (hermitian_passed widest_kernel M (first_passed (hermitian_row widest_kernel M) _ none).0).0 in
    let passed = measurement_passed M a.pivot false none in
    (fitting.phase, omega (arith, passed.2.inside), omega (arith, passed.0))

pub returns : goal.returns
returns c = ap accepted c.measurement_kernel.ensures ∙ sym (answered_none _ _ (sym c.in_ok-measurement_row.ensures))
