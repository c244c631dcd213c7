-- the kernel that was made is the Pauli's
use mathlib.Core.Path.{◌≡◌, sym, ap, ◌∙◌, subst}
use mathlib.Core.Bool.{false}
use Rattle.answers.specs.Row.{answered_some, left_some, passing, accepted_row}
use Rattle.bitlaws.specs.Digit.{bit_of}
use Rattle.activepauli.specs.Active.{active_of}
use Rattle.amplitudelaws.specs.Memory.{memory_of}
use Rattle.amplitudelaws.specs.Rows.{measurement_row, projection_row}
use Rattle.kernels.specs.Kernel.{MeasurementKernel, measurement_kernel_of, measurement_kernel}
use Rattle.measurement.specs.Measured.{Projectable}
use Rattle.measurement.specs.Rows.{kernel_row}
use Rattle.measurement.proofs.Passing.{refused_left, row_projectable, kernel_rooms, projection_refused, projection_passed, kernel_memory_lem}
use Rattle.measurement.proofs.project_contiguous.Goals as goal
use Rattle.measurement.proofs.project_contiguous.Goals.{In-Ok}

accepts : (c : In-Ok) → let a = c.args in
    let M = active_of a.pauli in
    (measurement_row M a.pivot false ≡ 0) × (measurement_kernel_of c.in-Ok.kernel ≡ measurement_kernel M a.pivot)
accepts c = accepted_row _ _ _ c.in-Ok.ensures

-- its rows are then those of the projection
rows : (c : In-Ok) → let a = c.args in
    let m = memory_of a.re.now a.im.now a.scratch_re.now a.scratch_im.now in
    kernel_row (measurement_kernel_of c.in-Ok.kernel) a.invnorm m ≡ projection_row (active_of a.pauli) a.pivot a.invnorm m.state m.scratch
rows c =
    let a = c.args in
    let m = memory_of a.re.now a.im.now a.scratch_re.now a.scratch_im.now in
    ap (λ (K : MeasurementKernel). kernel_row K a.invnorm m) (accepts c).1 ∙ projection_passed (active_of a.pauli) a.pivot a.invnorm m (accepts c).0

pub returns-in-Err : goal.returns-in-Err
returns-in-Err c =
    let a = c.args in
    let m = memory_of a.re.now a.im.now a.scratch_re.now a.scratch_im.now in
    let told = projection_refused (active_of a.pauli) a.pivot a.invnorm m _ c.in-Err.ensures in
    rw (← told.0, c.with_eight.ensures) (sym (answered_some _ _ told.1), sym (left_some _ _ _ told.1))

pub invariant_of-measured : goal.invariant_of-measured
invariant_of-measured c =
    let a = c.args in
    let is = accepts (goal.at.invariant_of-measured c).In-Ok in
    record { projectable = subst Projectable (sym is.1) (row_projectable (active_of a.pauli) a.pivot is.0) }

pub returns-in_err-kernel_row : goal.returns-in_err-kernel_row
returns-in_err-kernel_row c =
    refused_left _ _ _ _ _ c.from_residual.ensures.1 (c.in_err-kernel_row.ensures ∙ rows (goal.at.returns-in_err-kernel_row c).In-Ok)

pub project-requires : goal.project-requires
project-requires c =
    let a = c.args in
    let m = memory_of a.re.now a.im.now a.scratch_re.now a.scratch_im.now in
    kernel_rooms _ a.invnorm m (sym c.in_ok-kernel_row.ensures)

pub returns : goal.returns
returns c =
    let a = c.args in
    let m = memory_of a.re.now a.im.now a.scratch_re.now a.scratch_im.now in
    let within = (goal.at.returns c).In-Ok in
    passing _ _ _ _ _ (sym (c.in_ok-kernel_row.ensures ∙ rows within))
    (c.project.ensures ∙ kernel_memory_lem (active_of a.pauli) a.pivot _ (accepts within).1 (bit_of a.branch) a.invnorm m)
