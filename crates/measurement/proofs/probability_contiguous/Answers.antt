use mathlib.Core.Path.{◌≡◌, sym, ap, ◌∙◌, subst}
use mathlib.Core.Bool.{false}
use Rattle.answers.specs.Answer.Answer.{accepted}
use Rattle.answers.specs.Row.{answered_none, accepted_row}
use Rattle.bitlaws.specs.Digit.{bit_of}
use Rattle.activepauli.specs.Active.{active_of}
use Rattle.amplitudelaws.specs.Binary.{clamped}
use Rattle.amplitudelaws.specs.Passed.{room_passed}
use Rattle.amplitudelaws.specs.Rows.{measurement_row, room_row}
use Rattle.amplitudelaws.specs.State.{state_of, HasRoom}
use Rattle.kernels.specs.Kernel.{MeasurementKernel, pauli_action, measurement_kernel_of, measurement_kernel}
use Rattle.refusals.proofs.Asked.{asked, refused_by}
use Rattle.measurement.specs.Measured.{Projectable}
use Rattle.measurement.proofs.Passing.{row_projectable, probability_refused, probability_room, kernel_probability}
use Rattle.measurement.proofs.probability_contiguous.Goals as goal
use Rattle.measurement.proofs.probability_contiguous.Goals.{In_ok-kernel}

-- the kernel that was made is the Pauli's
made : (c : In_ok-kernel) → let a = c.args in
    (measurement_row (active_of a.pauli) a.pivot false ≡ 0) × (measurement_kernel_of c.in_ok-kernel.kernel ≡ measurement_kernel (active_of a.pauli) a.pivot)
made c = accepted_row _ _ _ c.in_ok-kernel.ensures

pub returns-in_err-kernel : goal.returns-in_err-kernel
returns-in_err-kernel c =
    let a = c.args in
    refused_by (λ p. p) _ _ c.from_residual.ensures.1
    ∙ probability_refused (active_of a.pauli) a.pivot (state_of a.re.now a.im.now) _ _ c.in_err-kernel.ensures

pub returns-in_err-room_row : goal.returns-in_err-room_row
returns-in_err-room_row c =
    let a = c.args in
    let fit = (made (goal.at.returns-in_err-room_row c).In_ok-kernel).0 in
    asked _ _ _ (λ p. p) _ c.from_residual-in_err-room_row.ensures.1
    (c.in_err-room_row.ensures ∙ ap room_row c.has_room.ensures ∙ probability_room (active_of a.pauli) a.pivot (state_of a.re.now a.im.now) fit)

pub invariant_of-measured : goal.invariant_of-measured
invariant_of-measured c =
    let a = c.args in
    let is = made (goal.at.invariant_of-measured c).In_ok-kernel in
    record { projectable = subst Projectable (sym is.1) (row_projectable (active_of a.pauli) a.pivot is.0) }

pub mass-requires : goal.mass-requires
unfolding measurement_kernel pauli_action
mass-requires c =
    let a = c.args in
    let S = state_of a.re.now a.im.now in
    let enough = room_passed a.pauli.nqubits S (sym (c.in_ok-room_row.ensures ∙ ap room_row c.has_room.ensures)) in
    subst (λ (K : MeasurementKernel). HasRoom K.action.n S) (sym (made (goal.at.mass-requires c).In_ok-kernel).1) enough

pub returns : goal.returns
returns c =
    let a = c.args in
    let M = active_of a.pauli in
    let S = state_of a.re.now a.im.now in
    let is = made (goal.at.returns c).In_ok-kernel in
    let none = sym (c.in_ok-room_row.ensures ∙ ap room_row c.has_room.ensures ∙ probability_room M a.pivot S is.0) in
    ap accepted (c.clamped.ensures ∙ ap clamped c.mass.ensures ∙ kernel_probability M a.pivot _ is.1 (bit_of a.branch) S) ∙ sym (answered_none _ _ none)
