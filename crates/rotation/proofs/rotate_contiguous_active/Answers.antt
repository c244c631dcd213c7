use mathlib.Core.Path.{sym, ap, ◌∙◌, subst}
use Prim.Native.Nat.{ℕ}
use Rattle.answers.specs.Row.{passing}
use Rattle.bitlaws.specs.Digit.{bit_of}
use Rattle.amplitudelaws.specs.Passed.{room_passed}
use Rattle.amplitudelaws.specs.Rows.{room_row}
use Rattle.amplitudelaws.specs.State.{state_of, HasRoom}
use Rattle.activepauli.specs.Active.{active_of}
use Rattle.rotation.proofs.Made.{kernel_refused, kernel_rotatable, kernel_width, kernel_row, kernel_rotates, refused_left}
use Rattle.rotation.proofs.rotate_contiguous_active.Goals as goal

pub returns-in_err-kernel : goal.returns-in_err-kernel
returns-in_err-kernel c =
    let a = c.args in
    refused_left _ _ _ _ _ c.from_residual.ensures.1 (kernel_refused (active_of a.pauli) a.c a.s (state_of a.re.now a.im.now) _ c.in_err-kernel.ensures).0

pub returns-in_err-room_row : goal.returns-in_err-room_row
returns-in_err-room_row c =
    let a = c.args in
    refused_left _ _ _ _ _ c.from_residual-in_err-room_row.ensures.1
    (c.in_err-room_row.ensures ∙ ap room_row c.has_room.ensures
    ∙ kernel_row (active_of a.pauli) a.c a.s (state_of a.re.now a.im.now) _ c.in_ok-kernel.ensures)

pub invariant_of-rotation : goal.invariant_of-rotation
invariant_of-rotation c =
    let a = c.args in
    record { rotatable = kernel_rotatable (active_of a.pauli) a.c a.s (state_of a.re.now a.im.now) _ c.in_ok-kernel.ensures }

pub rotate-requires : goal.rotate-requires
rotate-requires c =
    let a = c.args in
    let P = active_of a.pauli in
    let S = state_of a.re.now a.im.now in
    let enough = room_passed P.n S (sym (c.in_ok-room_row.ensures ∙ ap room_row c.has_room.ensures)) in
    subst (λ (n : ℕ). HasRoom n S) (kernel_width P a.c a.s S _ c.in_ok-kernel.ensures) enough

pub returns : goal.returns
returns c =
    let a = c.args in
    let P = active_of a.pauli in
    let S = state_of a.re.now a.im.now in
    let made = c.in_ok-kernel.ensures in
    passing _ _ _ _ _ (sym (c.in_ok-room_row.ensures ∙ ap room_row c.has_room.ensures ∙ kernel_row P a.c a.s S _ made))
    (c.rotate.ensures ∙ kernel_rotates P a.c a.s S _ made (bit_of a.sign))
