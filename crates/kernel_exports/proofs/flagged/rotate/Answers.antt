use Rattle.std.specs.Prelude.{ℕ}
use Rattle.std.proofs.Common.{ap, ap₂, ◌∙◌}
use Rattle.answers.specs.Outcome.{finished}
use Rattle.answers.specs.Row.{answered, left}
use Rattle.activepauli.specs.Active.{active_of}
use Rattle.amplitudelaws.specs.Rows.{rotation_row}
use Rattle.amplitudelaws.specs.State.{state_of}
use Rattle.amplitudelaws.specs.Steps.{rotation}
use Rattle.kernel_exports.proofs.Behind.{stopped_by_own, stopped_by_flag, own_row, its_bit}
use Rattle.kernel_exports.proofs.flagged.rotate.Goals as goal

pub returns-in_err-rotation_row : goal.returns-in_err-rotation_row
returns-in_err-rotation_row c =
    let step = c.from_residual in
    stopped_by_own step.result _ _ _ step.ensures.1 (λ done. finished) _ _ _ c.in_err-rotation_row.ensures

pub returns-in_err-flag_row : goal.returns-in_err-flag_row
returns-in_err-flag_row c =
    let step = c.from_residual-in_err-flag_row in
    stopped_by_flag step.result _ _ _ step.ensures.1 (λ done. finished) _ _ _ c.in_ok-rotation_row.ensures c.in_err-flag_row.ensures

pub returns : goal.returns
returns c =
    let a = c.args in
    let P = active_of a.pauli in
    let S = state_of a.re.now a.im.now in
    let own = own_row (rotation_row P a.c a.s S) a.sign c.in_ok-rotation_row.ensures c.in_ok-flag_row.ensures in
    let bit = its_bit (rotation_row P a.c a.s S) a.sign c.in_ok-rotation_row.ensures c.in_ok-flag_row.ensures in
    let done = c.rotate_contiguous_active.ensures in
    (done.0 ∙ ap (λ (r : ℕ). answered r finished) own, done.1 ∙ ap₂ (λ (r v : ℕ). left r (rotation P v a.c a.s S) S) own bit)
