use Rattle.std.specs.Prelude.{ℕ}
use Rattle.std.proofs.Common.{ap, ap₂, ◌∙◌}
use Rattle.answers.specs.Outcome.{finished}
use Rattle.answers.specs.Row.{answered, left}
use Rattle.activepauli.specs.Active.{active_of}
use Rattle.amplitudelaws.specs.Calls.{projected_memory}
use Rattle.amplitudelaws.specs.Memory.{memory_of}
use Rattle.amplitudelaws.specs.Rows.{projection_row}
use Rattle.kernel_exports.proofs.Behind.{stopped_by_own, stopped_by_flag, own_row, its_bit}
use Rattle.kernel_exports.proofs.flagged.project.Goals as goal

pub returns-in_err-projection_row : goal.returns-in_err-projection_row
returns-in_err-projection_row c =
    let step = c.from_residual in
    stopped_by_own step.result _ _ _ step.ensures.1 (λ done. finished) _ _ _ c.in_err-projection_row.ensures

pub returns-in_err-flag_row : goal.returns-in_err-flag_row
returns-in_err-flag_row c =
    let step = c.from_residual-in_err-flag_row in
    stopped_by_flag step.result _ _ _ step.ensures.1 (λ done. finished) _ _ _ c.in_ok-projection_row.ensures c.in_err-flag_row.ensures

pub returns : goal.returns
returns c =
    let a = c.args in
    let M = active_of a.pauli in
    let m = memory_of a.re.now a.im.now a.scratch_re.now a.scratch_im.now in
    let row = projection_row M a.pivot a.invnorm m.state m.scratch in
    let own = own_row row a.branch c.in_ok-projection_row.ensures c.in_ok-flag_row.ensures in
    let bit = its_bit row a.branch c.in_ok-projection_row.ensures c.in_ok-flag_row.ensures in
    let done = c.project_contiguous.ensures in
    (done.0 ∙ ap (λ (r : ℕ). answered r finished) own, done.1 ∙ ap₂ (λ (r v : ℕ). left r (projected_memory M a.pivot v a.invnorm m) m) own bit)
