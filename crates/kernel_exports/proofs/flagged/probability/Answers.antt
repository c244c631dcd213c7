use Rattle.std.specs.Prelude.{ℕ}
use Rattle.std.proofs.Common.{ap₂, ◌∙◌}
use Rattle.answers.specs.Row.{answered}
use Rattle.activepauli.specs.Active.{active_of}
use Rattle.amplitudelaws.specs.Rows.{probability_row}
use Rattle.amplitudelaws.specs.State.{state_of}
use Rattle.amplitudelaws.specs.Steps.{probability}
use Rattle.kernel_exports.proofs.Behind.{stopped_by_own, stopped_by_flag, own_row, its_bit}
use Rattle.kernel_exports.proofs.flagged.probability.Goals as goal

pub returns-in_err-probability_row : goal.returns-in_err-probability_row
returns-in_err-probability_row c =
    let step = c.from_residual in
    let S = state_of c.args.re.now c.args.im.now in
    (stopped_by_own step.result _ _ _ step.ensures.1 (λ p. p) _ S S c.in_err-probability_row.ensures).0

pub returns-in_err-flag_row : goal.returns-in_err-flag_row
returns-in_err-flag_row c =
    let step = c.from_residual-in_err-flag_row in
    let S = state_of c.args.re.now c.args.im.now in
    (stopped_by_flag step.result _ _ _ step.ensures.1 (λ p. p) _ S S c.in_ok-probability_row.ensures c.in_err-flag_row.ensures).0

pub returns : goal.returns
returns c =
    let a = c.args in
    let M = active_of a.pauli in
    let S = state_of a.re.now a.im.now in
    let own = own_row (probability_row M a.pivot S) a.branch c.in_ok-probability_row.ensures c.in_ok-flag_row.ensures in
    let bit = its_bit (probability_row M a.pivot S) a.branch c.in_ok-probability_row.ensures c.in_ok-flag_row.ensures in
    c.probability_contiguous.ensures ∙ ap₂ (λ (r v : ℕ). answered r (probability M a.pivot v S)) own bit
