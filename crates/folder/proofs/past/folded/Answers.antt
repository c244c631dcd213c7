-- what the product and the passing answer
use Rattle.std.proofs.Common.{◌≡◌, sym, ap, ◌∙◌, subst, rules}
use Rattle.answers.specs.Answer.Answer.{accepted}
use Rattle.activepauli.specs.Active.{active_of}
use Rattle.activepauli.specs.Accepted.{product_accepted}
use Rattle.framelaws.specs.Folded.{kept_past}
use Rattle.framelaws.specs.Folding.{folded_past}
use Rattle.framelaws.specs.PassRow.{pass_row}
use Rattle.passing.specs.Accepted.{past_unrefused, past_is}
use Rattle.passing.specs.Unrefused.{unrefused, value_is}
use Rattle.refusals.specs.Refusal.{answer_of}
use Rattle.steps.specs.Meaning.{step_of}
use Rattle.folder.proofs.Fired.{fired_pair, fired_product}
use Rattle.folder.proofs.Stays.{stays}
use Rattle.folder.proofs.past.folded.Goals as goal
use Rattle.folder.proofs.past.folded.Goals.{After-mul}

told : (c : After-mul) → let a = c.args in
    answer_of active_of c.mul.result ≡ accepted (folded_past (active_of a.pauli) (step_of a.step))
told c =
    let Q = active_of c.args.pauli in
    let P = active_of c.in-Correction.fired in
    let is = c.in-Correction.is in
    let pair = fired_pair Q P (subst (λ t. pass_row Q (step_of t) ≡ 0) is c.requires) in
    c.mul.ensures ∙ product_accepted P Q pair.0 pair.1 pair.2 ∙ ap accepted (fired_product Q P) ∙ ap (λ t. accepted (folded_past Q (step_of t))) (sym is)

pub unwrap-requires : goal.unwrap-requires
unwrap-requires c = unrefused active_of c.mul.result (told (goal.at.unwrap-requires c).After-mul)

pub returns-in-Correction : goal.returns-in-Correction
returns-in-Correction c = value_is active_of c.mul.result (told (goal.at.returns-in-Correction c).After-mul) _ c.unwrap.ensures

pub unwrap-requires-in_default : goal.unwrap-requires-in_default
unwrap-requires-in_default c = past_unrefused _ _ c.requires _ c.past.ensures

pub returns-in_default : goal.returns-in_default
returns-in_default c =
    let a = c.args in
    (past_is _ _ c.requires _ c.past.ensures _ c.unwrap-in_default.ensures).1 ∙ sym (kept_past (active_of a.pauli) (step_of a.step) (stays a.step (λ P h. search rules)))
