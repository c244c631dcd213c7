use mathlib.Core.Path.{ap₂, ◌∙◌}
use mathlib.Core.Bool.{Bool}
use Prim.Native.Nat.{ℕ, ◌+◌, ◌%◌}
use lib.Dec.{eqb}
use Rattle.answers.specs.Answer.Answer.{accepted}
use Rattle.paulilaws.specs.Pauli.{anti}
use Rattle.pauligroup.specs.Calls.{anticommutes_call}
use Rattle.refusals.proofs.Asked.{asked}
use Rattle.activepauli.specs.Active.{active_of}
use Rattle.activepauli.specs.Rows.{pair_row, pair_answered, pair_value}
use Rattle.activepauli.proofs.ActivePauli.anticommutes.Goals as goal

pub returns-in_err-pair_row : goal.returns-in_err-pair_row
unfolding anticommutes_call
returns-in_err-pair_row c =
    let P = active_of c.args.self in
    let Q = active_of c.args.other in
    asked _ _ (pair_row P Q) (λ (b : Bool). b) (eqb (anti P Q) 1) c.from_residual.ensures.1 c.in_err-pair_row.ensures ∙ pair_answered (eqb (anti P Q) 1) P Q

pub returns : goal.returns
unfolding anticommutes_call anti
returns c =
    let P = active_of c.args.self in
    let Q = active_of c.args.other in
    ap₂ (λ (m n : ℕ). accepted (eqb ((m + n) % 2) 1)) c.shared.ensures.0 c.shared-2.ensures.0
    ∙ pair_value (eqb (anti P Q) 1) P Q c.in_ok-pair_row.ensures
