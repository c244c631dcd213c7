use mathlib.Core.Path.{◌≡◌, sym}
use Prim.Native.Nat.{ℕ, suc}
use Rattle.std.specs.Prelude.{Result}
use Rattle.std.specs.Result.{IsErrAnd}
use Rattle.refusals.specs.declared.Row.{Row}
use Rattle.refusals.specs.Refusal.{number_of}
use Rattle.rows.specs.Step.{step_answer_of}
use native.Mathlib.Omega.{arith}
use Rattle.answers.specs.Outcome.{finished}
use Rattle.answers.specs.Row.{first, first_passed, answered, left, left_some, passing}
use Rattle.amplitudelaws.specs.Passed.{promoted_width_passed, room_passed}
use Rattle.amplitudelaws.specs.Rows.{promoted_width_row, unit_row, room_row, promotion_row}
use Rattle.amplitudelaws.specs.State.{State, state_of, room}
use Rattle.amplitudelaws.specs.Steps.{promotion}
use Rattle.refusals.proofs.Asked.{number_some, asked}
use Rattle.promotion.proofs.promote_contiguous_active.Goals as goal

-- where a `?` hands on the row that refuses, what was lent is as it was
refused_left : {A : Type 0} (R : ℕ) (new S : State) (x : Result A Row) (e : Row) → IsErrAnd x (λ r. r ≡ e) → number_of e ≡ R
    → (step_answer_of x ≡ answered R finished) × (S ≡ left R new S)
refused_left R new S x e h is =
    (asked x e R (λ done. finished) finished h is, sym (left_some R new S (omega (arith, is, number_some e))))

pub returns-in_err-promotion_row : goal.returns-in_err-promotion_row
returns-in_err-promotion_row c = refused_left _ _ _ _ _ c.from_residual.ensures.1 c.in_err-promotion_row.ensures

pub promote-requires : goal.promote-requires
unfolding promotion_row
promote-requires c =
    let a = c.args in
    let n = a.nqubits in
    let S = state_of a.re.now a.im.now in
    let wide = first_passed (promoted_width_row n) (first (unit_row a.c a.q) (room_row (room (suc n) S))) (sym c.in_ok-promotion_row.ensures) in
    let lengths = room_passed (suc n) S (first_passed (unit_row a.c a.q) (room_row (room (suc n) S)) wide.1).1 in
    (promoted_width_passed n wide.0, lengths)

pub returns : goal.returns
unfolding promotion
returns c = passing _ _ _ _ _ (sym c.in_ok-promotion_row.ensures) c.promote.ensures
