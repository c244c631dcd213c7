use mathlib.Core.Path.{◌≡◌, sym}
use Prim.Native.Nat.{ℕ, ◌≤◌}
use Rattle.paulilaws.specs.Fitting.{Fitting}
use native.Mathlib.Omega.{arith}
use Rattle.std.specs.Prelude.{Result}
use Rattle.std.specs.Result.{IsErrAnd}
use Rattle.answers.specs.Outcome.{finished}
use Rattle.answers.specs.Row.{first_passed, answered, left, left_some, passing}
use Rattle.activepauli.specs.Active.{active_of}
use Rattle.amplitudelaws.specs.Passed.{width_passed, room_passed}
use Rattle.amplitudelaws.specs.Rows.{widest_kernel, width_row, room_row, correction_row}
use Rattle.amplitudelaws.specs.State.{State, state_of, room, HasRoom}
use Rattle.amplitudelaws.specs.Steps.{correction}
use Rattle.refusals.specs.declared.Row.{Row}
use Rattle.refusals.specs.Refusal.{number_of}
use Rattle.refusals.proofs.Asked.{number_some, asked}
use Rattle.rows.specs.Step.{step_answer_of}
use Rattle.correction.proofs.correct_contiguous_active.Goals as goal
use Rattle.correction.proofs.correct_contiguous_active.Goals.{In_ok-correction_row}

-- where a `?` hands on the row that refuses, what was lent is as it was
refused_left : {A : Type 0} (R : ℕ) (new S : State) (x : Result A Row) (e : Row) → IsErrAnd x (λ r. r ≡ e) → number_of e ≡ R
    → (step_answer_of x ≡ answered R finished) × (S ≡ left R new S)
refused_left R new S x e h is =
    (asked x e R (λ done. finished) finished h is, sym (left_some R new S (omega (arith, is, number_some e))))

pub returns-in_err-correction_row : goal.returns-in_err-correction_row
returns-in_err-correction_row c = refused_left _ _ _ _ _ c.from_residual.ensures.1 c.in_err-correction_row.ensures

-- what the rows let pass
passed : (c : In_ok-correction_row) → let a = c.args in
    Fitting (active_of a.pauli) × (a.pauli.nqubits ≤ widest_kernel) × HasRoom a.pauli.nqubits (state_of a.re.now a.im.now)
unfolding correction_row
passed c =
    let a = c.args in
    let P = active_of a.pauli in
    let S = state_of a.re.now a.im.now in
    let rows = first_passed (width_row widest_kernel P) (room_row (room P.n S)) (sym c.in_ok-correction_row.ensures) in
    let wide = width_passed widest_kernel P rows.0 in
    (wide.0, wide.1, room_passed P.n S rows.1)

pub invariant_of-pulse : goal.invariant_of-pulse
invariant_of-pulse c =
    let is = passed (goal.at.invariant_of-pulse c).In_ok-correction_row in
    record { narrow = is.1; masked = is.0.xs }

pub correct-requires : goal.correct-requires
correct-requires c = (passed (goal.at.correct-requires c).In_ok-correction_row).2

pub returns : goal.returns
unfolding correction
returns c = passing _ _ _ _ _ (sym c.in_ok-correction_row.ensures) c.correct.ensures
