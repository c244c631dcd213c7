-- The kernel of a step that is ready is refused by no row, and so leaves what the step's definition says.
use mathlib.Core.Path.{◌≡◌, refl, sym, ap, ◌∙◌, subst}
use mathlib.Core.Bool.{Bool, true, false, cond, not, ◌&&◌, ◌||◌}
use Prim.Native.Nat.{ℕ, suc, ◌-◌, ◌^◌}
use lib.Dec.{leb, ltb, eqb}
use lib.Ieee.{Float}
use lib.Ieee.Scale.{finite}
use Rattle.std.specs.Prelude.{Result, Ok, Err}
use Rattle.std.specs.Result.{IsOk}
use Rattle.answers.specs.Outcome.{finished}
use Rattle.answers.specs.Row.{row, first, answered, left, first_passed, first_none, answered_none, left_none, refused_accepted}
use Rattle.refusals.specs.declared.Row.{Row}
use Rattle.rows.specs.Step.{step_answer_of}
use Rattle.paulilaws.specs.Pauli.{Pauli}
use Rattle.amplitudelaws.specs.Binary.{binary}
use Rattle.amplitudelaws.specs.Calls.{projected_memory}
use Rattle.amplitudelaws.specs.Rows.{widest_kernel, width_row, hermitian_row, unit_row, rotation_kernel_row, measurement_row, room_row, rotation_row, promoted_width_row, promotion_row, projection_row, correction_row}
use Rattle.amplitudelaws.specs.State.{State, room_for, room}
use Rattle.amplitudelaws.specs.Steps as leaves
use Rattle.amplitudelaws.specs.Step.{Step, width_after}
use Rattle.amplitudelaws.specs.Step.Step.{rotation, promotion, projection, correction, quarter_turn}
use Rattle.framelaws.specs.Rows.{step_row, rotation_step_row, promotion_step_row, projection_step_row}
use Rattle.framelaws.specs.Survey.{mixed_amplitudes}
use Rattle.framelaws.specs.Memory.{Memory, stepped}
use Rattle.framelaws.specs.QuarterTurn.{root_unit}
use Rattle.runner.specs.Ready.{StepReady}

-- the rows of a call, 13 last
with_room : (rows : ℕ) (enough : Bool) → rows ≡ 0 → enough ≡ true → first rows (room_row enough) ≡ 0
unfolding room_row row
with_room rows enough e h = first_none rows _ e ∙ rw h

-- the room that a projection needs in the scratch
scratch_enough : (diagonal : Bool) (k : ℕ) (S : State) → room_for (cond diagonal 0 (2 ^ k)) S ≡ true → (diagonal || room k S) ≡ true
unfolding room
scratch_enough true k S h = refl
scratch_enough false k S h = h

both : {p q : Bool} → p ≡ true → q ≡ true → (p && q) ≡ true
both h k = rw (h, k)

module _ {n : ℕ} {m : Memory} where
  rotation_row_lem : (P : Pauli) (sign : ℕ) (c s : Float) → StepReady n (rotation P sign c s) m → rotation_row P c s m.state ≡ 0
  unfolding rotation_row step_row rotation_step_row
  rotation_row_lem P sign c s r =
      with_room (rotation_kernel_row P c s) (room P.n m.state) (first_passed (rotation_kernel_row P c s) (row (ltb 1 sign) 14 0) r.row).0 (rw r.placed r.before)

  promotion_row_lem : (c q : Float) → StepReady n (promotion c q) m → promotion_row n c q m.state ≡ 0
  unfolding promotion_row step_row promotion_step_row width_after
  promotion_row_lem c q r =
      let rows = first_passed (promoted_width_row n) (first (unit_row c q) (row (leb r.caller.widest n) r.caller.promotion_row 0)) r.row in
      let units = (first_passed (unit_row c q) (row (leb r.caller.widest n) r.caller.promotion_row 0) rows.1).0 in
      first_none (promoted_width_row n) _ rows.0 ∙ with_room (unit_row c q) (room (suc n) m.state) units r.behind

  projection_row_lem : (M : Pauli) (p v : ℕ) (invnorm : Float) → StepReady n (projection M p v invnorm) m
      → projection_row M p invnorm m.state m.scratch ≡ 0
  unfolding projection_row step_row projection_step_row mixed_amplitudes
  projection_row_lem M p v invnorm r =
      let rows = measurement_row M p (not (finite invnorm)) in
      with_room rows _ (first_passed rows (row (ltb 1 v) 14 0) r.row).0
      (rw r.placed (both r.before (scratch_enough (eqb M.x 0) (n - 1) m.scratch r.scratch)))

  correction_row_lem : (P : Pauli) → StepReady n (correction P) m → correction_row P m.state ≡ 0
  unfolding correction_row step_row
  correction_row_lem P r = with_room (width_row widest_kernel P) (room P.n m.state) r.row (rw r.placed r.before)

  quarter_turn_row : (P : Pauli) → StepReady n (quarter_turn P) m → rotation_row P binary.h binary.h m.state ≡ 0
  unfolding rotation_row rotation_kernel_row step_row
  quarter_turn_row P r =
      let h : Float = binary.h in
      with_room (first (hermitian_row widest_kernel P) (unit_row h h)) (room P.n m.state)
      (first_none (hermitian_row widest_kernel P) _ r.row ∙ root_unit) (rw r.placed r.before)

-- a call that no row refuses is done
done : {A : Type 0} (x : Result A Row) (r : ℕ) → r ≡ 0 → step_answer_of x ≡ answered r finished → IsOk x
done (Ok a) r none h = refl
done (Err e) r none h = absurd (refused_accepted (h ∙ answered_none r finished none))

-- What a kernel's call answers and leaves is what the step leaves: t is the step, x the call's result, o what it left.
module _ (n : ℕ) (t : Step Float) (m : Memory) (ready : StepReady n t m) where
  ready_as : {u : Step Float} → t ≡ u → StepReady n u m
  ready_as e = subst (λ (t : Step Float). StepReady n t m) e ready

  -- u is the step by its kind, r the number of the call's row
  taken : {u : Step Float} {o : Memory} (r : ℕ) → t ≡ u → r ≡ 0 → o ≡ left r (stepped n u m) m → o ≡ stepped n t m
  taken r e none h = h ∙ left_none r _ _ none ∙ ap (λ (t : Step Float). stepped n t m) (sym e)

  -- the scratch left alone
  taken_alone : {u : Step Float} {S S' : State} (r : ℕ) → t ≡ u → r ≡ 0 → S ≡ left r S' m.state
      → record { state = S'; scratch = m.scratch } ≡ stepped n u m → record { state = S; scratch = m.scratch } ≡ stepped n t m
  taken_alone r e none h is =
      let done = h ∙ left_none r _ _ none in
      taken r e none (ap (λ (S : State). record { state = S; scratch = m.scratch }) done ∙ is ∙ sym (left_none r _ _ none))

  pub rotation_done : (P : Pauli) (sign : ℕ) (c s : Float) {A : Type 0} (x : Result A Row) → t ≡ rotation P sign c s → step_answer_of x ≡ answered (rotation_row P c s m.state) finished → IsOk x
  rotation_done P sign c s x e h = done x _ (rotation_row_lem P sign c s (ready_as e)) h

  pub rotation_taken : (P : Pauli) (sign : ℕ) (c s : Float) {S : State} → t ≡ rotation P sign c s
      → S ≡ left (rotation_row P c s m.state) (leaves.rotation P sign c s m.state) m.state
      → record { state = S; scratch = m.scratch } ≡ stepped n t m
  unfolding stepped
  rotation_taken P sign c s e h = taken_alone _ e (rotation_row_lem P sign c s (ready_as e)) h refl

  pub promotion_done : (c q : Float) {A : Type 0} (x : Result A Row) → t ≡ promotion c q → step_answer_of x ≡ answered (promotion_row n c q m.state) finished → IsOk x
  promotion_done c q x e h = done x _ (promotion_row_lem c q (ready_as e)) h

  pub promotion_taken : (c q : Float) {S : State} → t ≡ promotion c q
      → S ≡ left (promotion_row n c q m.state) (leaves.promotion n c q m.state) m.state
      → record { state = S; scratch = m.scratch } ≡ stepped n t m
  unfolding stepped
  promotion_taken c q e h = taken_alone _ e (promotion_row_lem c q (ready_as e)) h refl

  pub projection_done : (M : Pauli) (p v : ℕ) (invnorm : Float) {A : Type 0} (x : Result A Row) → t ≡ projection M p v invnorm → step_answer_of x ≡ answered (projection_row M p invnorm m.state m.scratch) finished → IsOk x
  projection_done M p v invnorm x e h = done x _ (projection_row_lem M p v invnorm (ready_as e)) h

  pub projection_taken : (M : Pauli) (p v : ℕ) (invnorm : Float) {o : Memory} → t ≡ projection M p v invnorm
      → o ≡ left (projection_row M p invnorm m.state m.scratch) (projected_memory M p v invnorm m) m → o ≡ stepped n t m
  unfolding stepped
  projection_taken M p v invnorm e h = taken _ e (projection_row_lem M p v invnorm (ready_as e)) h

  pub correction_done : (P : Pauli) {A : Type 0} (x : Result A Row) → t ≡ correction P → step_answer_of x ≡ answered (correction_row P m.state) finished → IsOk x
  correction_done P x e h = done x _ (correction_row_lem P (ready_as e)) h

  pub correction_taken : (P : Pauli) {S : State} → t ≡ correction P
      → S ≡ left (correction_row P m.state) (leaves.correction P m.state) m.state
      → record { state = S; scratch = m.scratch } ≡ stepped n t m
  unfolding stepped
  correction_taken P e h = taken_alone _ e (correction_row_lem P (ready_as e)) h refl

  pub quarter_turn_done : (P : Pauli) {A : Type 0} (x : Result A Row) → t ≡ quarter_turn P → step_answer_of x ≡ answered (rotation_row P binary.h binary.h m.state) finished → IsOk x
  quarter_turn_done P x e h = done x _ (quarter_turn_row P (ready_as e)) h

  pub quarter_turn_taken : (P : Pauli) {S : State} → t ≡ quarter_turn P
      → S ≡ left (rotation_row P binary.h binary.h m.state) (leaves.rotation P 0 binary.h binary.h m.state) m.state
      → record { state = S; scratch = m.scratch } ≡ stepped n t m
  unfolding stepped
  quarter_turn_taken P e h = taken_alone _ e (quarter_turn_row P (ready_as e)) h refl
