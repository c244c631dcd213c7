-- What the rows of a call let pass, and what a Pauli's kernel leaves in the definitions that the calls cite.
use mathlib.Core.Path.{◌≡◌, refl, sym, ap, ◌∙◌}
use mathlib.Core.Bool.{Bool, true, false, cond, not, ◌&&◌, ◌||◌}
use Prim.Native.Nat.{ℕ, ◌-◌, ◌^◌, ◌<◌}
use native.Mathlib.Omega.{arith}
use lib.Dec.{ltb, eqb, lit<}
use lib.Ieee.{Float}
use lib.Ieee.Scale.{finite}
use borrow.Author.Tests.{not-false}
use Rattle.answers.specs.Answer.Answer.{refused}
use Rattle.std.specs.Prelude.{Result}
use Rattle.std.specs.Result.{IsErrAnd}
use Rattle.answers.specs.Outcome.{finished}
use Rattle.answers.specs.Row.{row, row_passed, first, first_some, first_none, first_passed, answered, answered_some, left, left_some, refused_row, first_nothing}
use Rattle.refusals.specs.declared.Row.{Row}
use Rattle.refusals.specs.Refusal.{number_of}
use Rattle.refusals.proofs.Asked.{number_some, asked}
use Rattle.rows.specs.Step.{step_answer_of}
use Rattle.paulilaws.specs.Pauli.{Pauli}
use Rattle.paulilaws.specs.Fitting.{both_left, both_right}
use Rattle.bitlaws.specs.Digit.{bit_of}
use Rattle.amplitudelaws.specs.Arithmetic.{scaled}
use Rattle.amplitudelaws.specs.Binary.{binary, Point, clamped}
use Rattle.amplitudelaws.specs.Calls.{projected_memory}
use Rattle.amplitudelaws.specs.Memory.{Memory}
use Rattle.amplitudelaws.specs.Passed.{room_lengths}
use Rattle.amplitudelaws.proofs.Passed.{measurement_passed}
use Rattle.amplitudelaws.specs.Probability.{mass, squared, total}
use Rattle.amplitudelaws.specs.Projection.{minus, projected, projection_coefficient, remaining, remaining_by}
use Rattle.amplitudelaws.specs.Rows.{widest_kernel, hermitian_row, pivot_mask, pivot_row, measurement_row}
use Rattle.amplitudelaws.specs.Rows.{room_row, projection_row, probability_row}
use Rattle.amplitudelaws.specs.State.{State, point, room, written, HasRoom}
use Rattle.amplitudelaws.specs.Steps.{projection, scratch_after, scratch_by, probability}
use Rattle.kernels.specs.Kernel.{MeasurementKernel, measurement_kernel, pauli_action}
use Rattle.measurement.specs.Measured.{kernel_remaining, kernel_projected, kernel_scratch, kernel_memory, kernel_mass, Projectable}
use Rattle.measurement.specs.Rows.{with_eight, kernel_row}
use Rattle.measurement.proofs.Eight.{eight_some, measurement_unfit}

either_other : (t u : Bool) → (t || u) ≡ true → t ≡ false → u ≡ true
either_other true u e f = absurd (let z : ◌≡◌ {A = ℕ} 0 1 = cc in omega arith)
either_other false u e f = e

pub room_is : (n : ℕ) (S : State) → room n S ≡ true → HasRoom n S
unfolding room
room_is n S = room_lengths (2 ^ n) S

pub memory_same : {m n : Memory} → m.state ≡ n.state → m.scratch ≡ n.scratch → m ≡ n
memory_same s t = λ i. record { state = s i; scratch = t i }

-- where a `?` hands on the row that refuses, what was lent is as it was
pub refused_left : {A : Type 0} (R : ℕ) (new m : Memory) (x : Result A Row) (e : Row) → IsErrAnd x (λ r. r ≡ e) → number_of e ≡ R
    → (step_answer_of x ≡ answered R finished) × (m ≡ left R new m)
refused_left R new m x e h is =
    (asked x e R (λ done. finished) finished h is, sym (left_some R new m (omega (arith, is, number_some e))))

-- what the rows behind a kernel let pass
pub kernel_rooms : (K : MeasurementKernel) (invnorm : Float) (m : Memory) → kernel_row K invnorm m ≡ 0
    → HasRoom K.action.n m.state × (K.diagonal ≡ false → HasRoom (K.action.n - 1) m.scratch)
unfolding kernel_row room_row
kernel_rooms K invnorm m e =
    let state = room K.action.n m.state in
    let scratch = room (K.action.n - 1) m.scratch in
    let other = K.diagonal || scratch in
    let thirteen = (first_passed (row (not (finite invnorm)) 8 0) _ e).1 in
    let enough = not-false (state && other) (row_passed (not (state && other)) 13 0 (lit< tt) thirteen).0 in (
      room_is K.action.n m.state (both_left state other enough),
      λ mixing. room_is (K.action.n - 1) m.scratch (either_other K.diagonal scratch (both_right state other enough) mixing),
    )

module _ (M : Pauli) (p : ℕ) where
  -- the kernel of a Pauli that no row refuses
  pub row_projectable : measurement_row M p false ≡ 0 → Projectable (measurement_kernel M p)
  unfolding pivot_mask measurement_kernel pauli_action
  row_projectable e =
      let passed = measurement_passed M p false e in
      record { narrow = passed.0; outputs = refl; pivoted = passed.2 }

  module _ (invnorm : Float) (m : Memory) where
    -- a projection whose kernel is refused, and one whose kernel is not
    pub projection_refused : (n : ℕ) → refused n ≡ answered (measurement_row M p false) (measurement_kernel M p)
        → (with_eight n invnorm ≡ projection_row M p invnorm m.state m.scratch) × (0 < with_eight n invnorm)
    unfolding projection_row with_eight
    projection_refused n q =
        let told = refused_row (measurement_row M p false) (measurement_kernel M p) n q in
        let some : 0 < cond (ltb 8 n && not (finite invnorm)) 8 n = eight_some (ltb 8 n && not (finite invnorm)) n told.1 in
        let is = measurement_unfit M p (not (finite invnorm)) n told.0 told.1 in
        (sym (rw is (first_some _ _ some)), some)

    pub projection_passed : measurement_row M p false ≡ 0
        → kernel_row (measurement_kernel M p) invnorm m ≡ projection_row M p invnorm m.state m.scratch
    unfolding projection_row kernel_row measurement_kernel pauli_action measurement_row
    projection_passed e =
        let eight = row (not (finite invnorm)) 8 0 in
        let rooms = room_row (room M.n m.state && (eqb M.x 0 || room (M.n - 1) m.scratch)) in
        let a = first_passed (hermitian_row widest_kernel M) _ e in
        let b = first_passed (row false 8 0) (pivot_row M p) a.1 in
        let only : measurement_row M p (not (finite invnorm)) ≡ eight
        = first_none (hermitian_row widest_kernel M) _ a.0 ∙ ap (first eight) b.1 ∙ first_nothing eight in
        sym (ap (λ (r : ℕ). first r rooms) only)

  module _ (S : State) where
    pub probability_refused : (a : Float) (n : ℕ) → refused n ≡ answered (measurement_row M p false) (measurement_kernel M p) → refused n ≡ answered (probability_row M p S) a
    unfolding probability_row
    probability_refused a n q =
        let same = refused_row (measurement_row M p false) (measurement_kernel M p) n q in
        rw (same.0, first_some n (room_row (room M.n S)) same.1) (sym (answered_some n a same.1))

    -- only the room is left to be looked at
    pub probability_room : measurement_row M p false ≡ 0 → room_row (room M.n S) ≡ probability_row M p S
    unfolding probability_row
    probability_room e = sym (first_none (measurement_row M p false) _ e)

  -- ---- what its kernel leaves

  -- with an X part the kernel's phase bit is not set, and not looked at
  leaves : kernel_remaining (measurement_kernel M p) ≡ remaining binary M p
  unfolding measurement_kernel pauli_action kernel_remaining remaining remaining_by minus
  leaves = go (eqb M.x 0)
    where
      go : (t : Bool) → remaining_by binary t M.x M.z (bit_of (t && eqb M.k 2)) (projection_coefficient binary M.k) p
          ≡ remaining_by binary t M.x M.z (minus M.k) (projection_coefficient binary M.k) p
      go true = refl
      go false = refl

  module _ (K : MeasurementKernel) (e : K ≡ measurement_kernel M p) (v : ℕ) (S : State) where
    pub kernel_probability : clamped (kernel_mass K v (2 ^ (K.action.n - 1)) S) ≡ probability M p v S
    unfolding measurement_kernel pauli_action kernel_mass probability mass
    kernel_probability =
        ap (λ (k : MeasurementKernel). clamped (kernel_mass k v (2 ^ (k.action.n - 1)) S)) e
        ∙ ap (λ (R : ℕ → (ℕ → Point) → ℕ → Point). clamped (total binary (2 ^ (M.n - 1)) (λ j. squared binary (R v (point S) j)))) leaves

    module _ (invnorm : Float) where
      projects : kernel_projected (measurement_kernel M p) v invnorm S ≡ projected binary M p v invnorm (point S)
      unfolding kernel_projected projected
      projects = ap {B = ℕ → Point} (λ (R : ℕ → (ℕ → Point) → ℕ → Point). λ (j : ℕ). scaled binary (R v (point S) j) invnorm) leaves

      kernel_projection : written (K.action.n - 1) (kernel_projected K v invnorm S) S ≡ projection M p v invnorm S
      unfolding measurement_kernel pauli_action projection
      kernel_projection =
          ap (λ (k : MeasurementKernel). written (k.action.n - 1) (kernel_projected k v invnorm S) S) e
          ∙ ap (λ (F : ℕ → Point). written (M.n - 1) F S) projects

      kernel_scratch_lem : (scratch : State) → kernel_scratch K v invnorm S scratch ≡ scratch_after M p v invnorm S scratch
      unfolding measurement_kernel pauli_action kernel_scratch scratch_after scratch_by
      kernel_scratch_lem scratch =
          ap (λ (k : MeasurementKernel). kernel_scratch k v invnorm S scratch) e
          ∙ ap (λ (F : ℕ → Point). cond (eqb M.x 0) scratch (written (M.n - 1) F scratch)) projects
          ∙ go (eqb M.x 0)
        where
          go : (t : Bool) → cond t scratch (written (M.n - 1) (projected binary M p v invnorm (point S)) scratch) ≡ scratch_by t M p v invnorm S scratch
          go true = refl
          go false = refl

  pub kernel_memory_lem : (K : MeasurementKernel) → K ≡ measurement_kernel M p → (v : ℕ) (invnorm : Float) (m : Memory)
      → kernel_memory K v invnorm m ≡ projected_memory M p v invnorm m
  kernel_memory_lem K e v invnorm m =
      memory_same (kernel_projection K e v m.state invnorm) (kernel_scratch_lem K e v m.state invnorm m.scratch)
