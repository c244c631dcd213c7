-- By which numbers a run is refused: what holds of the rows up to 14, and of a caller's own two, holds of every number by which a run of that caller's is refused. So
-- 21 is the emulator's alone, and 15 is not the emulator's.
use Rattle.std.specs.Prelude.{◌≡◌, refl, Bool, List, ltb, Float, length}
use Rattle.std.proofs.Math.Bool.{true, false}
use Rattle.std.proofs.Math.Option.{Option, none, some}
use Prim.Native.Nat.{ℕ, zero, suc, ◌≤◌}
use Rattle.std.proofs.Common.{le_refl, arith, lit≤}
use Rattle.answers.specs.Answer.{Answer}
use Rattle.answers.specs.Answer.Answer.{accepted, refused, refused_at}
use Rattle.answers.specs.Row.{row, first, answered}
use Rattle.amplitudelaws.specs.Rows.{width_row, hermitian_row, unit_row, rotation_kernel_row, pivot_row, measurement_row, promoted_width_row, room_row}
use Rattle.amplitudelaws.specs.Step.{Step}
use Rattle.amplitudelaws.specs.Step.Step.{rotation, promotion, projection, correction, quarter_turn}
use Rattle.framelaws.specs.Caller.{Caller, service_within, emulator}
use Rattle.framelaws.specs.Memory.{Memory, ran}
use Rattle.framelaws.specs.Rows.{rotation_step_row, projection_step_row, promotion_step_row, step_row}
use Rattle.runlaws.specs.Calls.{ending_of, on_run, by_row, memory_row, survey_of, running}
use Rattle.runlaws.specs.Field.{Field, most_bytes, field_at}
use Rattle.runlaws.specs.Fields.{by_test}
use Rattle.runlaws.specs.Reading.{Cursor, Read, is_field, unless, judged_by, judged, decoded, read_field, read_at}
use Rattle.runlaws.specs.Reading.Read.{step_read, end_read, refused_read}
use Rattle.runlaws.specs.Run.{Run, mapped, ended, follow, walk, start_width, begun, run_of}
use Rattle.runlaws.specs.Numbers.{Refusals}

-- ---- what refuses has the property

module _ (P : ℕ → Type 0) where
  unfoldable ReadRefusals : Read → Type 0
  ReadRefusals (step_read t c) = Unit
  ReadRefusals (end_read c) = Unit
  ReadRefusals (refused_read n at) = P n

  row_has : (t : Bool) (n rest : ℕ) → P n → P rest → P (row t n rest)
  unfolding row
  row_has true n rest h r = h
  row_has false n rest h r = r

  first_has : (a b : ℕ) → P a → P b → P (first a b)
  unfolding first
  first_has zero b h k = k
  first_has (suc a) b h k = h

  unless_has : (row at : ℕ) (t : Step Float) (c : Cursor) → P row → ReadRefusals (unless row at (step_read t c))
  unfolding ReadRefusals unless
  unless_has zero at t c h = tt
  unless_has (suc row) at t c h = h

  mapped_has : {A B : Type 0} (f : A → B) (a : Answer A) → Refusals P a → Refusals P (mapped f a)
  unfolding Refusals mapped
  mapped_has f (accepted a) h = tt
  mapped_has f (refused n) h = h
  mapped_has f (refused_at n at) h = h

  answered_has : {A : Type 0} (r : ℕ) (a : A) → P r → Refusals P (answered r a)
  unfolding answered Refusals
  answered_has zero a h = tt
  answered_has (suc r) a h = h

-- ---- of every row that a run of a caller's meets

module _ (caller : Caller) (P : ℕ → Type 0) (low : (n : ℕ) → n ≤ 14 → P n) (start : P caller.start_row) (promoted : P caller.promotion_row) where
  step_has : (n : ℕ) (t : Step Float) → P (step_row caller n t)
  unfolding step_row rotation_step_row projection_step_row promotion_step_row width_row hermitian_row unit_row rotation_kernel_row pivot_row measurement_row promoted_width_row
  step_has n (rotation Q sign c s) = search (first_has P, row_has P, low, lit≤) depth 14
  step_has n (promotion c q) = search (first_has P, row_has P, promoted, low, lit≤) depth 14
  step_has n (projection M p v invnorm) = search (first_has P, row_has P, low, lit≤) depth 14
  step_has n (correction Q) = search (row_has P, low, lit≤) depth 6
  step_has n (quarter_turn Q) = search (first_has P, row_has P, low, lit≤) depth 14

  fourteen : P 14
  fourteen = low 14 (le_refl 14)

  module _ (s : List ℕ) where
    judged_has : (c : Cursor) (next : ℕ) (o : Option (Step Float)) → ReadRefusals P (judged caller c next o)
    unfolding ReadRefusals judged judged_by
    judged_has c next none = fourteen
    judged_has c next (some t) = unless_has P (step_row caller c.width t) c.at t _ (step_has c.width t)

    field_has : (c : Cursor) (o : Option Field) → ReadRefusals P (read_field caller c o)
    unfolding ReadRefusals read_field
    field_has c none = fourteen
    field_has c (some f) = by_test (ReadRefusals P) (is_field 6 0 f) (λ e. tt) (λ e. judged_has c f.next (decoded c.width f))

    read_has : (c : Cursor) → ReadRefusals P (read_at caller s c)
    unfolding ReadRefusals read_at
    read_has c =
        by_test (ReadRefusals P) (ltb most_bytes (length s)) (λ e. fourteen)
        (λ e. by_test (ReadRefusals P) (ltb caller.widest c.width) (λ e. fourteen) (λ e. field_has c (field_at s c.at)))

    follow_has : (r : Read) (rest : Cursor → Answer (List (Step Float))) → ReadRefusals P r → ((c : Cursor) → Refusals P (rest c)) → Refusals P (follow s r rest)
    unfolding ReadRefusals follow ended Refusals
    follow_has (step_read t c) rest h g = mapped_has P _ (rest c) (g c)
    follow_has (end_read c) rest h g = by_test (Refusals P) (ltb c.at (length s)) (λ e. fourteen) (λ e. tt)
    follow_has (refused_read n at) rest h g = h

    walk_has : (fuel : ℕ) (c : Cursor) → Refusals P (walk caller fuel s c)
    unfolding walk Refusals
    walk_has zero c = fourteen
    walk_has (suc fuel) c = follow_has (read_at caller s c) (walk caller fuel s) (read_has c) (walk_has fuel)

    begun_has : (o : Option ℕ) → Refusals P (begun caller s o)
    unfolding begun Refusals
    begun_has none = fourteen
    begun_has (some n) = by_test (Refusals P) (ltb caller.widest n) (λ e. start) (λ e. mapped_has P _ (walk caller (length s) s _) (walk_has (length s) _))

    pub run_has : Refusals P (run_of caller s)
    unfolding run_of Refusals
    run_has = by_test (Refusals P) (ltb most_bytes (length s)) (λ e. fourteen) (λ e. begun_has (start_width (field_at s 0)))

    pub running_has : (m : Memory) → Refusals P (running caller s m).answer
    unfolding running on_run memory_row room_row Refusals
    running_has m = by (run_of caller s) run_has
      where
        by : (a : Answer Run) → Refusals P a → Refusals P (on_run a m (λ R. by_row (memory_row (survey_of R) m) (ending_of (survey_of R)) (ran R.width R.steps m) m)).answer
        by (accepted R) h = answered_has P (memory_row (survey_of R) m) (ending_of (survey_of R)) (row_has P _ 13 0 (low 13 (lit≤ tt)) (low 0 (lit≤ tt)))
        by (refused n) h = h
        by (refused_at n at) h = h

-- ---- the service's and the emulator's

-- under any limit the service's numbers are 15 at most
pub service_most : (limit : ℕ) (s : List ℕ) (m : Memory) → Refusals (λ n. n ≤ 15) (running (service_within limit) s m).answer
service_most limit s m = running_has (service_within limit) (λ n. n ≤ 15) (λ n h. omega (arith, h)) (lit≤ tt) (lit≤ tt) s m

-- so the service never answers 21, and the emulator never 15
pub only_the_emulator : (limit : ℕ) (s : List ℕ) (at : ℕ) → run_of (service_within limit) s ≡ refused_at 21 at → ⊥
unfolding Refusals
only_the_emulator limit s at e =
    let most : 21 ≤ 15 = rw e at (run_has (service_within limit) (λ n. n ≤ 15) (λ n h. omega (arith, h)) (lit≤ tt) (lit≤ tt) s) in omega arith

pub only_the_service : (s : List ℕ) (at : ℕ) → run_of emulator s ≡ refused_at 15 at → ⊥
unfolding Refusals
only_the_service s at e =
    let other : ◌≡◌ {A = ℕ} 15 15 → ⊥ = rw e at (run_has emulator (λ (n : ℕ). n ≡ 15 → ⊥) (λ n h e. omega arith) (λ e. omega arith) (λ e. omega arith) s) in other refl
