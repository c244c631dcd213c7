-- What a refusal tells is small: its number is one of a byte, its place one in the run or in the text.
use Rattle.std.specs.Prelude.{◌≡◌, Bool, true, false, not, List, [], ◌∷◌, ltb, eqb, Float, length}
use Rattle.std.proofs.Math.Path.{refl}
use Rattle.std.proofs.Math.Option.{Option, none, some}
use Prim.Native.Nat.{ℕ, zero, suc, ◌+◌, ◌≤◌, ◌<◌}
use native.Mathlib.Omega.{arith}
use Rattle.std.proofs.Common.{lit≤}
use Rattle.std.proofs.Math.ListN.{get_elem?}
use borrow.Author.Tests.{ltb-true, ltb-false}
use Rattle.answers.specs.Answer.{Answer, refuse}
use Rattle.answers.specs.Answer.Answer.{accepted, refused, refused_at}
use Rattle.answers.specs.Row.{row, answered}
use Rattle.paulilaws.specs.Pauli.{Pauli, fits, identity, most_qubits}
use Rattle.paulilaws.specs.Letter.{Letter, with_letter}
use Rattle.paulitext.specs.Calls.{read_call}
use Rattle.paulitext.specs.Text.{letter_of_byte, on_letter, reading}
use Rattle.amplitudelaws.specs.Step.{Step}
use Rattle.framelaws.specs.Caller.{Caller, service}
use Rattle.framelaws.specs.PassRow.{placed_row}
use Rattle.framelaws.specs.Reporting.{Framed}
use Rattle.framelaws.specs.Rows.{step_row}
use Rattle.runlaws.specs.Calls.{Frames, on_run, of_run, frames_of, framing, found, finding}
use Rattle.runlaws.specs.Field.{Field, most_bytes, field_at}
use Rattle.runlaws.specs.Fields.{by_test, step_read_lem}
use Rattle.runlaws.specs.Numbers.{Refusals}
use Rattle.runlaws.proofs.Numbers.{run_has}
use Rattle.runlaws.specs.Reading.{Cursor, Read, is_field, unless, judged_by, judged, decoded, read_field, read_at}
use Rattle.runlaws.specs.Reading.Read.{step_read, end_read, refused_read}
use Rattle.runlaws.specs.Run.{Run, mapped, chained, ended, follow, walk, start_width, begun, run_of}

unfoldable pub Small : {A : Type 0} → Answer A → Type 0
Small (accepted a) = Unit
Small (refused n) = n < 256
Small (refused_at n at) = (n < 256) × (at ≤ most_bytes)

-- ---- a Pauli's text

reading_small : (q : ℕ) (bs : List ℕ) (P : Pauli) → q + length bs ≤ most_qubits → Small (reading q bs P)
unfolding reading Small
reading_small q [] P h = tt
reading_small q (b ∷ bs) P h = by (letter_of_byte b) (λ l. reading_small (suc q) bs (with_letter q l P) (omega (arith, h)))
  where
    by : (o : Option Letter) → ((l : Letter) → Small (reading (suc q) bs (with_letter q l P)))
        → Small (on_letter o (refused_at 2 q) (λ l. reading (suc q) bs (with_letter q l P)))
    by none rest = (omega arith, omega (arith, h))
    by (some l) rest = rest l

pub read_small : (s : List ℕ) → Small (read_call s)
unfolding read_call refuse Small
read_small s = by (ltb most_qubits (length s)) refl
  where
    by : (t : Bool) → ltb most_qubits (length s) ≡ t → Small (refuse t 1 (reading 0 s (identity (length s))))
    by true e = omega arith
    by false e = reading_small 0 s (identity (length s)) (omega (arith, ltb-false most_qubits (length s) e))

-- ---- the places of a run's refusals: no field begins behind the run's end

Near : {A : Type 0} → ℕ → Answer A → Type 0
Near most (accepted a) = Unit
Near most (refused n) = Unit
Near most (refused_at n at) = at ≤ most

mapped_near : {A B : Type 0} (most : ℕ) (f : A → B) (a : Answer A) → Near most a → Near most (mapped f a)
unfolding mapped Near
mapped_near most f (accepted a) h = tt
mapped_near most f (refused n) h = tt
mapped_near most f (refused_at n at) h = h

module _ (caller : Caller) (s : List ℕ) where
  -- where a read refuses, it is at the cursor or at 0
  ReadNear : ℕ → Read → Type 0
  ReadNear at (step_read t d) = Unit
  ReadNear at (end_read d) = Unit
  ReadNear at (refused_read n place) = place ≤ at

  unless_near : (row at : ℕ) (t : Step Float) (d : Cursor) → ReadNear at (unless row at (step_read t d))
  unfolding ReadNear unless
  unless_near zero at t d = tt
  unless_near (suc row) at t d = omega arith

  judged_near : (c : Cursor) (next : ℕ) (o : Option (Step Float)) → ReadNear c.at (judged caller c next o)
  unfolding ReadNear judged judged_by
  judged_near c next none = omega arith
  judged_near c next (some t) = unless_near (step_row caller c.width t) c.at t _

  field_near : (c : Cursor) (o : Option Field) → ReadNear c.at (read_field caller c o)
  unfolding ReadNear read_field
  field_near c none = omega arith
  field_near c (some f) = by_test (ReadNear c.at) (is_field 6 0 f) (λ e. tt) (λ e. judged_near c f.next (decoded c.width f))

  read_near : (c : Cursor) → ReadNear c.at (read_at caller s c)
  unfolding ReadNear read_at
  read_near c =
      by_test (ReadNear c.at) (ltb most_bytes (length s)) (λ e. omega arith)
      (λ e. by_test (ReadNear c.at) (ltb caller.widest c.width) (λ e. omega arith) (λ e. field_near c (field_at s c.at)))

  module _ (most : ℕ) (short : length s ≤ most) where
    ended_near : (d : Cursor) → Near most (ended s d)
    unfolding ended Near
    ended_near d = by_test (Near most) (ltb d.at (length s)) (λ e. omega (arith, ltb-true d.at (length s) e, short)) (λ e. tt)

    follow_near : (c : Cursor) → c.at ≤ most → (r : Read) → read_at caller s c ≡ r → ReadNear c.at r → (rest : Cursor → Answer (List (Step Float)))
        → ((d : Cursor) → d.at ≤ most → Near most (rest d)) → Near most (follow s r rest)
    unfolding follow Near ReadNear
    follow_near c h (step_read t d) e near rest g = mapped_near most _ (rest d) (g d (omega (arith, (step_read_lem caller s c d t e).inside, short)))
    follow_near c h (end_read d) e near rest g = ended_near d
    follow_near c h (refused_read n at) e near rest g = omega (arith, h, near)

    walk_near : (fuel : ℕ) (c : Cursor) → c.at ≤ most → Near most (walk caller fuel s c)
    unfolding walk Near
    walk_near zero c h = h
    walk_near (suc fuel) c h = follow_near c h (read_at caller s c) refl (read_near c) (walk caller fuel s) (walk_near fuel)

    begun_near : 4 ≤ most → (o : Option ℕ) → Near most (begun caller s o)
    unfolding begun Near
    begun_near h none = omega arith
    begun_near h (some n) =
        by_test (Near most) (ltb caller.widest n) (λ e. omega arith) (λ e. mapped_near most _ (walk caller (length s) s _) (walk_near (length s) _ h))

  run_near : Near most_bytes (run_of caller s)
  unfolding run_of Near
  run_near =
      by_test (Near most_bytes) (ltb most_bytes (length s)) (λ e. omega arith)
      (λ e. begun_near most_bytes (ltb-false most_bytes (length s) e) (omega arith) (start_width (field_at s 0)))

-- ---- a run, and what is asked of it

run_small : (s : List ℕ) → Small (run_of service s)
unfolding Refusals Near Small
run_small s = by (run_of service s) (run_has service (λ n. n ≤ 15) (λ n h. omega (arith, h)) (lit≤ tt) (lit≤ tt) s) (run_near service s)
  where
    by : (a : Answer Run) → Refusals (λ n. n ≤ 15) a → Near most_bytes a → Small a
    by (accepted R) n p = tt
    by (refused r) n p = omega (arith, n)
    by (refused_at r at) n p = (omega (arith, n), p)

placed_small : (Q : Pauli) (R : Run) → Small (answered (placed_row Q R.width) (frames_of Q R))
unfolding placed_row row answered Small
placed_small Q R = by (not (fits Q)) (not (eqb Q.n R.width))
  where
    by : (t u : Bool) → Small (answered (row t 3 (row u 4 0)) (frames_of Q R))
    by true u = omega arith
    by false true = omega arith
    by false false = tt

pub framing_small : (s : List ℕ) (Q : Pauli) → Small (framing service s Q)
unfolding framing of_run on_run Small
framing_small s Q = by (run_of service s) (run_small s)
  where
    by : (a : Answer Run) → Small a → Small (of_run a (λ R. answered (placed_row Q R.width) (frames_of Q R)))
    by (accepted R) h = placed_small Q R
    by (refused n) h = h
    by (refused_at n at) h = h

pub finding_small : (s : List ℕ) (Q : Pauli) (i : ℕ) → Small (finding service s Q i)
unfolding finding chained found Small
finding_small s Q i = by (framing service s Q) (framing_small s Q)
  where
    found_small : (o : Option (Framed Float)) → Small (found o)
    found_small none = omega arith
    found_small (some f) = tt

    by : (a : Answer Frames) → Small a → Small (chained a (λ F. found (get_elem? F.steps i)))
    by (accepted F) h = found_small (get_elem? F.steps i)
    by (refused n) h = h
    by (refused_at n at) h = h
