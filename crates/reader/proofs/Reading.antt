-- A field is read by its step, or by the row that refuses it; a run, by the field at the cursor.
use mathlib.Core.Path.{◌≡◌, refl, sym, ap, ◌∙◌}
use mathlib.Core.Bool.{Bool, true, false, cond}
use mathlib.Core.List.{List}
use mathlib.Core.Option.{Option, none, some}
use Prim.Native.Nat.{ℕ, zero, suc, ◌≤◌, ◌<◌}
use native.Mathlib.Omega.{arith}
use lib.Dec.{ltb, lit<}
use lib.Ieee.{Float}
use lib.ListN.{length}
use borrow.Author.Tests.{ltb-false, lt-ltb, le-ltb}
use Rattle.std.specs.Prelude.{Result, Ok, Err}
use Rattle.std.specs.Result.{IsErrAnd, MatchResult}
use Rattle.answers.specs.Answer.Answer.{accepted, refused, refused_at}
use Rattle.answers.specs.Row.{row, refused_accepted, refused_at_accepted, refused_row, accepted_row, first_passed, row_passed}
use Rattle.paulilaws.specs.Pauli.{most_qubits}
use Rattle.amplitudelaws.specs.Rows.{widest_promotion, promoted_width_row, measurement_row}
use Rattle.amplitudelaws.proofs.Passed.{measurement_passed}
use Rattle.amplitudelaws.specs.Step.{Step, width_after}
use Rattle.framelaws.specs.Caller.{Caller}
use Rattle.framelaws.specs.Rows.{step_row, promotion_step_row, projection_step_row}
use Rattle.refusals.specs.declared.Row.{Row}
use Rattle.refusals.specs.declared.RowAt.{RowAt}
use Rattle.refusals.specs.Refusal.{number_of}
use Rattle.runlaws.specs.Bytes.{pauli_at}
use Rattle.runlaws.specs.Field.{Field, most_bytes, field_at}
use Rattle.runlaws.specs.Fields.{Decodes, rotates, promotes, projects, corrects, quarter_turns, decodes, read_within}
use Rattle.runlaws.specs.Reading.{Cursor, Read, is_field, decoded, unless, judged, judged_by, read_field, read_at}
use Rattle.runlaws.specs.Reading.Read.{step_read, end_read, refused_read}
use Rattle.steps.specs.declared.Read as declared
use Rattle.steps.specs.declared.Read.TheVariants as read
use Rattle.steps.specs.Meaning.{read_of}
use Rattle.fields.specs.Meaning.{field_in, place_in, head_call}
use Rattle.fields.proofs.Fields.{field_in_lem}
use Rattle.reader.specs.Meaning.{Narrowable, step_call, read_placed}

-- ---- a field by its step

module _ (caller : Caller) (c : Cursor) (next : ℕ) where
  judged_step : (o : Option (Step Float)) (t : Step Float) → accepted t ≡ step_call caller c.width o
      → step_read t (record { at = next; width = width_after c.width t }) ≡ judged caller c next o
  unfolding step_call judged judged_by unless
  judged_step none t h = absurd (refused_accepted (sym h))
  judged_step (some u) t h = let k = accepted_row _ _ _ h in rw (k.0, k.1)

  unless_some : (n : ℕ) (r : Read) → 0 < n → refused_read n c.at ≡ unless n c.at r
  unfolding unless
  unless_some zero r h = absurd (omega arith)
  unless_some (suc n) r h = refl

  judged_refused : (o : Option (Step Float)) (n : ℕ) → refused n ≡ step_call caller c.width o → refused_read n c.at ≡ judged caller c next o
  unfolding step_call judged judged_by
  judged_refused none n h = let e : n ≡ 14 = cc in rw e
  judged_refused (some u) n h = let k = refused_row _ _ _ h in rw k.0 (unless_some n _ k.1)

module _ (caller : Caller) (c : Cursor) (f : Field) where
  pub end_field : is_field 6 0 f ≡ true → end_read (record { at = f.next; width = c.width }) ≡ read_field caller c (some f)
  unfolding read_field
  end_field h = rw h

  module _ (other : is_field 6 0 f ≡ false) where
    by_step : judged caller c f.next (decoded c.width f) ≡ read_field caller c (some f)
    unfolding read_field
    by_step = rw other

    pub step_field : (t : Step Float) (w : ℕ) → accepted t ≡ step_call caller c.width (decoded c.width f) → w ≡ width_after c.width t
        → step_read t (record { at = f.next; width = w }) ≡ read_field caller c (some f)
    step_field t w h is = rw is (judged_step caller c f.next (decoded c.width f) t h ∙ by_step)

    pub refused_field : (n : ℕ) → refused n ≡ step_call caller c.width (decoded c.width f) → refused_read n c.at ≡ read_field caller c (some f)
    refused_field n h = judged_refused caller c f.next (decoded c.width f) n h ∙ by_step

-- a step that no row refuses has room for the width behind it
decoded_narrowable : (caller : Caller) {n : ℕ} {f : Field} {t : Step Float} → Decodes n f t → step_row caller n t ≡ 0 → Narrowable n t
unfolding step_row promotion_step_row promoted_width_row projection_step_row pauli_at
decoded_narrowable caller (rotates tag size) e = tt
decoded_narrowable caller {n} (promotes tag size) e =
    let w = first_passed (row (ltb most_qubits n) 3 0) (row (ltb widest_promotion n) 6 0) (first_passed (promoted_width_row n) _ e).0 in
    omega (arith, ltb-false widest_promotion n (row_passed (ltb widest_promotion n) 6 0 (lit< tt) w.1).0)
decoded_narrowable caller (projects tag size) e =
    let m = measurement_passed _ _ _ (first_passed (measurement_row _ _ _) _ e).0 in
    omega (arith, m.2.inside)
decoded_narrowable caller (corrects tag size) e = tt
decoded_narrowable caller (quarter_turns tag size) e = tt

pub narrowable : (caller : Caller) (n : ℕ) (f : Field) (t : Step Float) → accepted t ≡ step_call caller n (decoded n f) → Narrowable n t
unfolding step_call
narrowable caller n f t h = go (decoded n f) refl h
  where
    go : (o : Option (Step Float)) → decoded n f ≡ o → accepted t ≡ step_call caller n o → Narrowable n t
    go none e h = absurd (refused_accepted (sym h))
    go (some u) e h = let k = accepted_row _ _ _ h in rw k.1 (decoded_narrowable caller (decodes n f u e) k.0)

-- ---- the place of a refusal

pub placed_err : (at : ℕ) (x : Result declared.Read Row) (e : Row) → IsErrAnd x (λ r. r ≡ e) → read_placed at x ≡ refused_read (number_of e) at
placed_err at (Ok r) e h = absurd h
placed_err at (Err r) e h = ap (λ (r : Row). refused_read (number_of r) at) h

pub read_err : (x : Result declared.Read RowAt) (p : RowAt) → IsErrAnd x (λ r. r ≡ p) → read_of x ≡ refused_read (number_of p.row) p.at
read_err (Ok r) p h = absurd h
read_err (Err r) p h = ap (λ (p : RowAt). refused_read (number_of p.row) p.at) h

read_same : (at : ℕ) (r : declared.Read) → read_of (Ok r) ≡ read_placed at (Ok r)
read_same at (read.Step t d) = refl
read_same at (read.End d) = refl

-- the code's own words for that, P being what is known of the place that a row is given
pub placed : (at : ℕ) (x : Result declared.Read Row) (y : Result declared.Read RowAt) (P : Row → RowAt → Type 0) → ((e : Row) (p : RowAt) → P e p → p ≡ record { row = e; at = at })
    → MatchResult x (λ r. y ≡ Ok r) (λ e. IsErrAnd y (P e)) → read_of y ≡ read_placed at x
placed at (Ok r) y P told h = rw h (read_same at r)
placed at (Err e) (Ok r) P told h = absurd h
placed at (Err e) (Err p) P told h = ap (λ (p : RowAt). refused_read (number_of p.row) p.at) (told e p h)

-- ---- a run by the field at the cursor

module _ (caller : Caller) (s : List ℕ) (c : Cursor) where
  cut : {n at : ℕ} (place : ℕ) (o : Option Field) → refused_at n at ≡ head_call place o → (n ≡ 14) × (at ≡ place) × (o ≡ none)
  unfolding head_call
  cut place none h = (cc, cc, refl)
  cut place (some f) h = absurd (refused_at_accepted h)

  wherever : (q : Bool) → refused_read 14 c.at ≡ cond q (refused_read 14 c.at) (refused_read 14 c.at)
  wherever true = refl
  wherever false = refl

  -- no field
  pub no_field : {n at : ℕ} → refused_at n at ≡ head_call (place_in s c.at) (field_in s c.at) → refused_read n at ≡ read_at caller s c
  unfolding place_in field_in read_at read_field
  no_field {n} {at} h = go (ltb most_bytes (length s)) h
    where
      go : (q : Bool) → refused_at n at ≡ head_call (cond q 0 c.at) (cond q none (field_at s c.at))
          → refused_read n at ≡ cond q (refused_read 14 0) (cond (ltb caller.widest c.width) (refused_read 14 c.at) (read_field caller c (field_at s c.at)))
      go true h = let k = cut 0 none h in rw (k.0, k.1)
      go false h = let k = cut c.at (field_at s c.at) h in rw (k.0, k.1, k.2) (wherever (ltb caller.widest c.width))

  module _ (short : length s ≤ most_bytes) where
    -- a width past the caller's greatest
    pub too_wide : caller.widest < c.width → refused_read 14 c.at ≡ read_at caller s c
    unfolding read_at
    too_wide wide = rw (le-ltb most_bytes (length s) short, lt-ltb caller.widest c.width wide)

    pub field_read : (f : Field) → field_in s c.at ≡ some f → c.width ≤ caller.widest → read_field caller c (some f) ≡ read_at caller s c
    field_read f here within = sym (read_within caller s c short within ∙ ap (read_field caller c) (sym (field_in_lem s c.at short) ∙ here))
