-- What the field read at a cursor says about the run.
use Rattle.std.specs.Prelude.{◌≡◌, Bool, true, false, cond, List, leb, ltb, eqb, Float}
use Rattle.std.proofs.Math.Path.{refl, subst}
use Rattle.std.proofs.Common.{ap, arith, length-take, length-drop}
use Rattle.std.proofs.Math.Option.{Option, none, some}
use Prim.Native.Nat.{ℕ, zero, suc, ◌+◌, ◌≤◌}
use Rattle.std.proofs.Math.ListN.{length}
use borrow.Author.Tests.{leb-true, lt-leb, le-ltb, ltb-false, eqb-true}
use Rattle.paulilaws.specs.Fitting.{both_left, both_right}
use Rattle.amplitudelaws.specs.Step.{Step, width_after}
use Rattle.amplitudelaws.specs.Step.Step.{rotation, promotion, projection, correction, quarter_turn}
use Rattle.framelaws.specs.Caller.{Caller}
use Rattle.framelaws.specs.Rows.{step_row}
use Rattle.framelaws.specs.Allowed.{Placed}
use Rattle.framelaws.specs.Passing.{width_kept}
use Rattle.runlaws.specs.Bytes.{byte_at, float_at, pauli_at, part}
use Rattle.runlaws.specs.Field.{Field, most_bytes, body_length, is_whole, field_at}
use Rattle.runlaws.specs.Flags.{field_size}
use Rattle.runlaws.specs.Reading.{Cursor, Read, is_field, decoded, unless, judged_by, judged, read_field, read_at}
use Rattle.runlaws.specs.Reading.Read.{step_read, end_read, refused_read}

-- what holds of either side under its test holds of the side that is taken
pub by_test : {A : Type 0} (P : A → Type 0) (q : Bool) {a b : A} → (q ≡ true → P a) → (q ≡ false → P b) → P (cond q a b)
by_test P true f g = f refl
by_test P false f g = g refl

-- ---- fields

-- a field that stands whole in the run
pub record Whole (s : List ℕ) (at : ℕ) (f : Field) : Type 0 where
  pub tag : f.tag ≡ byte_at s at
  pub body : f.body ≡ part (at + 3) (body_length s at) s
  pub size : length f.body ≡ body_length s at
  pub next : f.next ≡ at + 3 + body_length s at
  pub inside : at + 3 + body_length s at ≤ length s

module _ (s : List ℕ) (at : ℕ) where
  WholeOr : Option Field → Type 0
  WholeOr none = Unit
  WholeOr (some f) = Whole s at f

  pub field_whole : (f : Field) → field_at s at ≡ some f → Whole s at f
  unfolding field_at is_whole WholeOr
  field_whole f e = subst WholeOr e
      (by_test WholeOr (leb (at + 3 + body_length s at) (length s))
      (λ h.
      let inside : at + 3 + body_length s at ≤ length s = leb-true (at + 3 + body_length s at) (length s) h in
      record { tag = refl; body = refl; size = simp (length-take, length-drop) (omega arith); next = refl; inside = inside })
      (λ h. tt))

  -- nothing stands past the end
  pub field_past : length s ≤ at → field_at s at ≡ none
  unfolding field_at is_whole
  field_past h = rw (lt-leb (at + 3 + body_length s at) (length s) (omega arith))

-- the fields that are steps, and their steps
pub data Decodes (n : ℕ) (f : Field) : Step Float → Type 0 where
  rotates : f.tag ≡ 2 → length f.body ≡ 34
      → Decodes n f (rotation (pauli_at n f.body) (byte_at f.body 17) (float_at f.body 18) (float_at f.body 26))
  promotes : f.tag ≡ 3 → length f.body ≡ 16 → Decodes n f (promotion (float_at f.body 0) (float_at f.body 8))
  projects : f.tag ≡ 4 → length f.body ≡ 27
      → Decodes n f (projection (pauli_at n f.body) (byte_at f.body 17) (byte_at f.body 18) (float_at f.body 19))
  corrects : f.tag ≡ 5 → length f.body ≡ 17 → Decodes n f (correction (pauli_at n f.body))
  quarter_turns : f.tag ≡ 7 → length f.body ≡ 17 → Decodes n f (quarter_turn (pauli_at n f.body))

module _ (n : ℕ) (f : Field) where
  DecodesOr : Option (Step Float) → Type 0
  DecodesOr none = Unit
  DecodesOr (some t) = Decodes n f t

  pub has_tag : (tag size : ℕ) → is_field tag size f ≡ true → f.tag ≡ tag
  has_tag tag size h = eqb-true f.tag tag (both_left (eqb f.tag tag) (eqb (length f.body) size) h)

  pub has_size : (tag size : ℕ) → is_field tag size f ≡ true → length f.body ≡ size
  has_size tag size h = eqb-true (length f.body) size (both_right (eqb f.tag tag) (eqb (length f.body) size) h)

  pub decodes : (t : Step Float) → decoded n f ≡ some t → Decodes n f t
  unfolding decoded DecodesOr
  decodes t e = subst DecodesOr e
      (by_test DecodesOr (is_field 2 34 f) (λ h. rotates (has_tag 2 34 h) (has_size 2 34 h))
      (λ _. by_test DecodesOr (is_field 3 16 f) (λ h. promotes (has_tag 3 16 h) (has_size 3 16 h))
      (λ _. by_test DecodesOr (is_field 4 27 f) (λ h. projects (has_tag 4 27 h) (has_size 4 27 h))
      (λ _. by_test DecodesOr (is_field 5 17 f) (λ h. corrects (has_tag 5 17 h) (has_size 5 17 h))
      (λ _. by_test DecodesOr (is_field 7 17 f) (λ h. quarter_turns (has_tag 7 17 h) (has_size 7 17 h)) (λ _. tt))))))

-- and back: a field that is a step is read as it
pub read_decodes : (caller : Caller) (c : Cursor) (f : Field) {t : Step Float} → Decodes c.width f t → step_row caller c.width t ≡ 0
    → read_field caller c (some f) ≡ step_read t (record { at = f.next; width = width_after c.width t })
unfolding read_field judged judged_by unless decoded
read_decodes caller c f (rotates tag size) h = rw (tag, size, h)
read_decodes caller c f (promotes tag size) h = rw (tag, size, h)
read_decodes caller c f (projects tag size) h = rw (tag, size, h)
read_decodes caller c f (corrects tag size) h = rw (tag, size, h)
read_decodes caller c f (quarter_turns tag size) h = rw (tag, size, h)

pub decodes_size : {n : ℕ} {f : Field} {t : Step Float} → Decodes n f t → field_size t ≡ 3 + length f.body
unfolding field_size
decodes_size (rotates tag size) = rw size
decodes_size (promotes tag size) = rw size
decodes_size (projects tag size) = rw size
decodes_size (corrects tag size) = rw size
decodes_size (quarter_turns tag size) = rw size

decodes_placed : {n : ℕ} {f : Field} {t : Step Float} → Decodes n f t → Placed n t
unfolding pauli_at
decodes_placed (rotates tag size) = refl
decodes_placed (promotes tag size) = tt
decodes_placed (projects tag size) = refl
decodes_placed (corrects tag size) = refl
decodes_placed (quarter_turns tag size) = refl

-- ---- reads

-- in a run that is not too long, at a width within the caller's greatest, the field alone decides
pub read_within : (caller : Caller) (s : List ℕ) (c : Cursor) → length s ≤ most_bytes → c.width ≤ caller.widest → read_at caller s c ≡ read_field caller c (field_at s c.at)
unfolding read_at
read_within caller s c short within = rw (le-ltb most_bytes (length s) short, le-ltb caller.widest c.width within)

-- a field at the cursor that is read as a step
pub record StepField (caller : Caller) (s : List ℕ) (c d : Cursor) (t : Step Float) : Type 0 where
  pub short : length s ≤ most_bytes
  pub within : c.width ≤ caller.widest
  pub field : Field
  pub here : field_at s c.at ≡ some field
  pub is : Decodes c.width field t
  pub row : step_row caller c.width t ≡ 0
  pub behind : d ≡ record { at = field.next; width = width_after c.width t }

-- the end field, read at the cursor
pub record EndField (caller : Caller) (s : List ℕ) (c d : Cursor) : Type 0 where
  pub short : length s ≤ most_bytes
  pub within : c.width ≤ caller.widest
  pub field : Field
  pub here : field_at s c.at ≡ some field
  pub tag : field.tag ≡ 6
  pub bare : length field.body ≡ 0
  pub behind : d ≡ record { at = field.next; width = c.width }

pub record StepRead (caller : Caller) (s : List ℕ) (c : Cursor) (t : Step Float) (d : Cursor) : Type 0 where
  pub next : d.at ≡ c.at + field_size t
  pub inside : d.at ≤ length s
  pub width : d.width ≡ width_after c.width t
  pub within : d.width ≤ caller.widest
  pub row : step_row caller c.width t ≡ 0
  pub placed : Placed c.width t

module _ (caller : Caller) (s : List ℕ) (c : Cursor) where
  FieldOr : Read → Type 0
  FieldOr (step_read t d) = StepField caller s c d t
  FieldOr (end_read d) = EndField caller s c d
  FieldOr (refused_read n at) = Unit

  module _ (short : length s ≤ most_bytes) (within : c.width ≤ caller.widest) (f : Field) (here : field_at s c.at ≡ some f) where
    row_read : (t : Step Float) → Decodes c.width f t → (r : ℕ) → step_row caller c.width t ≡ r → FieldOr (judged_by r c f.next t)
    unfolding FieldOr judged_by unless
    row_read t is zero e = record { short = short; within = within; field = f; here = here; is = is; row = e; behind = refl }
    row_read t is (suc r) e = tt

    judged_read : (o : Option (Step Float)) → decoded c.width f ≡ o → FieldOr (judged caller c f.next o)
    unfolding FieldOr judged
    judged_read none e = tt
    judged_read (some t) e = row_read t (decodes c.width f t e) (step_row caller c.width t) refl

    end_read_lem : is_field 6 0 f ≡ true → EndField caller s c (record { at = f.next; width = c.width })
    end_read_lem h = record {
      short = short;
      within = within;
      field = f;
      here = here;
      tag = has_tag c.width f 6 0 h;
      bare = has_size c.width f 6 0 h;
      behind = refl;
    }

  field_read : length s ≤ most_bytes → c.width ≤ caller.widest → (o : Option Field) → field_at s c.at ≡ o → FieldOr (read_field caller c o)
  unfolding FieldOr read_field
  field_read short within none e = tt
  field_read short within (some f) e =
      by_test FieldOr (is_field 6 0 f) (end_read_lem short within f e) (λ h. judged_read short within f e (decoded c.width f) refl)

  read_field_lem : FieldOr (read_at caller s c)
  unfolding FieldOr read_at
  read_field_lem =
      by_test FieldOr (ltb most_bytes (length s)) (λ h. tt)
      (λ h. by_test FieldOr (ltb caller.widest c.width) (λ k. tt)
      (λ k. field_read (ltb-false most_bytes (length s) h) (ltb-false caller.widest c.width k) (field_at s c.at) refl))

  pub step_field : (d : Cursor) (t : Step Float) → read_at caller s c ≡ step_read t d → StepField caller s c d t
  unfolding FieldOr
  step_field d t e = subst FieldOr e read_field_lem

  pub end_field : (d : Cursor) → read_at caller s c ≡ end_read d → EndField caller s c d
  unfolding FieldOr
  end_field d e = subst FieldOr e read_field_lem

  pub step_read_lem : (d : Cursor) (t : Step Float) → read_at caller s c ≡ step_read t d → StepRead caller s c t d
  step_read_lem d t e =
      let k = step_field d t e in
      let w = field_whole s c.at k.field k.here in
      let at : d.at ≡ k.field.next = ap (λ (d : Cursor). d.at) k.behind in
      let width : d.width ≡ width_after c.width t = ap (λ (d : Cursor). d.width) k.behind in
      record {
        next = omega (arith, at, w.next, w.size, decodes_size k.is);
        inside = omega (arith, at, w.next, w.inside);
        width = width;
        within = rw width (width_kept caller c.width t k.within k.row);
        row = k.row;
        placed = decodes_placed k.is;
      }

pub size_ge : (t : Step Float) → 3 ≤ field_size t
unfolding field_size
size_ge (rotation P sign c s) = omega arith
size_ge (promotion c q) = omega arith
size_ge (projection M p v invnorm) = omega arith
size_ge (correction P) = omega arith
size_ge (quarter_turn P) = omega arith
