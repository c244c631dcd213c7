-- The field at a place: cut or whole, and known by its head and its body.
use mathlib.Core.Path.{◌≡◌, refl, sym, ap, ◌∙◌}
use mathlib.Core.Bool.{Bool, true, false, cond}
use mathlib.Core.List.{List}
use mathlib.Core.Option.{Option, none, some, none-ne-some}
use Prim.Native.Nat.{ℕ, ◌+◌, ◌-◌, ◌*◌, ◌≤◌, ◌<◌}
use native.Mathlib.Omega.{arith}
use native.Mathlib.Nat.{add-zero, add-sub_cancel_left}
use lib.Dec.{ltb}
use lib.ListN.{length}
use borrow.Author.Tests.{leb-true, le-leb, lt-leb, lt-ltb, le-ltb, ltb-false, eq-eqb, ne_eqb}
use Rattle.answers.specs.Answer.Answer.{accepted, refused_at}
use Rattle.answers.specs.Row.{accepted_same, refused_at_accepted}
use Rattle.runlaws.specs.Bytes.{byte_at, part}
use Rattle.runlaws.specs.Field.{Field, most_bytes, body_length, is_whole, field_at}
use Rattle.runlaws.specs.Run.{start_width}
use Rattle.std.specs.List.{slice_range}
use Rattle.std.proofs.lemmas.List.{get_or-drop}
use Rattle.std.proofs.lemmas.Slice.{between_to_end}
use Rattle.fields.specs.Meaning.{Head, field_in, place_in, head_call, body_call, start_call}

-- what is asked for at `at` is the field of this head and this body
pub field_of : (at : ℕ) (f : Option Field) (tag next : ℕ) (body : List ℕ) → accepted (record { tag = tag; next = next }) ≡ head_call at f → body ≡ body_call f
    → f ≡ some (record { tag = tag; body = body; next = next })
unfolding head_call body_call
field_of at none tag next body h b = absurd (refused_at_accepted (sym h))
field_of at (some f) tag next body h b =
    let e = accepted_same h in
    let t : tag ≡ f.tag = ap (λ (a : Head). a.tag) e in
    let n : next ≡ f.next = ap (λ (a : Head). a.next) e in
    rw (t, n, b) refl

-- ---- a run that is not too long

module _ (s : List ℕ) (at : ℕ) (short : length s ≤ most_bytes) where
  pub field_in_lem : field_in s at ≡ field_at s at
  unfolding field_in
  field_in_lem = rw (le-ltb most_bytes (length s) short)

  place_in_lem : place_in s at ≡ at
  unfolding place_in
  place_in_lem = rw (le-ltb most_bytes (length s) short)

  head_in : head_call (place_in s at) (field_in s at) ≡ head_call at (field_at s at)
  head_in = rw (place_in_lem, field_in_lem)

-- a field is in no other
pub field_short : (s : List ℕ) (at : ℕ) (f : Field) → field_in s at ≡ some f → length s ≤ most_bytes
unfolding field_in
field_short s at f e = go (ltb most_bytes (length s)) refl e
  where
    go : (q : Bool) → ltb most_bytes (length s) ≡ q → cond q none (field_at s at) ≡ some f → length s ≤ most_bytes
    go true h e = absurd (none-ne-some _ e)
    go false h e = ltb-false most_bytes (length s) h

module _ (s : List ℕ) (at : ℕ) where
  pub head_long : most_bytes < length s → refused_at 14 0 ≡ head_call (place_in s at) (field_in s at)
  unfolding field_in place_in head_call
  head_long h = simp (lt-ltb _ _ h)

  -- the field at `at` where it is whole
  abbrev given : Field
  given = record { tag = byte_at s at; body = part (at + 3) (body_length s at) s; next = at + 3 + body_length s at }

  -- what the code reads in the part of the run from the tag on
  module _ (p : List ℕ) (is : p ≡ slice_range s at (length s)) where
    read : (i : ℕ) → byte_at p i ≡ byte_at s (at + i)
    read i = rw (is, between_to_end s at (length s) (omega arith)) (get_or-drop at s i 0)

    pub tag_read : byte_at p 0 ≡ byte_at s at
    tag_read = rw add-zero at (read 0)

    pub length_read : byte_at p 1 + byte_at p 2 * 256 ≡ body_length s at
    unfolding body_length
    length_read = omega (arith, read 1, read 2)

  cut : length s < at + 3 + body_length s at → refused_at 14 at ≡ head_call at (field_at s at)
  unfolding field_at is_whole head_call
  cut h = simp (lt-leb _ _ h)

  whole : at + 3 + body_length s at ≤ length s → accepted (record { tag = byte_at s at; next = at + 3 + body_length s at }) ≡ head_call at (field_at s at)
  unfolding field_at is_whole head_call
  whole h = simp (le-leb _ _ h)

  module _ (short : length s ≤ most_bytes) where
    pub head_cut : length s < at + 3 + body_length s at → refused_at 14 at ≡ head_call (place_in s at) (field_in s at)
    head_cut h = rw (head_in s at short) (cut h)

    pub head_whole : at + 3 + body_length s at ≤ length s
        → accepted (record { tag = byte_at s at; next = at + 3 + body_length s at }) ≡ head_call (place_in s at) (field_in s at)
    head_whole h = rw (head_in s at short) (whole h)

  -- where a whole field's body stands
  pub record Placed (next : ℕ) : Type 0 where
    pub starts : at + 3 ≤ next
    pub ends : next ≤ length s
    pub held : part (at + 3) (next - (at + 3)) s ≡ body_call (field_in s at)

  pub body_placed : (tag next : ℕ) → accepted (record { tag = tag; next = next }) ≡ head_call (place_in s at) (field_in s at) → Placed next
  unfolding field_at is_whole head_call body_call
  body_placed tag next told =
      let short = field_short s at _ (field_of (place_in s at) (field_in s at) tag next (body_call (field_in s at)) told refl) in
      let h = told ∙ head_in s at short in
      let w = go (is_whole s at) h in
      let k : at + 3 + body_length s at ≤ length s = leb-true _ _ w in
      let e : field_at s at ≡ some given = ap (λ (b : Bool). cond b (some given) none) w in
      let n : next ≡ at + 3 + body_length s at = ap (λ (a : Head). a.next) (accepted_same (h ∙ ap (head_call at) e)) in
      record {
        starts = omega arith;
        ends = omega arith;
        held = rw (field_in_lem s at short, n, add-sub_cancel_left, e) refl;
      }
    where
      go : (b : Bool) → accepted (record { tag = tag; next = next }) ≡ head_call at (cond b (some given) none) → b ≡ true
      go true k = refl
      go false k = absurd (refused_at_accepted (sym k))

-- a field without a head is none
pub field_none : (at : ℕ) (f : Option Field) {n i : ℕ} → refused_at n i ≡ head_call at f → f ≡ none
unfolding head_call
field_none at none h = refl
field_none at (some f) h = absurd (refused_at_accepted h)

-- ---- the start field, as it is answered

-- it stands at 0, and where no field does it is 14 there
cut_start : (at : ℕ) (f : Option Field) {n i : ℕ} → at ≡ ℕ.zero → refused_at n i ≡ head_call at f → refused_at n i ≡ start_call (start_width f)
unfolding head_call start_width start_call
cut_start at none here h = cc
cut_start at (some f) here h = absurd (refused_at_accepted h)

place_start : (s : List ℕ) → place_in s ℕ.zero ≡ ℕ.zero
unfolding place_in
place_start s = either (ltb most_bytes (length s))
  where
    either : (q : Bool) → cond q ℕ.zero ℕ.zero ≡ ℕ.zero
    either true = refl
    either false = refl

pub start_cut : (s : List ℕ) {n i : ℕ} → refused_at n i ≡ head_call (place_in s 0) (field_in s 0) → refused_at n i ≡ start_call (start_width (field_in s 0))
start_cut s h = cut_start (place_in s 0) (field_in s 0) (place_start s) h

pub start_tag : (at : ℕ) (f : Option Field) (tag next : ℕ) → accepted (record { tag = tag; next = next }) ≡ head_call at f → (tag ≡ 1 → ⊥)
    → refused_at 14 0 ≡ start_call (start_width f)
unfolding start_width start_call
start_tag at f tag next h other = rw (field_of at f tag next (body_call f) h refl, ne_eqb tag 1 other)

module _ (at : ℕ) (f : Option Field) (tag next : ℕ) (body : List ℕ) (h : accepted (record { tag = tag; next = next }) ≡ head_call at f) (b : body ≡ body_call f) (one : tag ≡ 1) where
  pub start_size : (length body ≡ 1 → ⊥) → refused_at 14 0 ≡ start_call (start_width f)
  unfolding start_width start_call
  start_size other = rw (field_of at f tag next body h b, eq-eqb tag 1 one, ne_eqb (length body) 1 other)

  pub start_good : length body ≡ 1 → accepted (byte_at body 0) ≡ start_call (start_width f)
  unfolding start_width start_call
  start_good size = rw (field_of at f tag next body h b, eq-eqb tag 1 one, eq-eqb (length body) 1 size)
