-- A field is read the same wherever it stands, in whatever bytes.
use Rattle.std.specs.Prelude.{◌≡◌, Bool, true, cond, List, ◌++◌, ltb, Float, take, drop}
use Rattle.std.proofs.Math.Path.{refl}
use Rattle.std.proofs.Common.{sym, ap, ap₂, ◌∙◌, add-zero, arith, length-take, length-drop, take-append-drop, get_or-append-add}
use Rattle.std.proofs.Math.Bool.{false}
use Rattle.std.proofs.Math.Option.{Option, none, some}
use Prim.Native.Nat.{ℕ, zero, suc, ◌+◌, ◌-◌, ◌≤◌, ◌<◌}
use Rattle.std.proofs.Math.Nat.{add_assoc}
use Rattle.std.proofs.Math.ListN.{length, length-append, get_or-append}
use Rattle.std.proofs.Math.Seq.{drop-append-add}
use Rattle.std.proofs.lemmas.List.{drop-append-le, take-append-le}
use borrow.Author.Tests.{le-leb, le-ltb}
use Rattle.amplitudelaws.specs.Step.{Step}
use Rattle.framelaws.specs.Caller.{Caller}
use Rattle.framelaws.specs.Rows.{step_row}
use Rattle.runlaws.specs.Bytes.{byte_at, part}
use Rattle.runlaws.specs.Field.{Field, most_bytes, body_length, is_whole, field_at}
use Rattle.runlaws.specs.Reading.{Cursor, Read, is_field, decoded, unless, judged_by, judged, read_field, read_at}
use Rattle.runlaws.specs.Reading.Read.{step_read, end_read, refused_read}
use Rattle.runlaws.specs.Fields.{field_whole}

-- a field, a cursor and a read, k bytes further on
abbrev pub field_moved : ℕ → Field → Field
field_moved k f = record { tag = f.tag; body = f.body; next = k + f.next }

abbrev pub cursor_moved : ℕ → Cursor → Cursor
cursor_moved k c = record { at = k + c.at; width = c.width }

unfoldable pub read_moved : ℕ → Read → Read
read_moved k (step_read t c) = step_read t (cursor_moved k c)
read_moved k (end_read c) = end_read (cursor_moved k c)
read_moved k (refused_read n at) = refused_read n (k + at)

-- ---- put between other bytes

module _ (caller : Caller) (k : ℕ) (c : Cursor) (f : Field) where
  by_row_lem : (r : ℕ) (t : Step Float) → judged_by r (cursor_moved k c) (k + f.next) t ≡ read_moved k (judged_by r c f.next t)
  unfolding judged_by unless read_moved
  by_row_lem zero t = refl
  by_row_lem (suc r) t = refl

  by_step : (o : Option (Step Float)) → judged caller (cursor_moved k c) (k + f.next) o ≡ read_moved k (judged caller c f.next o)
  unfolding judged read_moved
  by_step none = refl
  by_step (some t) = by_row_lem (step_row caller c.width t) t

  read_moved_lem : read_field caller (cursor_moved k c) (some (field_moved k f)) ≡ read_moved k (read_field caller c (some f))
  unfolding read_field decoded
  read_moved_lem = by_end (is_field 6 0 f)
    where
      ends : Cursor
      ends = record { at = f.next; width = c.width }

      by_end : (q : Bool) → cond q (end_read (cursor_moved k ends)) (judged caller (cursor_moved k c) (k + f.next) (decoded c.width f))
          ≡ read_moved k (cond q (end_read ends) (judged caller c f.next (decoded c.width f)))
      by_end true = unfold read_moved in refl
      by_end false = by_step (decoded c.width f)

module _ (pre s rest : List ℕ) where
  abbrev all : List ℕ
  all = pre ++ (s ++ rest)

  byte_in : (i : ℕ) → i < length s → byte_at all (length pre + i) ≡ byte_at s i
  byte_in i h = get_or-append-add pre (s ++ rest) i 0 ∙ get_or-append s rest 0 i h

  module _ (at : ℕ) where
    length_in : at + 3 ≤ length s → body_length all (length pre + at) ≡ body_length s at
    unfolding body_length
    length_in h =
        rw (add_assoc (length pre) at 1, add_assoc (length pre) at 2, byte_in (at + 1) (omega arith), byte_in (at + 2) (omega arith))

    part_in : (k : ℕ) → at + 3 + k ≤ length s → part (length pre + at + 3) k all ≡ part (at + 3) k s
    part_in k h =
        ap (λ (i : ℕ). part i k all) (add_assoc (length pre) at 3)
        ∙ ap (take k) (drop-append-add pre (s ++ rest) (at + 3) ∙ drop-append-le (at + 3) s rest (omega arith))
        ∙ take-append-le k (drop (at + 3) s) rest (simp length-drop (omega arith))

    -- whatever stands before it and behind it
    pub field_in_lem : (f : Field) → field_at s at ≡ some f → field_at all (length pre + at) ≡ some (field_moved (length pre) f)
    unfolding field_at is_whole
    field_in_lem f here =
        let w = field_whole s at f here in
        let k : ℕ = body_length s at in
        let n : ℕ = length pre + at in
        let inside : n + 3 + k ≤ length all = omega (arith, length-append pre (s ++ rest), length-append s rest, w.inside) in
        let next : n + 3 + k ≡ length pre + f.next = omega (arith, w.next) in
        rw (
          length_in (omega (arith, w.inside)),
          le-leb (n + 3 + k) (length all) inside,
          byte_in at (omega (arith, w.inside)),
          part_in k w.inside,
          next,
          ← w.tag,
          ← w.body,
        )

  pub read_in : (caller : Caller) (c : Cursor) (f : Field) → length all ≤ most_bytes → field_at s c.at ≡ some f
      → read_at caller all (cursor_moved (length pre) c) ≡ read_moved (length pre) (read_at caller s c)
  unfolding read_at
  read_in caller c f short here =
      let within : length s ≤ most_bytes = omega (arith, length-append pre (s ++ rest), length-append s rest) in
      rw (le-ltb most_bytes (length all) short, le-ltb most_bytes (length s) within, field_in_lem c.at f here, here)
      (go (ltb caller.widest c.width))
    where
      k : ℕ
      k = length pre

      go : (q : Bool) → cond q (refused_read 14 (k + c.at)) (read_field caller (cursor_moved k c) (some (field_moved k f)))
          ≡ read_moved k (cond q (refused_read 14 c.at) (read_field caller c (some f)))
      go true = unfold read_moved in refl
      go false = read_moved_lem caller k c f

-- ---- cut out

-- the bytes of the field f that stands at `at`
abbrev pub own_bytes : List ℕ → ℕ → Field → List ℕ
own_bytes s at f = part at (f.next - at) s

module _ (s : List ℕ) (at : ℕ) (f : Field) (here : field_at s at ≡ some f) where
  abbrev own : List ℕ
  own = own_bytes s at f

  abbrev behind : List ℕ
  behind = drop (f.next - at) (drop at s)

  pub own_length : at + length own ≡ f.next
  own_length = let w = field_whole s at f here in simp (length-take, length-drop) (omega (arith, w.next, w.inside))

  own_parts : take at s ++ (own ++ behind) ≡ s
  own_parts = ap (λ (l : List ℕ). take at s ++ l) (take-append-drop (f.next - at) (drop at s)) ∙ take-append-drop at s

  before : length (take at s) ≡ at
  before = let w = field_whole s at f here in simp length-take (omega (arith, w.inside))

  own_size : body_length own 0 ≡ body_length s at
  own_size =
      let w = field_whole s at f here in
      sym (length_in (take at s) own behind 0 (omega (arith, own_length, w.next))) ∙ ap₂ body_length own_parts (add-zero _ ∙ before)

  own_whole : field_at own 0 ≡ some (record { tag = byte_at own 0; body = part 3 (body_length own 0) own; next = 3 + body_length own 0 })
  unfolding field_at is_whole
  own_whole =
      let w = field_whole s at f here in
      rw (le-leb (3 + body_length own 0) (length own) (omega (arith, own_length, own_size, w.next)))

  pub read_out : (caller : Caller) (n : ℕ) → length s ≤ most_bytes
      → read_at caller s (record { at = at; width = n }) ≡ read_moved at (read_at caller own (record { at = 0; width = n }))
  read_out caller n short =
      let start : Cursor = record { at = 0; width = n } in
      sym (ap₂ (λ (l : List ℕ) (i : ℕ). read_at caller l (record { at = i; width = n })) own_parts (add-zero _ ∙ before))
      ∙ read_in (take at s) own behind caller start _ (rw own_parts short) own_whole
      ∙ ap (λ (k : ℕ). read_moved k (read_at caller own start)) before
