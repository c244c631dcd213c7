-- A run's fields as pieces of bytes, each by itself: a walk is accepted exactly where it goes over its steps' pieces and the end field.
use Rattle.std.specs.Prelude.{◌≡◌, refl, List, [], ◌∷◌, ◌++◌, ℕ, ◌+◌, ◌-◌, ◌*◌, ◌≤◌, Float, length, drop}
use Rattle.std.proofs.Common.{sym, ap₂, ◌∙◌, subst, append_assoc, add-zero, zero-add, arith, length-drop, length-append, take-append-drop, get_or-drop, drop-drop, le-ltb}
use Rattle.std.proofs.Math.Path.{ap}
use Rattle.answers.specs.Answer.Answer.{accepted}
use Rattle.amplitudelaws.specs.Step.{Step, width_after}
use Rattle.framelaws.specs.Caller.{Caller}
use Rattle.runlaws.specs.Bytes.{byte_at, part}
use Rattle.runlaws.specs.Field.{most_bytes, body_length, is_whole, field_at}
use Rattle.runlaws.specs.Flags.{field_size}
use Rattle.runlaws.specs.Reading.{Cursor, Read, read_field, read_at}
use Rattle.runlaws.specs.Reading.Read.{step_read, end_read, refused_read}
use Rattle.runlaws.specs.Run.{ended, follow, walk}
use Rattle.runlaws.specs.Fields.{field_whole, step_field, end_field, step_read_lem, size_ge}
use Rattle.runlaws.specs.Walk.{walk_by, walk_step, first_step, last_field}
use Rattle.runlaws.specs.Anywhere.{cursor_moved, read_moved, read_in, own_bytes, own_length, read_out}
use Rattle.runlaws.specs.Pieces.{Piece, end_bytes, Pieces}

-- ---- pieces, wherever they stand

module _ {caller : Caller} {n : ℕ} {t : Step Float} {f : List ℕ} (p : Piece caller n t f) where
  pub piece_size : length f ≡ field_size t
  piece_size = (step_read_lem caller f (record { at = 0; width = n }) _ t p.read).next ∙ zero-add (field_size t)

  pub piece_read : (pre rest : List ℕ) → length (pre ++ (f ++ rest)) ≤ most_bytes
      → read_at caller (pre ++ (f ++ rest)) (record { at = length pre; width = n })
      ≡ step_read t (record { at = length pre + length f; width = width_after n t })
  unfolding read_moved
  piece_read pre rest short =
      let start : Cursor = record { at = 0; width = n } in
      let k = step_field caller f start _ t p.read in
      ap (λ (i : ℕ). read_at caller (pre ++ (f ++ rest)) (record { at = i; width = n })) (sym (add-zero (length pre)))
      ∙ read_in pre f rest caller start k.field short k.here ∙ ap (read_moved (length pre)) p.read

end_read_lem : (caller : Caller) (n : ℕ) (pre : List ℕ) → n ≤ caller.widest → length (pre ++ end_bytes) ≤ most_bytes
    → read_at caller (pre ++ end_bytes) (record { at = length pre; width = n }) ≡ end_read (record { at = length pre + 3; width = n })
unfolding read_moved read_at read_field field_at is_whole body_length
end_read_lem caller n pre within short =
    let start : Cursor = record { at = 0; width = n } in
    let alone : read_at caller end_bytes start ≡ end_read (record { at = 3; width = n }) = rw (le-ltb caller.widest n within) in
    ap (λ (i : ℕ). read_at caller (pre ++ end_bytes) (record { at = i; width = n })) (sym (add-zero (length pre)))
    ∙ read_in pre end_bytes [] caller start _ short refl ∙ ap (read_moved (length pre)) alone

-- whatever stands before them
pub pieces_walk : (caller : Caller) (n fuel : ℕ) (ts : List (Step Float)) (pre bytes : List ℕ) → length (pre ++ bytes) ≤ most_bytes → length bytes ≤ fuel
    → Pieces caller n ts bytes → walk caller fuel (pre ++ bytes) (record { at = length pre; width = n }) ≡ accepted ts
unfolding follow ended
pieces_walk caller n fuel [] pre bytes short enough p =
    let size : length (pre ++ end_bytes) ≡ length pre + 3 = length-append pre end_bytes in
    let ends = end_read_lem caller n pre p.within (rw p.is at short) in
    rw p.is
    (walk_by caller fuel (pre ++ end_bytes) (record { at = length pre; width = n }) (rw p.is at short) (omega (arith, ap length p.is))
    ∙ rw (ends, le-ltb (length pre + 3) (length (pre ++ end_bytes)) (omega arith)))
pieces_walk caller n fuel (t ∷ ts) pre bytes short enough p =
    let f : List ℕ = p.first in
    let rest : List ℕ = p.rest in
    let k : ℕ = width_after n t in
    let all : (pre ++ f) ++ rest ≡ pre ++ bytes = append_assoc pre f rest ∙ ap (λ (l : List ℕ). pre ++ l) (sym p.both) in
    let long : length bytes ≡ length f + length rest = ap length p.both ∙ length-append f rest in
    let some : 3 ≤ length f = omega (arith, piece_size p.this, size_ge t) in
    let behind = pieces_walk caller k (fuel - 1) ts (pre ++ f) rest (rw all short) (omega arith) p.that in
    let from : Cursor = record { at = length pre; width = n } in
    let read : read_at caller (pre ++ bytes) from ≡ step_read t (record { at = length pre + length f; width = k })
    = rw p.both (piece_read p.this pre rest (rw p.both at short)) in
    walk_step caller fuel (pre ++ bytes) from _ t ts short (omega (arith, length-append pre bytes)) read
    (rw (all, length-append pre f) at behind)

-- ---- and back

-- what is read as a step further on
step_back_lem : (k a w : ℕ) (r : Read) {t : Step Float} {d : Cursor} → read_moved k r ≡ step_read t d → d.at ≡ k + a → d.width ≡ w
    → r ≡ step_read t (record { at = a; width = w })
unfolding read_moved
step_back_lem k a w (step_read u c) {t} {d} e at width =
    let same : u ≡ t = cc in
    let place : cursor_moved k c ≡ d = cc in
    ap₂ step_read same (cursor (omega (arith, ap (λ (d : Cursor). d.at) place)) (ap (λ (d : Cursor). d.width) place ∙ width))
  where
    cursor : {a b v w : ℕ} → a ≡ b → v ≡ w → ◌≡◌ {A = Cursor} (record { at = a; width = v }) (record { at = b; width = w })
    cursor p q = λ i. record { at = p i; width = q i }
step_back_lem k a w (end_read c) e at width = absurd (let z : ◌≡◌ {A = ℕ} 0 1 = cc in omega arith)
step_back_lem k a w (refused_read n i) e at width = absurd (let z : ◌≡◌ {A = ℕ} 0 1 = cc in omega arith)

-- a step's bytes, cut out of the run
step_piece : (caller : Caller) (s : List ℕ) (c d : Cursor) (t : Step Float) → read_at caller s c ≡ step_read t d
    → Piece caller c.width t (part c.at (field_size t) s)
step_piece caller s c d t e =
    let g = step_field caller s c d t e in
    let r = step_read_lem caller s c d t e in
    let f : List ℕ = own_bytes s c.at g.field in
    let next : d.at ≡ g.field.next = ap (λ (d : Cursor). d.at) g.behind in
    let size : g.field.next - c.at ≡ field_size t = omega (arith, r.next) in
    let long : d.at ≡ c.at + length f = next ∙ sym (own_length s c.at g.field g.here) in
    subst (λ (n : ℕ). Piece caller c.width t (part c.at n s)) size (record {
      read = step_back_lem c.at (length f) (width_after c.width t) (read_at caller f (record { at = 0; width = c.width }))
          (sym (read_out s c.at g.field g.here caller c.width g.short) ∙ e) long r.width;
    })

three_bytes : (bytes : List ℕ) → length bytes ≡ 3 → byte_at bytes 0 ≡ 6 → body_length bytes 0 ≡ 0 → bytes ≡ end_bytes
unfolding body_length
three_bytes [] size tag none = absurd (omega arith)
three_bytes (a ∷ []) size tag none = absurd (omega arith)
three_bytes (a ∷ b ∷ []) size tag none = absurd (omega arith)
three_bytes (a ∷ b ∷ c ∷ []) size tag none =
    let low : b ≡ 0 = omega arith in
    let high : c ≡ 0 = omega arith in
    rw (tag, low, high)
three_bytes (a ∷ b ∷ c ∷ d ∷ bytes) size tag none = absurd (omega arith)

-- the bytes from the cursor on
pub walk_pieces : (caller : Caller) (fuel : ℕ) (ts : List (Step Float)) (s : List ℕ) (c : Cursor) → length s ≤ most_bytes → length s ≤ c.at + fuel
    → walk caller fuel s c ≡ accepted ts → Pieces caller c.width ts (drop c.at s)
unfolding body_length
walk_pieces caller fuel [] s c short enough e =
    let l = last_field caller fuel s c short enough e in
    let k = end_field caller s c l.behind l.read in
    let w = field_whole s c.at k.field k.here in
    let next : l.behind.at ≡ k.field.next = ap (λ (d : Cursor). d.at) k.behind in
    let byte : (i : ℕ) → byte_at (drop c.at s) i ≡ byte_at s (c.at + i) = λ i. get_or-drop c.at s i 0 in
    record {
      within = k.within;
      is = three_bytes (drop c.at s) (simp length-drop (omega (arith, l.long, w.inside, w.next, w.size, k.bare, next)))
          (byte 0 ∙ ap (byte_at s) (add-zero c.at) ∙ sym w.tag ∙ k.tag)
          (ap₂ (λ (a b : ℕ). a + 256 * b) (byte 1) (byte 2) ∙ sym w.size ∙ k.bare);
    }
walk_pieces caller fuel (t ∷ ts) s c short enough e =
    let k = first_step caller fuel s c short enough t ts e in
    let d : Cursor = k.behind in
    let r = step_read_lem caller s c d t k.read in
    let n : ℕ = field_size t in
    let tail : drop d.at s ≡ drop n (drop c.at s) = ap (λ (i : ℕ). drop i s) r.next ∙ sym (drop-drop n c.at s) in
    record {
      first = part c.at n s;
      rest = drop n (drop c.at s);
      both = sym (take-append-drop n (drop c.at s));
      this = step_piece caller s c d t k.read;
      that = rw (← tail, ← r.width) (walk_pieces caller (fuel - 1) ts s d short k.enough k.walked);
    }
