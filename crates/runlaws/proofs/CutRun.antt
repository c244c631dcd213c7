-- Where a step's field stands in a run, what its sign or branch byte is, and the run that is cut before it.
use Rattle.std.specs.Prelude.{◌≡◌, refl, List, [], ◌∷◌, ◌++◌, ℕ, ◌+◌, ◌≤◌, ◌<◌, Float, length, take, drop}
use Rattle.std.proofs.Common.{sym, ap, ◌∙◌, subst, append_assoc, arith, length-append, get_or-append-add, get_or-take, get_or-drop, take_at}
use Rattle.std.proofs.Math.ListN.{get_or-append}
use Rattle.answers.specs.Answer.Answer.{accepted}
use Rattle.amplitudelaws.specs.Step.{Step, width_after}
use Rattle.framelaws.specs.Caller.{Caller}
use Rattle.runlaws.specs.Bytes.{byte_at}
use Rattle.runlaws.specs.Field.{Field, most_bytes, body_length}
use Rattle.runlaws.specs.Fields.{Whole, Decodes, field_whole, step_field, size_ge}
use Rattle.runlaws.specs.Fields.Decodes.{rotates, promotes, projects, corrects, quarter_turns}
use Rattle.runlaws.specs.Flags.{fields_size}
use Rattle.runlaws.specs.Pieces.{Piece, Pieces, end_bytes, pieces_within}
use Rattle.runlaws.proofs.Pieces.{piece_size, piece_read}
use Rattle.runlaws.specs.Reading.{read_at}
use Rattle.runlaws.specs.Run.{Run, run_of}
use Rattle.runlaws.specs.RunPieces.{start_bytes}
use Rattle.runlaws.proofs.RunPieces.{run_pieces, pieces_run}
use Rattle.runlaws.specs.CutRun.{FlagByte, FieldOf}

-- ---- the sign or the branch

body_byte : {f : List ℕ} {field : Field} → Whole f 0 field → (i : ℕ) → i < length field.body → byte_at field.body i ≡ byte_at f (3 + i)
body_byte {f} {field} w i h =
    ap (λ (l : List ℕ). byte_at l i) w.body ∙ get_or-take (body_length f 0) (drop 3 f) i 0 (omega (arith, h, w.size)) ∙ get_or-drop 3 f i 0

flag_byte : {n : ℕ} {f : List ℕ} {field : Field} {t : Step Float} → Whole f 0 field → Decodes n field t → FlagByte t f
flag_byte w (rotates tag size) = sym (body_byte w 17 (omega arith))
flag_byte w (promotes tag size) = tt
flag_byte w (projects tag size) = sym (body_byte w 18 (omega arith))
flag_byte w (corrects tag size) = tt
flag_byte w (quarter_turns tag size) = tt

piece_flag : {caller : Caller} {n : ℕ} {t : Step Float} {f : List ℕ} → Piece caller n t f → FlagByte t f
piece_flag {caller} {n} {t} {f} p =
    let k = step_field caller f (record { at = 0; width = n }) _ t p.read in
    flag_byte (field_whole f 0 k.field k.here) k.is

-- ---- the pieces before a step, its own, and those behind it

record Cut (caller : Caller) (n : ℕ) (before : List (Step Float)) (t : Step Float) (bytes : List ℕ) : Type 0 where
  front : List ℕ
  field : List ℕ
  rest : List ℕ
  width : ℕ
  whole : bytes ≡ front ++ (field ++ rest)
  size : length front ≡ fields_size before
  this : Piece caller width t field
  ended : Pieces caller n before (front ++ end_bytes)

cut : (caller : Caller) (n : ℕ) (before after : List (Step Float)) (t : Step Float) (bytes : List ℕ) → Pieces caller n (before ++ t ∷ after) bytes → Cut caller n before t bytes
unfolding fields_size
cut caller n [] after t bytes p = record {
  front = [];
  field = p.first;
  rest = p.rest;
  width = n;
  whole = p.both;
  size = refl;
  this = p.this;
  ended = record { within = pieces_within caller n (t ∷ after) bytes p; is = refl };
}
cut caller n (b ∷ before) after t bytes p =
    let k = cut caller (width_after n b) before after t p.rest p.that in
    record {
      front = p.first ++ k.front;
      field = k.field;
      rest = k.rest;
      width = k.width;
      whole = p.both ∙ ap (λ (l : List ℕ). p.first ++ l) k.whole ∙ sym (append_assoc p.first k.front (k.field ++ k.rest));
      size = omega (arith, length-append p.first k.front, piece_size p.this, k.size);
      this = k.this;
      ended = record {
        first = p.first;
        rest = k.front ++ end_bytes;
        both = append_assoc p.first k.front end_bytes;
        this = p.this;
        that = k.ended;
      };
    }

-- ---- in the whole run

at_cut : (caller : Caller) (n : ℕ) (before : List (Step Float)) (t : Step Float) (bytes : List ℕ) (k : Cut caller n before t bytes)
    → let pre = start_bytes n ++ k.front in let all = pre ++ (k.field ++ k.rest) in length all ≤ most_bytes → FieldOf caller all n before t
at_cut caller n before t bytes k short =
    let pre : List ℕ = start_bytes n ++ k.front in
    let tail : List ℕ = k.field ++ k.rest in
    let place : length pre ≡ 4 + fields_size before = omega (arith, k.size) in
    let size : length (pre ++ tail) ≡ length pre + (length k.field + length k.rest) = omega (arith, length-append pre tail, length-append k.field k.rest) in
    let before-is : take (4 + fields_size before) (pre ++ tail) ≡ pre = take_at pre tail (4 + fields_size before) place in
    record {
      width = k.width;
      behind = record { at = length pre + length k.field; width = width_after k.width t };
      read = ap (λ (at : ℕ). read_at caller (pre ++ tail) (record { at = at; width = k.width })) (sym place) ∙ piece_read k.this pre k.rest short;
      field = k.field;
      flag = piece_flag k.this;
      own = λ i h.
          ap (λ (at : ℕ). byte_at (pre ++ tail) (at + i)) (sym place) ∙ get_or-append-add pre tail i 0
          ∙ get_or-append k.field k.rest 0 i (omega (arith, piece_size k.this, h));
      inside = omega (arith, size, place, piece_size k.this);
      cut_size = ap (λ (l : List ℕ). length (l ++ end_bytes)) before-is ∙ omega (arith, length-append pre end_bytes, place);
      cut_run = ap (λ (l : List ℕ). run_of caller (l ++ end_bytes)) before-is ∙ pieces_run caller (pre ++ end_bytes) (record { width = n; steps = before }) (record {
        short = omega (arith, length-append pre end_bytes, size, short, piece_size k.this, size_ge t);
        bytes = k.front ++ end_bytes;
        whole = refl;
        pieces = k.ended;
      });
    }

pub field_of : (caller : Caller) (s : List ℕ) (R : Run) (before after : List (Step Float)) (t : Step Float) → run_of caller s ≡ accepted R → R.steps ≡ before ++ t ∷ after
    → FieldOf caller s R.width before t
field_of caller s R before after t e steps =
    let p = run_pieces caller s R e in
    let n : ℕ = R.width in
    let k = cut caller n before after t p.bytes (subst (λ (ts : List (Step Float)). Pieces caller n ts p.bytes) steps p.pieces) in
    let all : List ℕ = start_bytes n ++ k.front ++ (k.field ++ k.rest) in
    let whole : s ≡ all = p.whole ∙ ap (λ (l : List ℕ). start_bytes n ++ l) k.whole in
    subst (λ (l : List ℕ). FieldOf caller l n before t) (sym whole)
    (at_cut caller n before t p.bytes k (subst (λ (l : List ℕ). length l ≤ most_bytes) whole p.short))
