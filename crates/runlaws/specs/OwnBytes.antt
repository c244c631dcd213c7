-- A field is read by its own bytes, and a run from a cursor on by the bytes from there on.
use Rattle.std.specs.Prelude.{◌≡◌, cond, List, ℕ, zero, suc, ◌+◌, ◌≤◌, ◌<◌, length, set, drop}
use Rattle.std.proofs.Math.Path.{refl}
use Rattle.std.proofs.Common.{◌∙◌, arith, length-set, length-take, length-drop, get_or-set_other, get_or-take, get_or-drop, ext_get_or, le-leb}
use Rattle.std.proofs.Math.Option.{none, some}
use Rattle.std.proofs.lemmas.List.{drop-set-add}
use Rattle.std.proofs.Math.Seq.{take-set-lt}
use Rattle.framelaws.specs.Caller.{Caller}
use Rattle.runlaws.specs.Bytes.{byte_at, number, float_at, pauli_at, part}
use Rattle.runlaws.specs.Field.{Field, body_length, is_whole, field_at}
use Rattle.runlaws.specs.Reading.{Cursor, Read, read_at}
use Rattle.runlaws.specs.Reading.Read.{step_read, end_read, refused_read}
use Rattle.runlaws.specs.Run.{ended, follow, walk}
use Rattle.runlaws.specs.Fields.{field_whole, step_read_lem}

-- ---- a byte that is set

pub byte_kept : (s : List ℕ) (i j v : ℕ) → (j ≡ i → ⊥) → byte_at (set s i v) j ≡ byte_at s j
byte_kept s i j v h = get_or-set_other s i j v 0 h

-- outside the bytes of a number
number_kept : (k : ℕ) (s : List ℕ) (i j v : ℕ) → ((m : ℕ) → m < k → i + m ≡ j → ⊥) → number k (set s j v) i ≡ number k s i
unfolding number
number_kept zero s i j v h = refl
number_kept (suc k) s i j v h = rw (number_kept k s i j v (λ m b. h m (omega arith)), byte_kept s j (i + k) v (h k (omega arith)))

pub float_kept : (s : List ℕ) (i j v : ℕ) → ((m : ℕ) → m < 8 → i + m ≡ j → ⊥) → float_at (set s j v) i ≡ float_at s i
unfolding float_at
float_kept s i j v h = rw (number_kept 8 s i j v h)

pub pauli_kept : (n : ℕ) (s : List ℕ) (j v : ℕ) → 17 ≤ j → pauli_at n (set s j v) ≡ pauli_at n s
unfolding pauli_at
pauli_kept n s j v h = rw (byte_kept s j 0 v (λ e. omega arith), number_kept 8 s 1 j v (λ m b e. omega arith), number_kept 8 s 9 j v (λ m b e. omega arith))

-- ---- a field is read by its own bytes

-- a field whose body has another byte at i
abbrev pub with_byte : ℕ → ℕ → Field → Field
with_byte i v f = record { tag = f.tag; body = set f.body i v; next = f.next }

module _ (s s' : List ℕ) (at : ℕ) (long : length s' ≡ length s) where
  -- the same head, and b for a body
  field_body : (b : List ℕ) → byte_at s' at ≡ byte_at s at → body_length s' at ≡ body_length s at → part (at + 3) (body_length s at) s' ≡ b
      → field_at s' at ≡ cond (is_whole s at) (some (record { tag = byte_at s at; body = b; next = at + 3 + body_length s at })) none
  unfolding field_at is_whole
  field_body b tag size body = rw (size, long, tag, body)

  -- the bytes of the field that stands at `at`, or would stand there, are the same
  module _ (same : (i : ℕ) → at ≤ i → i < at + 3 + body_length s at → byte_at s' i ≡ byte_at s i) where
    length_same : body_length s' at ≡ body_length s at
    unfolding body_length
    length_same = rw (same (at + 1) (omega arith) (omega arith), same (at + 2) (omega arith) (omega arith))

    part_same : part (at + 3) (body_length s at) s' ≡ part (at + 3) (body_length s at) s
    part_same = ext_get_or 0 (part (at + 3) k s') (part (at + 3) k s) (simp (length-take, length-drop, long)) (λ i h. byte i (omega (arith, shorter)))
      where
        k : ℕ
        k = body_length s at

        shorter : length (part (at + 3) k s') ≤ k
        shorter = simp (length-take, length-drop) (omega arith)

        byte : (i : ℕ) → i < k → byte_at (part (at + 3) k s') i ≡ byte_at (part (at + 3) k s) i
        byte i h = simp (get_or-take, get_or-drop) (same (at + 3 + i) (omega arith) (omega arith))

    pub field_same : field_at s' at ≡ field_at s at
    unfolding field_at
    field_same = field_body (part (at + 3) (body_length s at) s) (same at (omega arith) (omega arith)) length_same part_same

-- a byte of the body that is set
pub field_set : (s : List ℕ) (at i v : ℕ) (f : Field) → field_at s at ≡ some f → i < length f.body → field_at (set s (at + 3 + i) v) at ≡ some (with_byte i v f)
unfolding is_whole
field_set s at i v f e h =
    let w = field_whole s at f e in
    let k : ℕ = body_length s at in
    let within : i < k = omega (arith, w.size) in
    let body : part (at + 3) k (set s (at + 3 + i) v) ≡ set f.body i v
    = rw (drop-set-add (at + 3) s i v, take-set-lt k (drop (at + 3) s) i v within, w.body) in
    field_body s (set s (at + 3 + i) v) at (length-set s (at + 3 + i) v) (set f.body i v) (byte_kept s (at + 3 + i) at v (λ e. omega arith)) size body
    ∙ rw (le-leb (at + 3 + k) (length s) w.inside, ← w.tag, ← w.next)
  where
    size : body_length (set s (at + 3 + i) v) at ≡ body_length s at
    size = unfold body_length in rw (byte_kept s (at + 3 + i) (at + 1) v (λ e. omega arith), byte_kept s (at + 3 + i) (at + 2) v (λ e. omega arith))

-- ---- a run is read from a cursor on by the bytes from there on

pub read_same : (caller : Caller) (s s' : List ℕ) (c : Cursor) → length s' ≡ length s
    → ((i : ℕ) → c.at ≤ i → i < c.at + 3 + body_length s c.at → byte_at s' i ≡ byte_at s i) → read_at caller s' c ≡ read_at caller s c
unfolding read_at
read_same caller s s' c long same = rw (long, field_same s s' c.at long same)

pub walk_same : (caller : Caller) (fuel : ℕ) (s s' : List ℕ) (c : Cursor) → length s' ≡ length s → ((i : ℕ) → c.at ≤ i → byte_at s' i ≡ byte_at s i)
    → walk caller fuel s' c ≡ walk caller fuel s c
unfolding walk
walk_same caller zero s s' c long same = refl
walk_same caller (suc fuel) s s' c long same =
    rw (read_same caller s s' c long (λ i h k. same i h))
    (go (read_at caller s c) refl (λ d h. walk_same caller fuel s s' d long (λ i k. same i (omega arith))))
  where
    go : (r : Read) → read_at caller s c ≡ r → ((d : Cursor) → c.at ≤ d.at → walk caller fuel s' d ≡ walk caller fuel s d)
        → follow s' r (walk caller fuel s') ≡ follow s r (walk caller fuel s)
    go (step_read t d) e rest = let r = step_read_lem caller s c d t e in unfold follow in rw (rest d (omega (arith, r.next)))
    go (end_read d) e rest = unfold follow ended in rw long
    go (refused_read n at) e rest = unfold follow in refl
