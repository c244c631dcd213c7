-- What the loops over a run's steps keep, and that a turn keeps it.
use mathlib.Core.Path.{◌≡◌, refl, sym, ap, ap₂, ◌∙◌, subst}
use mathlib.Core.List.{List, [], ◌++◌, append_assoc, append-nil}
use Prim.Native.Nat.{ℕ, ◌+◌, ◌-◌, ◌*◌, ◌≤◌, ◌<◌}
use native.Mathlib.Omega.{arith}
use lib.Ieee.{Float}
use lib.ListN.{length, take, drop, length-take, length-drop, length-append, take-append-drop}
use lib.Seq.{take_all, drop-drop, take-length, drop-length, take_at, take-append_seam, drop-append_seam, take-append-add, drop-append-add}
use Rattle.answers.specs.Answer.Answer.{accepted}
use Rattle.paulilaws.specs.Pauli.{Pauli, identity}
use Rattle.paulilaws.specs.Fitting.{identity_fitting}
use Rattle.amplitudelaws.specs.Step.{Step}
use Rattle.framelaws.specs.Caller.{Caller}
use Rattle.framelaws.specs.Folding.{one_fired, fires, folded_past, folded_end, corrections}
use Rattle.runlaws.specs.Field.{most_bytes}
use Rattle.runlaws.specs.Fields.{step_read_lem, size_ge}
use Rattle.runlaws.specs.Flags.{field_size}
use Rattle.runlaws.proofs.FoldedBytes.{folded_length}
use Rattle.runlaws.specs.FoldedRun.{left_bytes, folded_fields, folded_run}
use Rattle.runlaws.specs.Going.{Going, Gone, going_outset, going_folded}
use Rattle.runlaws.specs.OnStart.{run_in}
use Rattle.runlaws.specs.Reading.{Cursor, read_at}
use Rattle.runlaws.specs.Reading.Read.{step_read}
use Rattle.runlaws.specs.Run.{Run, walk}
use Rattle.runlaws.specs.Walk.{Left, left_outset, accepted_step}
use Rattle.runlaws.specs.WholeRun.{run_allowed}
use Rattle.folder.specs.Foldable.{Foldable}

-- ---- the bytes that are left

-- At a cursor, before which so many bytes are written: the steps that are left take the Pauli to the end Pauli, and their fields complete `all`.
pub record Writing (caller : Caller) (s : List ℕ) (last : Pauli) (all old : List ℕ) (c : Cursor) (Q : Pauli) (to : ℕ) (out : List ℕ) : Type 0 where
  pub steps : List (Step Float)
  pub going : Going caller s c Q steps
  pub ends : folded_end Q steps ≡ last
  pub writes : take to out ++ folded_fields Q steps (drop c.at s) ≡ all
  pub behind : drop to out ≡ drop to old
  pub long : length out ≡ length old
  pub inside : to ≤ length out
  pub room : length all ≤ length old
  -- as long as a run may be
  pub small : length all ≤ most_bytes

-- ---- a part of the output from `to` on, and new bytes in its place

abbrev part_of : List ℕ → ℕ → List ℕ
part_of out to = take (length out - to) (drop to out)

abbrev pub put_back : List ℕ → ℕ → List ℕ → List ℕ
put_back out to new = take to out ++ (new ++ drop (length out - to) (drop to out))

module _ (out : List ℕ) (to : ℕ) where
  part_is : part_of out to ≡ drop to out
  part_is = take_all (length out - to) (drop to out) (simp length-drop (omega arith))

  put_is : (new : List ℕ) → put_back out to new ≡ take to out ++ new
  put_is new =
      let none : drop (length out - to) (drop to out) ≡ [] = ap (λ (n : ℕ). drop n (drop to out)) (sym (length-drop to out)) ∙ drop-length (drop to out) in
      ap (λ (l : List ℕ). take to out ++ (new ++ l)) none ∙ ap (λ (l : List ℕ). take to out ++ l) (append-nil new)

  -- `left` written to the front of the part
  module _ (inside : to ≤ length out) (left : List ℕ) (fits : length left ≤ length (drop to out)) where
    abbrev new : List ℕ
    new = take to out ++ (left ++ drop (length left) (drop to out))

    before : length (take to out) ≡ to
    before = simp length-take (omega arith)

    new_take : take (to + length left) new ≡ take to out ++ left
    new_take =
        ap (λ (n : ℕ). take (n + length left) new) (sym before) ∙ take-append-add (take to out) (left ++ drop (length left) (drop to out)) (length left)
        ∙ ap (λ (l : List ℕ). take to out ++ l) (take-append_seam left (drop (length left) (drop to out)))

    new_drop : drop (to + length left) new ≡ drop (length left) (drop to out)
    new_drop =
        ap (λ (n : ℕ). drop (n + length left) new) (sym before) ∙ drop-append-add (take to out) (left ++ drop (length left) (drop to out)) (length left)
        ∙ drop-append_seam left (drop (length left) (drop to out))

    new_length : length new ≡ length out
    new_length =
        let whole : length (take to out) + length (drop to out) ≡ length out = sym (length-append (take to out) (drop to out)) ∙ ap length (take-append-drop to out) in
        let rest : length (drop (length left) (drop to out)) ≡ length (drop to out) - length left = length-drop (length left) (drop to out) in
        omega (arith, length-append (take to out) (left ++ drop (length left) (drop to out)), length-append left (drop (length left) (drop to out)), whole, rest, fits)

-- before the first step: the start field's bytes are copied
module _ (caller : Caller) (s : List ℕ) (width : ℕ) (ready : Foldable caller s width) where
  abbrev R : Run
  R = run_in caller s

  abbrev none : Pauli
  none = identity R.width

  -- there is room for them
  pub start_fits : (old : List ℕ) → length (folded_run R s) ≤ length old → 4 ≤ length old
  unfolding folded_run
  start_fits old room =
      let known = run_allowed caller s R ready.read in
      let four : length (take 4 s) ≡ 4 = simp length-take (omega (arith, known.begins)) in
      omega (arith, length-append (take 4 s) (folded_fields none R.steps (drop 4 s)), four, room)

  pub outset : (old head out : List ℕ) (to : ℕ) (Q : Pauli) → length (folded_run R s) ≤ length old → Q ≡ identity width → head ≡ take 4 s → to ≡ length head
      → out ≡ take (length head) head ++ drop (length head) old
      → Writing caller s (folded_end none R.steps) (folded_run R s) out (record { at = 4; width = width }) Q to out
  unfolding folded_run
  outset old head out to Q room is first size copied =
      let known = run_allowed caller s R ready.read in
      let four : length head ≡ 4 = ap length first ∙ simp length-take (omega (arith, known.begins)) in
      let start : Q ≡ none = is ∙ ap identity ready.start in
      let enough : 4 ≤ length old = start_fits old room in
      let out-is : out ≡ head ++ drop 4 old = copied ∙ ap₂ (λ (l : List ℕ) (n : ℕ). l ++ drop n old) (take-length head) four in
      let to_is : to ≡ 4 = size ∙ four in
      let long : length out ≡ length old = ap length out-is ∙ length-append head (drop 4 old) ∙ simp length-drop (omega (arith, four, enough)) in
      let going = going_outset caller s R Q ready.read (rw start (record { fitting = identity_fitting R.width; width = omega (arith, ready.start, ready.narrow) }))
      (ap (λ (P : Pauli). P.n) start) in
      record {
        steps = R.steps;
        going = subst (λ (n : ℕ). Going caller s (record { at = 4; width = n }) Q R.steps) (ap (λ (P : Pauli). P.n) is) going;
        ends = ap (λ (P : Pauli). folded_end P R.steps) start;
        writes = ap₂ (λ (l : List ℕ) (P : Pauli). l ++ folded_fields P R.steps (drop 4 s)) (ap₂ take to_is out-is ∙ take_at head (drop 4 old) 4 four ∙ first) start;
        behind = refl;
        inside = omega (arith, to_is, long, enough);
        room = omega (arith, long, room);
        small = omega (arith, folded_length caller s R ready.read, known.short);
        long = refl;
      }

  -- past the bytes that are left the copy is as the output was
  pub copied_tail : (old head out : List ℕ) → head ≡ take 4 s → out ≡ take (length head) head ++ drop (length head) old
      → drop (length (folded_run R s)) out ≡ drop (length (folded_run R s)) old
  unfolding folded_run
  copied_tail old head out first copied =
      let known = run_allowed caller s R ready.read in
      let four : length head ≡ 4 = ap length first ∙ simp length-take (omega (arith, known.begins)) in
      let out-is : out ≡ head ++ drop 4 old = copied ∙ ap₂ (λ (l : List ℕ) (n : ℕ). l ++ drop n old) (take-length head) four in
      let more : ℕ = length (folded_fields none R.steps (drop 4 s)) in
      let all : length (folded_run R s) ≡ 4 + more = length-append (take 4 s) (folded_fields none R.steps (drop 4 s)) ∙ ap (λ (n : ℕ). n + more) (sym (ap length first) ∙ four) in
      ap₂ drop (all ∙ ap (λ (n : ℕ). n + more) (sym four)) out-is ∙ drop-append-add head (drop 4 old) more ∙ drop-drop more 4 old ∙ ap (λ (n : ℕ). drop n old) (sym all)

-- a step's field
module _ {caller : Caller} {s : List ℕ} {last : Pauli} {all old : List ℕ} {c : Cursor} {Q : Pauli} {to : ℕ} {out : List ℕ}
    (w : Writing caller s last all old c Q to out) where
  -- as much of `all` as is not yet written fits into the part
  rest_fits : length (folded_fields Q w.steps (drop c.at s)) ≤ length (drop to out)
  rest_fits =
      let whole = sym (length-append (take to out) (folded_fields Q w.steps (drop c.at s))) ∙ ap length w.writes in
      let before : length (take to out) ≡ to = simp length-take (omega (arith, w.inside)) in
      omega (arith, whole, before, w.room, w.long, w.inside, length-drop to out)

  module _ {t : Step Float} {d : Cursor} (g : Gone caller s c Q w.steps t d) where
    -- the field's bytes, as they are cut out of the run
    abbrev field : List ℕ
    field = take (d.at - c.at) (drop c.at s)

    abbrev left : List ℕ
    left = left_bytes Q t field

    abbrev after : List ℕ
    after = folded_fields (folded_past Q t) g.after (drop d.at s)

    first_left : folded_fields Q w.steps (drop c.at s) ≡ left ++ after
    unfolding folded_fields
    first_left =
        let size : d.at - c.at ≡ field_size t = omega (arith, g.read.next) in
        let tail : drop (field_size t) (drop c.at s) ≡ drop d.at s = drop-drop (field_size t) c.at s ∙ ap (λ (n : ℕ). drop n s) (sym g.read.next) in
        ap (λ (ts : List (Step Float)). folded_fields Q ts (drop c.at s)) g.steps_are
        ∙ ap₂ (λ (n : ℕ) (l : List ℕ). left_bytes Q t (take n (drop c.at s)) ++ folded_fields (folded_past Q t) g.after l) (sym size) tail

    left_fits : length left ≤ length (drop to out)
    left_fits = omega (arith, rest_fits, ap length first_left, length-append left after)

    pub left_room : length left ≤ length (part_of out to)
    left_room = rw (part_is out to) left_fits

    left_short : to + length left ≤ length out
    left_short = omega (arith, left_fits, length-drop to out, w.inside)

    pub left_small : to + length left ≤ most_bytes
    left_small =
        let whole = sym (length-append (take to out) (folded_fields Q w.steps (drop c.at s))) ∙ ap length w.writes in
        let before : length (take to out) ≡ to = simp length-take (omega (arith, w.inside)) in
        omega (arith, whole, before, ap length first_left, length-append left after, w.small)

    pub turn : (r : ℕ) (new out' : List ℕ) (Q' : Pauli) → r ≡ length left → new ≡ left ++ drop (length left) (part_of out to) → out' ≡ put_back out to new
        → Q' ≡ folded_past Q t → Writing caller s last all old d Q' (to + r) out'
    unfolding folded_end
    turn r new out' Q' size is back past =
        let new_is : out' ≡ take to out ++ (left ++ drop (length left) (drop to out))
        = back ∙ put_is out to new ∙ ap (λ (l : List ℕ). take to out ++ l) (is ∙ ap (λ (l : List ℕ). left ++ drop (length left) l) (part_is out to)) in
        let inside = w.inside in
        rw (past, size, new_is) (record {
          steps = g.after;
          going = going_folded w.going g;
          ends = ap (λ (ts : List (Step Float)). folded_end Q ts) (sym g.steps_are) ∙ w.ends;
          writes = ap (λ (l : List ℕ). l ++ after) (new_take out to inside left left_fits) ∙ append_assoc (take to out) left after
              ∙ ap (λ (l : List ℕ). take to out ++ l) (sym first_left) ∙ w.writes;
          behind = new_drop out to inside left left_fits ∙ ap (drop (length left)) w.behind ∙ drop-drop (length left) to old;
          long = new_length out to inside left left_fits ∙ w.long;
          inside = omega (arith, left_short, new_length out to inside left left_fits);
          room = w.room;
          small = w.small;
        })

  -- and the end field
  module _ (e : w.steps ≡ []) where
    abbrev rest : List ℕ
    rest = take (length s - c.at) (drop c.at s)

    rest_is : folded_fields Q w.steps (drop c.at s) ≡ rest
    unfolding folded_fields
    rest_is = ap (λ (ts : List (Step Float)). folded_fields Q ts (drop c.at s)) e ∙ sym (take_all (length s - c.at) (drop c.at s) (simp length-drop (omega arith)))

    pub rest_room : length rest ≤ length (part_of out to)
    rest_room = rw (part_is out to) (omega (arith, rest_fits, ap length rest_is))

    -- all bytes, and what was past them
    pub all_written : (new out' : List ℕ) → new ≡ take (length rest) rest ++ drop (length rest) (part_of out to) → out' ≡ put_back out to new
        → (Q ≡ last) × (out' ≡ all ++ drop (length all) old)
    unfolding folded_end
    all_written new out' is back =
        let all-is : take to out ++ rest ≡ all = ap (λ (l : List ℕ). take to out ++ l) (sym rest_is) ∙ w.writes in
        let before : length (take to out) ≡ to = simp length-take (omega (arith, w.inside)) in
        let long : to + length rest ≡ length all = omega (arith, before, sym (length-append (take to out) rest) ∙ ap length all-is) in
        let tail : drop (length rest) (drop to out) ≡ drop (length all) old
        = ap (drop (length rest)) w.behind ∙ drop-drop (length rest) to old ∙ ap (λ (n : ℕ). drop n old) long in (
          ap (λ (ts : List (Step Float)). folded_end Q ts) (sym e) ∙ w.ends,
          back ∙ put_is out to new
              ∙ ap (λ (l : List ℕ). take to out ++ l) (is ∙ ap₂ (λ (a b : List ℕ). a ++ drop (length rest) b) (take-length rest) (part_is out to))
              ∙ sym (append_assoc (take to out) rest (drop (length rest) (drop to out)))
              ∙ ap₂ (λ (a b : List ℕ). a ++ b) all-is tail,
        )

-- ---- how many they are

-- At a cursor, with the size as it is there: the corrections among the steps that are left take it to `total`.
pub record Sizing (caller : Caller) (s : List ℕ) (total : ℕ) (c : Cursor) (size : ℕ) : Type 0 where
  pub steps : List (Step Float)
  pub left : Left caller s c (accepted steps)
  pub is : size ≡ total + 20 * corrections steps

pub sizing_outset : (caller : Caller) (s : List ℕ) (width : ℕ) → Foldable caller s width
    → Sizing caller s (length (folded_run (run_in caller s) s)) (record { at = 4; width = width }) (length s)
sizing_outset caller s width ready =
    let R : Run = run_in caller s in
    let known = run_allowed caller s R ready.read in
    let c : Cursor = record { at = 4; width = width } in
    record {
      steps = R.steps;
      left = subst (Left caller s c) (ap (λ (n : ℕ). walk caller (length s) s (record { at = 4; width = n })) ready.start ∙ known.walked)
          (left_outset caller s c known.short known.begins);
      is = sym (folded_length caller s R ready.read);
    }

module _ {caller : Caller} {s : List ℕ} {total : ℕ} {c : Cursor} {size : ℕ} (w : Sizing caller s total c size) where
  -- behind a step that was read at c; less of the run is left
  pub record Sized (t : Step Float) (d : Cursor) (freed : ℕ) : Type 0 where
    pub enough : freed ≤ size
    pub next : Sizing caller s total d (size - freed)
    pub less : length s - d.at < length s - c.at

  pub sized : (t : Step Float) (d : Cursor) (freed : ℕ) → read_at caller s c ≡ step_read t d → freed ≡ 20 * one_fired (fires t) → Sized t d freed
  unfolding corrections
  sized t d freed e is =
      let k = accepted_step w.left t d e in
      let r = step_read_lem caller s c d t e in
      let count : corrections w.steps ≡ one_fired (fires t) + corrections k.after = ap corrections k.rest_is in
      record {
        enough = omega (arith, w.is, count, is);
        next = record { steps = k.after; left = k.left; is = omega (arith, w.is, count, is) };
        less = omega (arith, r.next, r.inside, size_ge t);
      }

  pub all_sized : w.steps ≡ [] → size ≡ total
  unfolding corrections
  all_sized e = omega (arith, w.is, ap corrections e)

-- as many as there were
pub all_long : (all old : List ℕ) → length all ≤ length old → length (all ++ drop (length all) old) ≡ length old
all_long all old h = length-append all (drop (length all) old) ∙ simp length-drop (omega arith)
