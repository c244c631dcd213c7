-- What a run that is read whole is known by, and when it is refused at its start.
use Rattle.std.specs.Prelude.{◌≡◌, Bool, ℕ, ◌≤◌, ◌<◌, Float}
use Rattle.std.proofs.Math.Path.{refl, sym, subst}
use Rattle.std.proofs.Common.{ap, ◌∙◌, arith, get_or-take, get_or-drop}
use Rattle.std.proofs.Math.Bool.{true, false, cond}
use mathlib.Core.List.{List}
use Rattle.std.proofs.Math.Option.{Option, none, some}
use Rattle.std.proofs.Math.Dec.{ltb}
use Rattle.std.proofs.Math.ListN.{length}
use borrow.Author.Tests.{ltb-false, lt-ltb, le-ltb}
use Rattle.answers.specs.Answer.{Answer}
use Rattle.answers.specs.Answer.Answer.{accepted, refused_at}
use Rattle.answers.specs.Row.{refused_at_accepted}
use Rattle.amplitudelaws.specs.Step.{Step}
use Rattle.framelaws.specs.Caller.{Caller}
use Rattle.framelaws.specs.Allowed.{Allowed}
use Rattle.runlaws.specs.Bytes.{byte_at, part}
use Rattle.runlaws.specs.Field.{Field, most_bytes, body_length, field_at}
use Rattle.runlaws.specs.Reading.{Cursor, is_field}
use Rattle.runlaws.specs.Run.{Run, mapped, walk, start_width, begun, run_of}
use Rattle.runlaws.specs.Fields.{by_test, field_whole, has_tag, has_size}
use Rattle.runlaws.specs.Mapped.{mapped_accepted}
use Rattle.runlaws.specs.Walk.{walk_allowed}

-- a run that has a start field
pub record StartRead (s : List ℕ) (n : ℕ) : Type 0 where
  pub tag : byte_at s 0 ≡ 1
  pub size : body_length s 0 ≡ 1
  pub begins : 4 ≤ length s
  pub is : byte_at s 3 ≡ n

module _ (s : List ℕ) where
  StartOr : Option ℕ → Type 0
  StartOr none = Unit
  StartOr (some n) = StartRead s n

  body_first : (k : ℕ) → 0 < k → byte_at (part 3 k s) 0 ≡ byte_at s 3
  body_first k h = simp (get_or-take, get_or-drop)

  start_field : (o : Option Field) → field_at s 0 ≡ o → StartOr (start_width o)
  unfolding StartOr start_width
  start_field none here = tt
  start_field (some f) here =
      let w = field_whole s 0 f here in
      by_test StartOr (is_field 1 1 f)
      (λ start.
      let size : length f.body ≡ 1 = has_size 0 f 1 1 start in
      record {
        tag = sym w.tag ∙ has_tag 0 f 1 1 start;
        size = omega (arith, w.size, size);
        begins = omega (arith, w.inside, w.size, size);
        is = sym (ap (λ (b : List ℕ). byte_at b 0) w.body ∙ body_first (body_length s 0) (omega (arith, w.size, size)));
      })
      (λ h. tt)

  pub start_read : (n : ℕ) → start_width (field_at s 0) ≡ some n → StartRead s n
  unfolding StartOr
  start_read n e = subst StartOr e (start_field (field_at s 0) refl)

pub record ReadRun (caller : Caller) (s : List ℕ) (R : Run) : Type 0 where
  pub short : length s ≤ most_bytes
  pub start : start_width (field_at s 0) ≡ some R.width
  pub begins : 4 ≤ length s
  pub width : R.width ≤ caller.widest
  pub walked : walk caller (length s) s (record { at = 4; width = R.width }) ≡ accepted R.steps
  pub allowed : Allowed caller R.width R.steps

module _ (caller : Caller) (s : List ℕ) where
  pub run_long : most_bytes < length s → run_of caller s ≡ refused_at 14 0
  unfolding run_of
  run_long h = rw (lt-ltb most_bytes (length s) h)

  module _ (short : length s ≤ most_bytes) where
    pub run_too_wide : (n : ℕ) → start_width (field_at s 0) ≡ some n → caller.widest < n → run_of caller s ≡ refused_at caller.start_row 0
    unfolding run_of begun
    run_too_wide n e wide = rw (le-ltb most_bytes (length s) short, e, lt-ltb caller.widest n wide)

    pub run_begun : (n : ℕ) → start_width (field_at s 0) ≡ some n → n ≤ caller.widest
        → run_of caller s ≡ mapped (λ (ts : List (Step Float)). record { width = n; steps = ts }) (walk caller (length s) s (record { at = 4; width = n }))
    unfolding run_of begun
    run_begun n e within = rw (le-ltb most_bytes (length s) short, e, le-ltb caller.widest n within)

module _ (caller : Caller) (s : List ℕ) (R : Run) where
  started_allowed : length s ≤ most_bytes → (n : ℕ) → start_width (field_at s 0) ≡ some n → n ≤ caller.widest
      → mapped (λ (ts : List (Step Float)). record { width = n; steps = ts }) (walk caller (length s) s (record { at = 4; width = n })) ≡ accepted R
      → ReadRun caller s R
  started_allowed short n h within e =
      let from : Cursor = record { at = 4; width = n } in
      let m = mapped_accepted (λ (ts : List (Step Float)). record { width = n; steps = ts }) (walk caller (length s) s from) R e in
      let b = start_read s n h in
      rw m.is (record {
        short = short;
        start = h;
        begins = b.begins;
        width = within;
        walked = m.was;
        allowed = walk_allowed caller (length s) s from m.value short (omega arith) m.was;
      })

  begun_allowed : length s ≤ most_bytes → (o : Option ℕ) → start_width (field_at s 0) ≡ o → begun caller s o ≡ accepted R → ReadRun caller s R
  unfolding begun
  begun_allowed short none h e = absurd (refused_at_accepted e)
  begun_allowed short (some n) h e = go (ltb caller.widest n) refl e
    where
      steps : Answer Run
      steps = mapped (λ (ts : List (Step Float)). record { width = n; steps = ts }) (walk caller (length s) s (record { at = 4; width = n }))

      go : (q : Bool) → ltb caller.widest n ≡ q → cond q (refused_at caller.start_row 0) steps ≡ accepted R → ReadRun caller s R
      go true wide e = absurd (refused_at_accepted e)
      go false wide e = started_allowed short n h (ltb-false caller.widest n wide) e

  pub run_allowed : run_of caller s ≡ accepted R → ReadRun caller s R
  unfolding run_of
  run_allowed e = go (ltb most_bytes (length s)) refl e
    where
      go : (q : Bool) → ltb most_bytes (length s) ≡ q → cond q (refused_at 14 0) (begun caller s (start_width (field_at s 0))) ≡ accepted R → ReadRun caller s R
      go true h e = absurd (refused_at_accepted e)
      go false h e = begun_allowed (ltb-false most_bytes (length s) h) (start_width (field_at s 0)) refl e
