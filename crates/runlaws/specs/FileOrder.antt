-- The first refusal in file order: what a walk refuses stands at its cursor or behind it.
use Rattle.std.specs.Prelude.{◌≡◌, List, ◌∷◌, ltb, Float, length}
use Rattle.std.proofs.Math.Path.{refl, ap}
use Rattle.std.proofs.Math.Option.{Option, none, some}
use Prim.Native.Nat.{ℕ, zero, suc, ◌≤◌}
use Rattle.std.proofs.Math.Nat.{le_refl}
use Rattle.std.proofs.Common.{arith, le-ltb}
use Rattle.answers.specs.Answer.{Answer}
use Rattle.answers.specs.Answer.Answer.{accepted, refused, refused_at}
use Rattle.amplitudelaws.specs.Step.{Step}
use Rattle.framelaws.specs.Caller.{Caller}
use Rattle.framelaws.specs.Rows.{step_row}
use Rattle.runlaws.specs.Field.{Field, most_bytes, field_at}
use Rattle.runlaws.specs.Fields.{by_test, field_whole, end_field, step_read_lem}
use Rattle.runlaws.specs.Reading.{Cursor, Read, is_field, unless, judged_by, judged, decoded, read_field, read_at}
use Rattle.runlaws.specs.Reading.Read.{step_read, end_read, refused_read}
use Rattle.runlaws.specs.Run.{mapped, ended, follow, walk}

-- an answer that is no refusal before a place
abbrev pub NotBefore : {A : Type 0} → ℕ → Answer A → Type 0
NotBefore at (accepted a) = Unit
NotBefore at (refused n) = Unit
NotBefore at (refused_at n i) = at ≤ i

pub mapped_not_before : {A B : Type 0} (f : A → B) (at : ℕ) (a : Answer A) → NotBefore at a → NotBefore at (mapped f a)
unfolding mapped
mapped_not_before f at (accepted a) h = tt
mapped_not_before f at (refused n) h = tt
mapped_not_before f at (refused_at n i) h = h

earlier : {A : Type 0} (at behind : ℕ) (a : Answer A) → at ≤ behind → NotBefore behind a → NotBefore at a
earlier at behind (accepted a) h k = tt
earlier at behind (refused n) h k = tt
earlier at behind (refused_at n i) h k = omega arith

-- ---- a read

module _ (caller : Caller) (c : Cursor) where
  -- its refusal stands at the cursor
  Here : Read → Type 0
  Here (step_read t d) = Unit
  Here (end_read d) = Unit
  Here (refused_read n at) = at ≡ c.at

  unless_here : (row : ℕ) (t : Step Float) (d : Cursor) → Here (unless row c.at (step_read t d))
  unfolding Here unless
  unless_here zero t d = tt
  unless_here (suc row) t d = refl

  judged_here : (next : ℕ) (o : Option (Step Float)) → Here (judged caller c next o)
  unfolding Here judged judged_by
  judged_here next none = refl
  judged_here next (some t) = unless_here (step_row caller c.width t) t _

  field_here : (o : Option Field) → Here (read_field caller c o)
  unfolding Here read_field
  field_here none = refl
  field_here (some f) = by_test Here (is_field 6 0 f) (λ e. tt) (λ e. judged_here f.next (decoded c.width f))

  read_here : (s : List ℕ) → length s ≤ most_bytes → Here (read_at caller s c)
  unfolding Here read_at
  read_here s short = rw (le-ltb most_bytes (length s) short) (by_test Here (ltb caller.widest c.width) (λ e. refl) (λ e. field_here (field_at s c.at)))

-- ---- a walk

module _ (caller : Caller) (s : List ℕ) (short : length s ≤ most_bytes) where
  -- one read further, by what the walk from the next cursor gives
  follow_not_before : (c : Cursor) (rest : Cursor → Answer (List (Step Float))) → ((d : Cursor) → NotBefore d.at (rest d))
      → (r : Read) → read_at caller s c ≡ r → Here caller c r → NotBefore c.at (follow s r rest)
  unfolding Here follow ended
  follow_not_before c rest behind (step_read t d) e h =
      earlier c.at d.at (mapped (λ ts. t ∷ ts) (rest d)) (omega (arith, (step_read_lem caller s c d t e).next))
      (mapped_not_before (λ ts. t ∷ ts) d.at (rest d) (behind d))
  follow_not_before c rest behind (end_read d) e h =
      let k = end_field caller s c d e in
      let at : d.at ≡ k.field.next = ap (λ (d : Cursor). d.at) k.behind in
      let past : c.at ≤ d.at = omega (arith, at, (field_whole s c.at k.field k.here).next) in
      by_test (NotBefore c.at) (ltb d.at (length s)) (λ e. past) (λ e. tt)
  follow_not_before c rest behind (refused_read n at) e h = omega (arith, h)

  pub walk_not_before : (fuel : ℕ) (c : Cursor) → NotBefore c.at (walk caller fuel s c)
  unfolding walk
  walk_not_before zero c = le_refl c.at
  walk_not_before (suc fuel) c = follow_not_before c (walk caller fuel s) (walk_not_before fuel) (read_at caller s c) refl (read_here caller c s short)
