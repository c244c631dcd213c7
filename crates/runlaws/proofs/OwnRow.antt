-- Of a wide and a narrow caller: the narrow one answers what the wide one answers, a refusal with its number and its place, or it refuses by a row of its own.
use Rattle.std.specs.Prelude.{◌≡◌, Bool, cond, List, ◌∷◌, ◌⊎◌, Float, length}
use Rattle.std.proofs.Math.Path.{refl, sym, ap, subst}
use Rattle.std.proofs.Common.{◌∙◌, le_trans, arith, ltb-false, ltb-true, lt-ltb, le-ltb}
use Rattle.std.proofs.Math.Bool.{true, false}
use Rattle.std.proofs.Math.Logic.{inl, inr}
use Rattle.std.proofs.Math.Option.{Option, none, some}
use Prim.Native.Nat.{ℕ, zero, suc, ◌≤◌, ◌<◌}
use Rattle.std.proofs.Math.Dec.{ltb}
use Rattle.answers.specs.Answer.{Answer}
use Rattle.answers.specs.Answer.Answer.{refused_at}
use Rattle.amplitudelaws.specs.Step.{Step}
use Rattle.framelaws.specs.Caller.{Caller}
use Rattle.framelaws.specs.CallerRows.{AtLimit, row_or_own}
use Rattle.framelaws.specs.Rows.{step_row}
use Rattle.runlaws.specs.Bytes.{byte_at}
use Rattle.runlaws.specs.Field.{Field, most_bytes, field_at}
use Rattle.runlaws.specs.Reading.{Cursor, Read, is_field, unless, judged_by, judged, decoded, read_field, read_at}
use Rattle.runlaws.specs.Reading.Read.{step_read, end_read, refused_read}
use Rattle.runlaws.specs.Run.{Run, mapped, follow, walk, start_width, begun, run_of}
use Rattle.runlaws.specs.Fields.{Decodes, field_whole, decodes, read_within, step_read_lem}
use Rattle.runlaws.specs.FileOrder.{NotBefore, mapped_not_before, walk_not_before}
use Rattle.runlaws.specs.TwoCallers.{OwnRead, Own}
use Rattle.runlaws.specs.TwoCallers.Own.{start_over, promotion_at}

module _ (wide narrow : Caller) (order : narrow.widest ≤ wide.widest) (s : List ℕ) where
  -- the narrow caller's own refusal of a promotion at a cursor, and in the answer to a walk beside the wide one's
  record Refuses (c : Cursor) (r : Read) : Type 0 where
    tag : byte_at s c.at ≡ 3
    width : narrow.widest ≤ c.width
    is : r ≡ refused_read narrow.promotion_row c.at

  record OwnWalk (a b : Answer (List (Step Float))) : Type 0 where
    at : ℕ
    read : OwnRead narrow s (record { at = at; width = narrow.widest })
    is : a ≡ refused_at narrow.promotion_row at
    later : NotBefore at b

  unless_own : (row at : ℕ) (r : Read) → 0 < row → unless row at r ≡ refused_read row at
  unfolding unless
  unless_own zero at r h = absurd (omega arith)
  unless_own (suc row) at r h = refl

  promotion_tag : {n : ℕ} {f : Field} {t : Step Float} → Decodes n f t → AtLimit narrow n t → (f.tag ≡ 3) × (narrow.widest ≤ n)
  promotion_tag (Decodes.promotes tag size) h = (tag, h)
  promotion_tag (Decodes.rotates tag size) h = absurd h
  promotion_tag (Decodes.projects tag size) h = absurd h
  promotion_tag (Decodes.corrects tag size) h = absurd h
  promotion_tag (Decodes.quarter_turns tag size) h = absurd h

  module _ (c : Cursor) where
    judged_or_own : (f : Field) → field_at s c.at ≡ some f → (o : Option (Step Float)) → decoded c.width f ≡ o
        → (judged narrow c f.next o ≡ judged wide c f.next o) ⊎ Refuses c (judged narrow c f.next o)
    unfolding judged judged_by
    judged_or_own f here none e = inl refl
    judged_or_own f here (some t) e = go (row_or_own wide narrow order c.width t)
      where
        go : (step_row narrow c.width t ≡ step_row wide c.width t) ⊎ (AtLimit narrow c.width t × (step_row narrow c.width t ≡ narrow.promotion_row))
            → (judged narrow c f.next (some t) ≡ judged wide c f.next (some t)) ⊎ Refuses c (judged narrow c f.next (some t))
        go (inl same) = inl (rw same)
        go (inr (limit, own)) = inr (record {
          tag = sym (field_whole s c.at f here).tag ∙ (promotion_tag (decodes c.width f t e) limit).0;
          width = (promotion_tag (decodes c.width f t e) limit).1;
          is = rw own (unless_own narrow.promotion_row c.at _ narrow.refuses);
        })

    field_or_own : (o : Option Field) → field_at s c.at ≡ o → (read_field narrow c o ≡ read_field wide c o) ⊎ Refuses c (read_field narrow c o)
    unfolding read_field
    field_or_own none here = inl refl
    field_or_own (some f) here = go (is_field 6 0 f)
      where
        ends : Read
        ends = end_read (record { at = f.next; width = c.width })

        go : (q : Bool) → (cond q ends (judged narrow c f.next (decoded c.width f)) ≡ cond q ends (judged wide c f.next (decoded c.width f)))
            ⊎ Refuses c (cond q ends (judged narrow c f.next (decoded c.width f)))
        go true = inl refl
        go false = judged_or_own f here (decoded c.width f) refl

    within_or_own : length s ≤ most_bytes → c.width ≤ narrow.widest → (read_at narrow s c ≡ read_at wide s c) ⊎ OwnRead narrow s c
    within_or_own short within = by (field_or_own (field_at s c.at) refl)
      where
        here : read_at narrow s c ≡ read_field narrow c (field_at s c.at)
        here = read_within narrow s c short within

        by : (read_field narrow c (field_at s c.at) ≡ read_field wide c (field_at s c.at)) ⊎ Refuses c (read_field narrow c (field_at s c.at))
            → (read_at narrow s c ≡ read_at wide s c) ⊎ OwnRead narrow s c
        by (inl e) = inl (here ∙ e ∙ sym (read_within wide s c short (le_trans within order)))
        by (inr o) = inr (record { tag = o.tag; width = omega (arith, within, o.width); is = here ∙ o.is })

    pub read_or_own : c.width ≤ narrow.widest → (read_at narrow s c ≡ read_at wide s c) ⊎ OwnRead narrow s c
    unfolding read_at
    read_or_own within = by (ltb most_bytes (length s)) refl
      where
        by : (q : Bool) → ltb most_bytes (length s) ≡ q → (read_at narrow s c ≡ read_at wide s c) ⊎ OwnRead narrow s c
        by true h = inl (rw h)
        by false h = within_or_own (ltb-false most_bytes (length s) h) within

  module _ (short : length s ≤ most_bytes) where
    behind : (t : Step Float) {a b : Answer (List (Step Float))} → (a ≡ b) ⊎ OwnWalk a b
        → (mapped (λ ts. t ∷ ts) a ≡ mapped (λ ts. t ∷ ts) b) ⊎ OwnWalk (mapped (λ ts. t ∷ ts) a) (mapped (λ ts. t ∷ ts) b)
    unfolding mapped
    behind t (inl e) = inl (ap (mapped (λ ts. t ∷ ts)) e)
    behind t {a} {b} (inr o) = inr (record {
      at = o.at;
      read = o.read;
      is = ap (mapped (λ ts. t ∷ ts)) o.is;
      later = mapped_not_before (λ ts. t ∷ ts) o.at b o.later;
    })

    -- one read further, by what the walks from the next cursor give; the wide one's is no refusal before the cursor
    module _ (c : Cursor) (within : c.width ≤ narrow.widest) (here there : Cursor → Answer (List (Step Float)))
        (rest : (d : Cursor) → d.width ≤ narrow.widest → (here d ≡ there d) ⊎ OwnWalk (here d) (there d))
        (later : NotBefore c.at (follow s (read_at wide s c) there)) where
      follow_alike : (r : Read) → read_at narrow s c ≡ r → (follow s r here ≡ follow s r there) ⊎ OwnWalk (follow s r here) (follow s r there)
      unfolding follow
      follow_alike (step_read t d) e = behind t (rest d (step_read_lem narrow s c d t e).within)
      follow_alike (end_read d) e = inl refl
      follow_alike (refused_read n at) e = inl refl

      follow_or_own : (follow s (read_at narrow s c) here ≡ follow s (read_at wide s c) there) ⊎ OwnWalk (follow s (read_at narrow s c) here) (follow s (read_at wide s c) there)
      unfolding follow
      follow_or_own = by (read_or_own c within)
        where
          by : (read_at narrow s c ≡ read_at wide s c) ⊎ OwnRead narrow s c
              → (follow s (read_at narrow s c) here ≡ follow s (read_at wide s c) there) ⊎ OwnWalk (follow s (read_at narrow s c) here) (follow s (read_at wide s c) there)
          by (inl e) = rw (← e) (follow_alike (read_at narrow s c) refl)
          by (inr o) = inr (record {
            at = c.at;
            read = subst (λ (n : ℕ). OwnRead narrow s (record { at = c.at; width = n })) o.width o;
            is = rw o.is;
            later = later;
          })

    walk_or_own : (fuel : ℕ) (c : Cursor) → c.width ≤ narrow.widest
        → (walk narrow fuel s c ≡ walk wide fuel s c) ⊎ OwnWalk (walk narrow fuel s c) (walk wide fuel s c)
    unfolding walk
    walk_or_own zero c within = inl refl
    walk_or_own (suc fuel) c within =
        follow_or_own c within (walk narrow fuel s) (walk wide fuel s) (walk_or_own fuel) (unfold walk in walk_not_before wide s short (suc fuel) c)

  begun_or_own : length s ≤ most_bytes → (o : Option ℕ) → start_width (field_at s 0) ≡ o → run_of narrow s ≡ begun narrow s o → run_of wide s ≡ begun wide s o
      → (run_of narrow s ≡ run_of wide s) ⊎ Own wide narrow s
  unfolding begun mapped
  begun_or_own short none gives here there = inl (here ∙ sym there)
  begun_or_own short (some n) gives here there = by (ltb narrow.widest n) refl
    where
      steps : Caller → Answer (List (Step Float))
      steps caller = walk caller (length s) s (record { at = 4; width = n })

      whole : List (Step Float) → Run
      whole ts = record { width = n; steps = ts }

      begins : (caller : Caller) → n ≤ caller.widest → begun caller s (some n) ≡ mapped whole (steps caller)
      begins caller h = rw (le-ltb caller.widest n h)

      too_wide : narrow.widest < n → begun narrow s (some n) ≡ refused_at narrow.start_row 0
      too_wide h = rw (lt-ltb narrow.widest n h)

      started : n ≤ narrow.widest → (steps narrow ≡ steps wide) ⊎ OwnWalk (steps narrow) (steps wide) → (run_of narrow s ≡ run_of wide s) ⊎ Own wide narrow s
      started h (inl e) = inl (here ∙ begins narrow h ∙ ap (mapped whole) e ∙ sym (there ∙ begins wide (le_trans h order)))
      started h (inr o) = inr (promotion_at o.at o.read (here ∙ begins narrow h ∙ ap (mapped whole) o.is) (rw (there ∙ begins wide (le_trans h order)) (mapped_not_before whole o.at (steps wide) o.later)))

      by : (q : Bool) → ltb narrow.widest n ≡ q → (run_of narrow s ≡ run_of wide s) ⊎ Own wide narrow s
      by true h = let over = ltb-true narrow.widest n h in inr (start_over n gives over (here ∙ too_wide over))
      by false h = let within = ltb-false narrow.widest n h in started within (walk_or_own short (length s) (record { at = 4; width = n }) within)

  pub run_or_own : (run_of narrow s ≡ run_of wide s) ⊎ Own wide narrow s
  unfolding run_of
  run_or_own = by (ltb most_bytes (length s)) refl
    where
      by : (q : Bool) → ltb most_bytes (length s) ≡ q → (run_of narrow s ≡ run_of wide s) ⊎ Own wide narrow s
      by true h = inl (rw h)
      by false h = begun_or_own (ltb-false most_bytes (length s) h) (start_width (field_at s 0)) refl (rw h) (rw h)
