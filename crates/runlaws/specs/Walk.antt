-- How the walk over a run's fields goes, read by read.
use Rattle.std.proofs.Math.Path.{◌≡◌, refl, ap}
use Rattle.std.proofs.Common.{sym, ◌∙◌, subst, arith, ltb-false, le-ltb}
use Rattle.std.specs.Prelude.{Bool, ℕ, zero, suc, ◌+◌, ◌-◌, ◌≤◌, Float, length}
use Rattle.std.proofs.Math.Bool.{true, false, cond}
use mathlib.Core.List.{List, [], ◌∷◌}
use Rattle.std.proofs.Math.Dec.{ltb}
use Rattle.answers.specs.Answer.{Answer}
use Rattle.answers.specs.Answer.Answer.{accepted, refused_at}
use Rattle.answers.specs.Row.{refused_at_accepted}
use Rattle.amplitudelaws.specs.Step.{Step}
use Rattle.framelaws.specs.Caller.{Caller}
use Rattle.framelaws.specs.Allowed.{Allowed}
use Rattle.runlaws.specs.Field.{most_bytes}
use Rattle.runlaws.specs.Reading.{Cursor, Read, read_field, read_at}
use Rattle.runlaws.specs.Reading.Read.{step_read, end_read, refused_read}
use Rattle.runlaws.specs.Run.{mapped, ended, follow, walk}
use Rattle.runlaws.specs.Fields.{field_past, step_read_lem, size_ge}
use Rattle.runlaws.specs.Mapped.{mapped_accepted}

-- with fuel for what is left of a run that is not too long it goes by the read at its cursor
pub walk_by : (caller : Caller) (fuel : ℕ) (s : List ℕ) (c : Cursor) → length s ≤ most_bytes → length s ≤ c.at + fuel
    → walk caller fuel s c ≡ follow s (read_at caller s c) (walk caller (fuel - 1) s)
unfolding walk follow read_at read_field
walk_by caller zero s c short h = rw (le-ltb most_bytes (length s) short, field_past s c.at (omega arith)) (go (ltb caller.widest c.width))
  where
    go : (q : Bool) → refused_at 14 c.at ≡ follow s (cond q (refused_read 14 c.at) (refused_read 14 c.at)) (walk caller (0 - 1) s)
    go true = refl
    go false = refl
walk_by caller (suc fuel) s c short h = let less : suc fuel - 1 ≡ fuel = omega arith in rw less

-- a step and what the walk behind it gives
pub walk_step : (caller : Caller) (fuel : ℕ) (s : List ℕ) (c d : Cursor) (t : Step Float) (ts : List (Step Float))
    → length s ≤ most_bytes → length s ≤ c.at + fuel → read_at caller s c ≡ step_read t d → walk caller (fuel - 1) s d ≡ accepted ts
    → walk caller fuel s c ≡ accepted (t ∷ ts)
unfolding follow mapped
walk_step caller fuel s c d t ts short h e rest = walk_by caller fuel s c short h ∙ rw (e, rest)

-- a run's end field stands last
module _ (s : List ℕ) (c : Cursor) where
  pub ended_accepted : (ts : List (Step Float)) → ended s c ≡ accepted ts → (length s ≤ c.at) × (ts ≡ [])
  unfolding ended
  ended_accepted ts e = go (ltb c.at (length s)) refl e
    where
      go : (q : Bool) → ltb c.at (length s) ≡ q → cond q (refused_at 14 c.at) (accepted []) ≡ accepted ts → (length s ≤ c.at) × (ts ≡ [])
      go true h e = absurd (refused_at_accepted e)
      go false h e = (ltb-false c.at (length s) h, cc)

-- an accepted walk whose first step is t
pub record First (caller : Caller) (fuel : ℕ) (s : List ℕ) (c : Cursor) (t : Step Float) (ts : List (Step Float)) : Type 0 where
  pub behind : Cursor
  pub read : read_at caller s c ≡ step_read t behind
  pub enough : length s ≤ behind.at + (fuel - 1)
  pub walked : walk caller (fuel - 1) s behind ≡ accepted ts

-- one that has no step
pub record Last (caller : Caller) (s : List ℕ) (c : Cursor) : Type 0 where
  pub behind : Cursor
  pub read : read_at caller s c ≡ end_read behind
  pub long : length s ≤ behind.at

module _ (caller : Caller) (fuel : ℕ) (s : List ℕ) (c : Cursor) (short : length s ≤ most_bytes) (enough : length s ≤ c.at + fuel) where
  pub first_step : (t : Step Float) (ts : List (Step Float)) → walk caller fuel s c ≡ accepted (t ∷ ts) → First caller fuel s c t ts
  unfolding follow
  first_step t ts e = go (read_at caller s c) refl (sym (walk_by caller fuel s c short enough) ∙ e)
    where
      go : (r : Read) → read_at caller s c ≡ r → follow s r (walk caller (fuel - 1) s) ≡ accepted (t ∷ ts) → First caller fuel s c t ts
      go (step_read t' d) h e =
          let m = mapped_accepted (λ (ts : List (Step Float)). t' ∷ ts) (walk caller (fuel - 1) s d) (t ∷ ts) e in
          let r = step_read_lem caller s c d t' h in
          let head : t' ≡ t = cc in
          let tail : m.value ≡ ts = cc in
          record {
            behind = d;
            read = h ∙ ap (λ (t : Step Float). step_read t d) head;
            enough = omega (arith, r.next, size_ge t');
            walked = m.was ∙ ap accepted tail;
          }
      go (end_read d) h e = absurd (let n = (ended_accepted s d (t ∷ ts) e).1 in let z : ◌≡◌ {A = ℕ} 0 1 = cc in omega arith)
      go (refused_read n at) h e = absurd (refused_at_accepted e)

  pub last_field : walk caller fuel s c ≡ accepted [] → Last caller s c
  unfolding follow
  last_field e = go (read_at caller s c) refl (sym (walk_by caller fuel s c short enough) ∙ e)
    where
      go : (r : Read) → read_at caller s c ≡ r → follow s r (walk caller (fuel - 1) s) ≡ accepted [] → Last caller s c
      go (step_read t d) h e =
          let m = mapped_accepted (λ (ts : List (Step Float)). t ∷ ts) (walk caller (fuel - 1) s d) [] e in
          absurd (let z : ◌≡◌ {A = ℕ} 0 1 = cc m.is in omega arith)
      go (end_read d) h e = record { behind = d; read = h; long = (ended_accepted s d [] e).0 }
      go (refused_read n at) h e = absurd (refused_at_accepted e)

-- the steps of an accepted walk are allowed
pub walk_allowed : (caller : Caller) (fuel : ℕ) (s : List ℕ) (c : Cursor) (ts : List (Step Float)) → length s ≤ most_bytes → length s ≤ c.at + fuel
    → walk caller fuel s c ≡ accepted ts → Allowed caller c.width ts
walk_allowed caller fuel s c [] short h e = tt
walk_allowed caller fuel s c (t ∷ ts) short h e =
    let k = first_step caller fuel s c short h t ts e in
    let r = step_read_lem caller s c k.behind t k.read in
    (r.placed, r.row, rw r.width at (walk_allowed caller (fuel - 1) s k.behind ts short k.enough k.walked))

-- What a loop over a run keeps: the walk from its cursor, with fuel for what is left, gives `rest`.
pub record Left (caller : Caller) (s : List ℕ) (c : Cursor) (rest : Answer (List (Step Float))) : Type 0 where
  pub fuel : ℕ
  pub short : length s ≤ most_bytes
  pub enough : length s ≤ c.at + fuel
  pub same : walk caller fuel s c ≡ rest
  pub inside : c.at ≤ length s

pub left_outset : (caller : Caller) (s : List ℕ) (c : Cursor) → length s ≤ most_bytes → c.at ≤ length s → Left caller s c (walk caller (length s) s c)
left_outset caller s c short h = record { fuel = length s; short = short; enough = omega arith; same = refl; inside = h }

-- behind a step
pub record Next (caller : Caller) (s : List ℕ) (d : Cursor) (t : Step Float) (rest : Answer (List (Step Float))) : Type 0 where
  pub after : Answer (List (Step Float))
  pub rest_is : rest ≡ mapped (λ (ts : List (Step Float)). t ∷ ts) after
  pub left : Left caller s d after

-- behind a step of a run that is accepted
pub record AcceptedNext (caller : Caller) (s : List ℕ) (d : Cursor) (t : Step Float) (ts : List (Step Float)) : Type 0 where
  pub after : List (Step Float)
  pub rest_is : ts ≡ t ∷ after
  pub left : Left caller s d (accepted after)

module _ {caller : Caller} {s : List ℕ} {c : Cursor} where
  module _ {rest : Answer (List (Step Float))} (l : Left caller s c rest) where
    by_read : (r : Read) → read_at caller s c ≡ r → rest ≡ follow s r (walk caller (l.fuel - 1) s)
    by_read r e = sym l.same ∙ walk_by caller l.fuel s c l.short l.enough ∙ rw e

    pub left_step : (t : Step Float) (d : Cursor) → read_at caller s c ≡ step_read t d → Next caller s d t rest
    unfolding follow
    left_step t d e =
        let r = step_read_lem caller s c d t e in
        record {
          after = walk caller (l.fuel - 1) s d;
          rest_is = by_read (step_read t d) e;
          left = record {
            fuel = l.fuel - 1;
            short = l.short;
            enough = omega (arith, r.next, size_ge t, l.enough, l.inside);
            same = refl;
            inside = r.inside;
          };
        }

    pub left_end : (d : Cursor) → read_at caller s c ≡ end_read d → rest ≡ ended s d
    unfolding follow
    left_end d e = by_read (end_read d) e

    pub left_refused : (n at : ℕ) → read_at caller s c ≡ refused_read n at → rest ≡ refused_at n at
    unfolding follow
    left_refused n at e = by_read (refused_read n at) e

  module _ {ts : List (Step Float)} (l : Left caller s c (accepted ts)) where
    pub accepted_step : (t : Step Float) (d : Cursor) → read_at caller s c ≡ step_read t d → AcceptedNext caller s d t ts
    accepted_step t d e =
        let k = left_step l t d e in
        let m = mapped_accepted (λ (ts : List (Step Float)). t ∷ ts) k.after ts (sym k.rest_is) in
        record { after = m.value; rest_is = m.is; left = subst (Left caller s d) m.was k.left }

    pub accepted_end : (d : Cursor) → read_at caller s c ≡ end_read d → ts ≡ []
    accepted_end d e = (ended_accepted s d ts (sym (left_end l d e))).1

    pub accepted_refused : (n at : ℕ) → read_at caller s c ≡ refused_read n at → ⊥
    accepted_refused n at e = refused_at_accepted (sym (left_refused l n at e))
