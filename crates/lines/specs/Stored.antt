-- A text put into a buffer at a place, and one behind another.
use Rattle.std.specs.Prelude.{◌≡◌, refl, List, [], ◌++◌, ℕ, ◌+◌, ◌≤◌, length, take, drop}
use Rattle.std.proofs.Common.{sym, ap, ap₂, ◌∙◌, zero-add, arith, length-append, take_at}
use Rattle.std.proofs.lemmas.List.Edits.{sets, sets-eq}
use Rattle.std.proofs.Math.Seq.{length-sets, take-length}
use Rattle.lines.specs.Pieces.{sets_next}

-- `new` is `old` with the text from `at` up to `end`
pub record Stored (text : List ℕ) (at : ℕ) (old : List ℕ) (end : ℕ) (new : List ℕ) : Type 0 where
  pub ends : end ≡ at + length text
  pub stands : new ≡ sets old at text

pub stored_none : {at : ℕ} {old : List ℕ} → Stored [] at old at old
stored_none = record { ends = omega arith; stands = refl }

module _ {s : List ℕ} {at end : ℕ} {old new : List ℕ} (p : Stored s at old end new) where
  pub stored_kept : length new ≡ length old
  stored_kept = ap length p.stands ∙ length-sets old at s

  pub stored_next : {t : List ℕ} {last : ℕ} {left : List ℕ} → Stored t end new last left → Stored (s ++ t) at old last left
  stored_next {t} {last} {left} q = record {
    ends = omega (arith, p.ends, q.ends, length-append s t);
    stands = sets_next old at end s t new left p.stands p.ends q.stands;
  }

  -- a text that was made at the start of a buffer
  pub stored_made : at ≡ 0 → length s ≤ length old → take end new ≡ s
  stored_made first h =
      ap₂ take (p.ends ∙ ap (λ (n : ℕ). n + length s) first ∙ zero-add (length s)) (p.stands ∙ ap (λ (n : ℕ). sets old n s) first ∙ sets-eq s old 0 (omega (arith, h)))
      ∙ take_at s (drop (0 + length s) old) (length s) refl

-- a text that is copied to the start of a buffer
pub copied_all : (s old : List ℕ) → length s ≤ length old → take (length s) s ++ drop (length s) old ≡ sets old 0 s
copied_all s old h = ap₂ ◌++◌ (take-length s) (ap (λ (n : ℕ). drop n old) (sym (zero-add (length s)))) ∙ sym (sets-eq s old 0 (omega (arith, h)))
