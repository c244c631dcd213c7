-- A byte that `octets` finds parts a text as it is read.
use Rattle.std.specs.Prelude.{◌≡◌, refl, Bool, true, false, cond, List, [], ◌∷◌, ℕ, suc, ◌+◌, eqb, ltb, length, take, drop}
use Rattle.std.proofs.Math.Path.{ap}
use Rattle.std.proofs.Common.{◌∙◌, arith, lt-ltb}
use Rattle.std.proofs.Math.Nat.{zero-add}
use Rattle.std.proofs.Math.Dec.{leb-suc-suc}
use Rattle.std.proofs.Math.Seq.{take-length}
use Rattle.octets.specs.Bytes.{index_of, index_after, slice}
use Rattle.reports.specs.Input.{before, after, has}

index_before : (b : ℕ) (s : List ℕ) → take (index_of b s) s ≡ before b s
unfolding index_of index_after before
index_before b [] = refl
index_before b (x ∷ s) = by (eqb x b) (index_before b s)
  where
    by : (t : Bool) → take (index_of b s) s ≡ before b s → take (index_after t (index_of b s)) (x ∷ s) ≡ cond t [] (x ∷ before b s)
    by true e = refl
    by false e = ap (λ (l : List ℕ). x ∷ l) e

index_after_lem : (b : ℕ) (s : List ℕ) → drop (suc (index_of b s)) s ≡ after b s
unfolding index_of index_after after
index_after_lem b [] = refl
index_after_lem b (x ∷ s) = by (eqb x b) (index_after_lem b s)
  where
    by : (t : Bool) → drop (suc (index_of b s)) s ≡ after b s → drop (index_after t (index_of b s)) s ≡ cond t s (after b s)
    by true e = refl
    by false e = e

index_has : (b : ℕ) (s : List ℕ) → ltb (index_of b s) (length s) ≡ has b s
unfolding index_of index_after has
index_has b [] = refl
index_has b (x ∷ s) = by (eqb x b) (index_has b s)
  where
    by : (t : Bool) → ltb (index_of b s) (length s) ≡ has b s → ltb (index_after t (index_of b s)) (suc (length s)) ≡ cond t true (has b s)
    by true e = lt-ltb 0 (suc (length s)) (omega arith)
    by false e = leb-suc-suc (suc (index_of b s)) (length s) ∙ e

module _ (b : ℕ) (s : List ℕ) (end : ℕ) (found : end ≡ 0 + index_of b (slice 0 (length s) s)) where
  place : end ≡ index_of b s
  unfolding slice
  place = found ∙ zero-add (index_of b (take (length s) s)) ∙ ap (index_of b) (take-length s)

  pub found_before : take end s ≡ before b s
  found_before = ap (λ (n : ℕ). take n s) place ∙ index_before b s

  pub found_after : drop (suc end) s ≡ after b s
  found_after = ap (λ (n : ℕ). drop (suc n) s) place ∙ index_after_lem b s

  pub found_has : ltb end (length s) ≡ has b s
  found_has = ap (λ (n : ℕ). ltb n (length s)) place ∙ index_has b s
