-- Where a byte stands, from the first place that passes its test.
use Rattle.std.specs.Prelude.{◌≡◌, refl, Bool, true, false, List, [], ◌∷◌, ℕ, ◌+◌, ◌-◌, ◌≤◌, ◌<◌, length, cond, eqb, take, drop, Option, Some, None}
use Rattle.std.proofs.Common.{ltb, ltb-true, ltb-false, sym, ap, ◌∙◌, arith, length-drop}
use Rattle.std.specs.List.{position_or_len}
use Rattle.std.proofs.lemmas.List.{drop-take, length-take-le}
use Rattle.std.proofs.lemmas.List.Recursion.{is_position_or_len}
use Rattle.octets.specs.Bytes.{index_of, index_after, slice}

after_cond : (t : Bool) (k : ℕ) → index_after t k ≡ cond t 0 (1 + k)
unfolding index_after
after_cond true k = refl
after_cond false k = omega arith

first_place : (b : ℕ) (s : List ℕ) → index_of b s ≡ position_or_len (λ x. eqb x b) s
unfolding index_of
first_place b s = is_position_or_len (index_of b) (λ x. eqb x b) refl (λ x xs. after_cond (eqb x b) (index_of b xs)) s

after_within : (t : Bool) (k n : ℕ) → k ≤ n → index_after t k ≤ n + 1
unfolding index_after
after_within true k n h = omega arith
after_within false k n h = omega arith

index_within : (b : ℕ) (s : List ℕ) → index_of b s ≤ length s
unfolding index_of
index_within b [] = omega arith
index_within b (x ∷ s) = omega (arith, after_within (eqb x b) (index_of b s) (length s) (index_within b s))

-- what `position` answers, with the first place p of a text of n bytes
abbrev Position : ℕ → ℕ → Option ℕ → Type 0
Position p n r = r ≡ cond (ltb p n) (Some p) None

position_some : (p n i : ℕ) → Position p n (Some i) → (i ≡ p) × (i < n)
position_some p n i e = go (ltb p n) refl e
  where
    go : (t : Bool) → ltb p n ≡ t → Some i ≡ cond t (Some p) None → (i ≡ p) × (i < n)
    go true l e = let same : i ≡ p = cc in (same, omega (arith, ltb-true p n l))
    go false l e = absurd (let z : ◌≡◌ {A = ℕ} 0 1 = cc in omega arith)

position_none : (p n : ℕ) → Position p n None → n ≤ p
position_none p n e = go (ltb p n) refl e
  where
    go : (t : Bool) → ltb p n ≡ t → None ≡ cond t (Some p) None → n ≤ p
    go true l e = absurd (let z : ◌≡◌ {A = ℕ} 0 1 = cc in omega arith)
    go false l e = ltb-false p n l

module _ (b start end : ℕ) (s : List ℕ) (ordered : start ≤ end) (within : end ≤ length s) where
  part : take (end - start) (drop start s) ≡ slice start end s
  unfolding slice
  part =
      let whole : start + (end - start) ≡ end = omega arith in
      sym (drop-take start (end - start) s) ∙ ap (λ (n : ℕ). drop start (take n s)) whole

  size : length (take (end - start) (drop start s)) ≡ end - start
  size = length-take-le (end - start) (drop start s) (omega (arith, length-drop start s))

  place : position_or_len (λ x. eqb x b) (take (end - start) (drop start s)) ≡ index_of b (slice start end s)
  place = sym (first_place b (take (end - start) (drop start s))) ∙ ap (index_of b) part

  -- what `position` answers in the part
  abbrev pub Found : Option ℕ → Type 0
  Found r = Position (position_or_len (λ x. eqb x b) (take (end - start) (drop start s))) (length (take (end - start) (drop start s))) r

  pub found_some : (i : ℕ) → Found (Some i) → (start + i ≡ start + index_of b (slice start end s)) × (start + i ≤ end)
  found_some i e =
      let h = position_some (position_or_len (λ x. eqb x b) (take (end - start) (drop start s))) (length (take (end - start) (drop start s))) i e in
      (ap (λ (n : ℕ). start + n) (h.0 ∙ place), omega (arith, h.1, size))

  pub found_none : Found None → (end ≡ start + index_of b (slice start end s)) × (end ≤ end)
  found_none e =
      let h = position_none (position_or_len (λ x. eqb x b) (take (end - start) (drop start s))) (length (take (end - start) (drop start s))) e in
      (omega (arith, h, size, place, ap length part, index_within b (slice start end s)), omega arith)
