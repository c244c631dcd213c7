-- A loop that rewrites the first n entries of a list in place, each in one turn: one entry a turn, or two.
use Rattle.std.specs.Prelude.{◌≡◌, refl, ◌⊎◌, List, ℕ, ◌+◌, ◌≤◌, ◌<◌, length, get_or, set}
use Rattle.std.proofs.Common.{sym, ap, ◌∙◌, subst, ⊎_elim, eq-or-lt_of_le, arith, length-set, get_or-set_same, get_or-set_other}
use Rattle.bitlaws.specs.Order.{le_or_lt}

-- After t turns the list l₀ is l. `turn k` is the turn that writes entry k, and `f k` what it writes there; d stands for entries past the end.
pub record Swept {A : Type 0} (d : A) (turn : ℕ → ℕ) (f : ℕ → A) (n : ℕ) (l₀ : List A) (t : ℕ) (l : List A) : Type 0 where
  pub room : n ≤ length l₀
  pub len : length l ≡ length l₀
  pub done : (k : ℕ) → k < n → turn k < t → get_or l k d ≡ f k
  pub ahead : (k : ℕ) → k < n → t ≤ turn k → get_or l k d ≡ get_or l₀ k d
  pub past : (k : ℕ) → n ≤ k → get_or l k d ≡ get_or l₀ k d

module _ {A : Type 0} {d : A} {turn : ℕ → ℕ} {f : ℕ → A} {n : ℕ} {l₀ : List A} where
  pub swept_none : n ≤ length l₀ → Swept d turn f n l₀ 0 l₀
  swept_none r = record { room = r; len = refl; done = λ k h b. absurd (omega arith); ahead = λ k h b. refl; past = λ k h. refl }

  module _ {t : ℕ} {l : List A} (s : Swept d turn f n l₀ t l) where
    -- a turn that writes v at i
    module _ (i : ℕ) (v : A) (hi : i < n) (ti : turn i ≡ t) (only : (k : ℕ) → k < n → turn k ≡ t → k ≡ i) (ev : v ≡ f i) where
      swept_one : Swept d turn f n l₀ (t + 1) (set l i v)
      swept_one =
          let bi : i < length l = omega (arith, s.room, s.len) in
          let off : (k : ℕ) → (turn k ≡ t → ⊥) → get_or (set l i v) k d ≡ get_or l k d = λ k ne. get_or-set_other l i k v d (λ e. ne (ap turn e ∙ ti)) in record {
            room = s.room;
            len = length-set l i v ∙ s.len;
            done = λ k h b.
                ⊎_elim (λ e. ap (λ (m : ℕ). get_or (set l i v) m d) (only k h e) ∙ get_or-set_same l i v d bi ∙ ev ∙ ap f (sym (only k h e)))
                (λ lt. off k (λ e. omega arith) ∙ s.done k h lt)
                (eq-or-lt_of_le (omega arith));
            ahead = λ k h b. off k (λ e. omega arith) ∙ s.ahead k h (omega arith);
            past = λ k h. get_or-set_other l i k v d (λ e. omega arith) ∙ s.past k h;
          }

    -- a turn that writes v at i and w at j
    module _ (i j : ℕ) (v w : A) (hi : i < n) (hj : j < n) (ne : i ≡ j → ⊥) (ti : turn i ≡ t) (tj : turn j ≡ t)
        (only : (k : ℕ) → k < n → turn k ≡ t → (k ≡ i) ⊎ (k ≡ j)) (ev : v ≡ f i) (ew : w ≡ f j) where
      pub swept_two : Swept d turn f n l₀ (t + 1) (set (set l i v) j w)
      swept_two =
          let l' : List A = set l i v in
          let bi : i < length l = omega (arith, s.room, s.len) in
          let bj : j < length l' = omega (arith, s.room, s.len, length-set l i v) in
          let off : (k : ℕ) → (k ≡ i → ⊥) → (k ≡ j → ⊥) → get_or (set l' j w) k d ≡ get_or l k d
          = λ k ni nj. get_or-set_other l' j k w d nj ∙ get_or-set_other l i k v d ni in
          let at_i : get_or (set l' j w) i d ≡ f i = get_or-set_other l' j i w d ne ∙ get_or-set_same l i v d bi ∙ ev in
          let at_j : get_or (set l' j w) j d ≡ f j = get_or-set_same l' j w d bj ∙ ew in
          let not-now : (k : ℕ) → (turn k ≡ t → ⊥) → get_or (set l' j w) k d ≡ get_or l k d
          = λ k other. off k (λ e. other (ap turn e ∙ ti)) (λ e. other (ap turn e ∙ tj)) in record {
            room = s.room;
            len = length-set l' j w ∙ length-set l i v ∙ s.len;
            done = λ k h b.
                ⊎_elim
                (λ e. ⊎_elim (λ q. subst (λ (m : ℕ). get_or (set l' j w) m d ≡ f m) (sym q) at_i) (λ q. subst (λ (m : ℕ). get_or (set l' j w) m d ≡ f m) (sym q) at_j) (only k h e))
                (λ lt. not-now k (λ e. omega arith) ∙ s.done k h lt)
                (eq-or-lt_of_le (omega arith));
            ahead = λ k h b. not-now k (λ e. omega arith) ∙ s.ahead k h (omega arith);
            past = λ k h. off k (λ e. omega arith) (λ e. omega arith) ∙ s.past k h;
          }

-- a loop that goes up: turn k writes entry k
abbrev pub Rising : {A : Type 0} → A → (ℕ → A) → ℕ → List A → ℕ → List A → Type 0
Rising d f n l₀ t l = Swept d (λ k. k) f n l₀ t l

module _ {A : Type 0} {d : A} {f : ℕ → A} {n : ℕ} {l₀ : List A} {t : ℕ} {l : List A} (s : Rising d f n l₀ t l) where
  pub rising_next : (l' : List A) (v : A) → l' ≡ set l t v → t < n → v ≡ f t → Rising d f n l₀ (t + 1) l'
  rising_next l' v e h ev = subst (Rising d f n l₀ (t + 1)) (sym e) (swept_one s t v h refl (λ k b q. q) ev)

  -- an entry that is not yet reached, inside or past the n
  pub rising_ahead : (k : ℕ) → t ≤ k → get_or l k d ≡ get_or l₀ k d
  rising_ahead k h = ⊎_elim (λ (p : n ≤ k). s.past k p) (λ (q : k < n). s.ahead k q h) (le_or_lt n k)
