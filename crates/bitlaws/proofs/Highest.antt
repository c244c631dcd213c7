-- The highest set bit of a mask.
use Rattle.std.specs.Prelude.{◌≡◌, refl, ℕ, zero, suc, ◌^◌, ◌≤◌, ◌<◌}
use Rattle.std.proofs.Common.{sym, ap, ◌∙◌, ⊎_elim, arith, pow_pos, eq-eqb, ne_eqb}
use Rattle.std.proofs.Math.Option.{none, some}
use Rattle.std.proofs.Math.Decide.{le_ind}
use Rattle.bitlaws.specs.Order.{last_or_before, le_or_lt}
use Rattle.bitlaws.specs.Digit.{digit, set_or_clear, digit_above, digits_same}
use Rattle.bitlaws.specs.Highest.{highest, Top}

some_same : {a b : ℕ} → some a ≡ some b → a ≡ b
some_same e = cc

some_none : {a : ℕ} → some a ≡ none → ⊥
some_none e = let z : ◌≡◌ {A = ℕ} 0 1 = cc in omega arith

step_set : (n a : ℕ) → digit n a ≡ 1 → highest (suc n) a ≡ some n
unfolding highest
step_set n a e = rw (eq-eqb (digit n a) 1 e)

step_clear : (n a : ℕ) → digit n a ≡ 0 → highest (suc n) a ≡ highest n a
unfolding highest
step_clear n a e = rw (ne_eqb (digit n a) 1 (λ f. omega arith))

pub highest_none : (n a : ℕ) → ((r : ℕ) → r < n → digit r a ≡ 0) → highest n a ≡ none
unfolding highest
highest_none zero a h = refl
highest_none (suc n) a h = step_clear n a (h n (omega arith)) ∙ highest_none n a (λ r l. h r (omega arith))

pub highest_some : (n a q : ℕ) → Top n a q → highest n a ≡ some q
highest_some zero a q t = absurd (omega (arith, t.inside))
highest_some (suc n) a q t =
    ⊎_elim (λ (e : q ≡ n). step_set n a (sym (ap (λ (m : ℕ). digit m a) e) ∙ t.set) ∙ ap (λ (m : ℕ). some m) (sym e))
    (λ (h : q < n). step_clear n a (t.above n h (omega arith))
    ∙ highest_some n a q (record { inside = h; set = t.set; above = λ r l m. t.above r l (omega arith) }))
    (last_or_before t.inside)

-- what highest answers is the top
pub highest_top : (n a q : ℕ) → highest n a ≡ some q → Top n a q
unfolding highest
highest_top zero a q e = absurd (let z : ◌≡◌ {A = ℕ} 0 1 = cc in omega arith)
highest_top (suc n) a q e =
    ⊎_elim
    (λ (d : digit n a ≡ 1).
    let same : n ≡ q = some_same (sym (step_set n a d) ∙ e) in
    record {
      inside = omega arith;
      set = ap (λ (m : ℕ). digit m a) (sym same) ∙ d;
      above = λ r l m. absurd (omega arith);
    })
    (λ (clear : digit n a ≡ 0).
    let rest : Top n a q = highest_top n a q (sym (step_clear n a clear) ∙ e) in
    record {
      inside = omega (arith, rest.inside);
      set = rest.set;
      above = λ r l m. ⊎_elim (λ (h : r ≡ n). ap (λ (k : ℕ). digit k a) h ∙ clear) (λ (h : r < n). rest.above r l h) (last_or_before m);
    })
    (set_or_clear n a)

-- and where it answers none, nothing is set
pub none_set : (n a : ℕ) → highest n a ≡ none → (r : ℕ) → r < n → digit r a ≡ 0
none_set zero a e r h = absurd (omega arith)
none_set (suc n) a e r h =
    ⊎_elim
    (λ (d : digit n a ≡ 1). absurd (some_none (sym (step_set n a d) ∙ e)))
    (λ (clear : digit n a ≡ 0).
    ⊎_elim (λ (s : r ≡ n). ap (λ (k : ℕ). digit k a) s ∙ clear) (λ (s : r < n). none_set n a (sym (step_clear n a clear) ∙ e) r s) (last_or_before h))
    (set_or_clear n a)

-- so a mask of that width is 0
pub none_zero : (n a : ℕ) → a < 2 ^ n → highest n a ≡ none → a ≡ 0
none_zero n a small e = digits_same n a 0 small (pow_pos n) (λ i b. none_set n a e i b ∙ sym (digit_above 0 i 0 (pow_pos 0) (omega arith)))

-- looking higher than the mask reaches finds no more
pub highest_wider : (n m a : ℕ) → a < 2 ^ n → n ≤ m → highest m a ≡ highest n a
highest_wider n m a h l = le_ind (λ (k : ℕ). highest k a ≡ highest n a) refl (λ k up e. step_clear k a (digit_above n k a h up) ∙ e) m l

-- so all widths that the mask fits find the same
pub highest_agree : (n m a : ℕ) → a < 2 ^ n → a < 2 ^ m → highest n a ≡ highest m a
highest_agree n m a h k =
    ⊎_elim (λ (l : n ≤ m). sym (highest_wider n m a h l)) (λ (l : m < n). highest_wider m n a k (omega arith)) (le_or_lt n m)
