-- What is asked is what is read: a text is parted at its first byte of a kind, a number's digits are read back as the number, and no run has a step of `no_step`.
use Rattle.std.specs.Prelude.{◌≡◌, refl, Bool, true, false, cond, List, [], ◌∷◌, ◌++◌, ℕ, zero, suc, ◌+◌, ◌-◌, ◌*◌, ◌/◌, ◌%◌, ◌≤◌, ◌<◌, min, eqb, ltb}
use Rattle.std.proofs.Common.{ap, ◌∙◌, arith, eqb-true, ltb-true, ltb-false, le-leb, lt-ltb}
use Rattle.io.specs.Digits.{hex_digit_ascii}
use Rattle.lines.specs.Lines.{decimal_up_to, decimal}
use Rattle.reports.specs.Input.{before, after, has, no_step, is_digit, grown, number_from, number}

pub parted : (b : ℕ) (s : List ℕ) → has b s ≡ true → s ≡ before b s ++ b ∷ after b s
unfolding has before after
parted b [] h = absurd (let z : ◌≡◌ {A = ℕ} 0 1 = ap (λ t. cond t 1 0) h in omega arith)
parted b (x ∷ s) h = by (eqb x b) refl h (parted b s)
  where
    by : (t : Bool) → eqb x b ≡ t → cond t true (has b s) ≡ true → (has b s ≡ true → s ≡ before b s ++ b ∷ after b s)
        → x ∷ s ≡ cond t [] (x ∷ before b s) ++ b ∷ cond t s (after b s)
    by true e h rest = ap (λ (y : ℕ). y ∷ s) (eqb-true x b e)
    by false e h rest = ap (λ (l : List ℕ). x ∷ l) (rest h)

pub first_part : (b : ℕ) (s : List ℕ) → has b (before b s) ≡ false
unfolding has before
first_part b [] = refl
first_part b (x ∷ s) = by (eqb x b) refl (first_part b s)
  where
    by : (t : Bool) → eqb x b ≡ t → has b (before b s) ≡ false → has b (cond t [] (x ∷ before b s)) ≡ false
    by true e rest = refl
    by false e rest = rw e rest

-- ---- a number

digit_behind : (v d : ℕ) (s : List ℕ) → number_from v (s ++ d ∷ []) ≡ cond (is_digit d) (grown (number_from v s) d) no_step
unfolding number_from grown
digit_behind v d [] = refl
digit_behind v d (x ∷ s) = by (is_digit x) (digit_behind (grown v x) d s)
  where
    over : (t : Bool) → no_step ≡ cond t (min no_step (10 * no_step + (d - 48))) no_step
    over true = omega arith
    over false = refl

    by : (t : Bool) → number_from (grown v x) (s ++ d ∷ []) ≡ cond (is_digit d) (grown (number_from (grown v x) s) d) no_step
        → cond t (number_from (grown v x) (s ++ d ∷ [])) no_step ≡ cond (is_digit d) (grown (cond t (number_from (grown v x) s) no_step) d) no_step
    by true e = e
    by false e = over (is_digit d)

glyph_is : (d : ℕ) → d < 10 → hex_digit_ascii d ≡ 48 + d
glyph_is d h = rw (lt-ltb d 10 h)

glyph_digit : (d : ℕ) → d < 10 → is_digit (48 + d) ≡ true
unfolding is_digit
glyph_digit d h = rw (le-leb 48 (48 + d) (omega arith), le-leb (48 + d) 57 (omega (arith, h)))

last_digit : (v d : ℕ) (s : List ℕ) → d < 10 → number_from v (s ++ hex_digit_ascii d ∷ []) ≡ min no_step (10 * number_from v s + d)
unfolding grown
last_digit v d s h = rw (glyph_is d h) (digit_behind v (48 + d) s ∙ rw (glyph_digit d h) (omega arith))

up_to_back : (most n : ℕ) → n ≤ most → number_from 0 (decimal_up_to most n) ≡ min no_step n
unfolding decimal_up_to number_from
up_to_back zero n h = last_digit 0 0 [] (omega arith) ∙ omega (arith, h)
up_to_back (suc most) n h = by (ltb n 10) refl (up_to_back most (n / 10))
  where
    by : (t : Bool) → ltb n 10 ≡ t → (n / 10 ≤ most → number_from 0 (decimal_up_to most (n / 10)) ≡ min no_step (n / 10))
        → number_from 0 (cond t (hex_digit_ascii n ∷ []) (decimal_up_to most (n / 10) ++ hex_digit_ascii (n % 10) ∷ [])) ≡ min no_step n
    by true e rest = last_digit 0 n [] (ltb-true n 10 e) ∙ omega arith
    by false e rest = last_digit 0 (n % 10) (decimal_up_to most (n / 10)) (omega arith)
        ∙ omega (arith, rest (omega (arith, h, ltb-false n 10 e)), ltb-false n 10 e)

number_last : (s : List ℕ) (d : ℕ) → number (s ++ d ∷ []) ≡ number_from 0 (s ++ d ∷ [])
unfolding number
number_last [] d = refl
number_last (x ∷ s) d = refl

-- the digits of a number are read as the number
pub number_back : (n : ℕ) → number (decimal n) ≡ min no_step n
unfolding decimal decimal_up_to
number_back zero = number_last [] (hex_digit_ascii 0) ∙ up_to_back 0 0 (omega arith)
number_back (suc n) = by (ltb (suc n) 10) (up_to_back (suc n) (suc n) (omega arith))
  where
    by : (t : Bool) → let s = cond t (hex_digit_ascii (suc n) ∷ []) (decimal_up_to n (suc n / 10) ++ hex_digit_ascii (suc n % 10) ∷ []) in number_from 0 s ≡ min no_step (suc n) → number s ≡ min no_step (suc n)
    by true e = number_last [] (hex_digit_ascii (suc n)) ∙ e
    by false e = number_last (decimal_up_to n (suc n / 10)) (hex_digit_ascii (suc n % 10)) ∙ e
