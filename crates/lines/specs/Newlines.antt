-- A newline ends each line, and stands nowhere else in it.
use Rattle.std.specs.Prelude.{◌≡◌, refl, Bool, true, cond, List, [], ◌∷◌, ◌++◌, ℕ, zero, suc, ◌+◌, ◌/◌, ◌%◌, eqb, ltb, Float}
use Rattle.std.proofs.Common.{◌∙◌, arith, ne_eqb}
use Rattle.std.proofs.Math.Bool.{false}
use Rattle.io.specs.Digits.{hex_digit_ascii, last_digits}
use Rattle.lines.specs.Lines.{decimal_up_to, decimal, listed_bits, part, width_line, amplitude_line, refusal_line}

-- the newlines of a text
unfoldable pub line_count : List ℕ → ℕ
line_count [] = 0
line_count (b ∷ s) = cond (eqb b 10) 1 0 + line_count s

pub count_append : (s t : List ℕ) → line_count (s ++ t) ≡ line_count s + line_count t
unfolding line_count
count_append [] t = omega arith
count_append (b ∷ s) t = omega (arith, count_append s t)

-- ---- a digit is none

other : (b : ℕ) → (b ≡ 10 → ⊥) → (s : List ℕ) → line_count (b ∷ s) ≡ line_count s
unfolding line_count
other b h s = rw (ne_eqb b 10 h) (omega arith)

glyph_other : (d : ℕ) → hex_digit_ascii d ≡ 10 → ⊥
glyph_other d = by (ltb d 10)
  where
    by : (t : Bool) → cond t (48 + d) (87 + d) ≡ 10 → ⊥
    by true e = omega arith
    by false e = omega arith

-- behind digits that have none
one_more : (front : List ℕ) (d : ℕ) → line_count front ≡ 0 → line_count (front ++ hex_digit_ascii d ∷ []) ≡ 0
unfolding line_count
one_more front d e = count_append front (hex_digit_ascii d ∷ []) ∙ omega (arith, e, other (hex_digit_ascii d) (glyph_other d) [])

digits_none : (b k n : ℕ) → line_count (last_digits b k n) ≡ 0
unfolding line_count
digits_none b zero n = refl
digits_none b (suc k) n = one_more (last_digits b k (n / b)) (n % b) (digits_none b k (n / b))

up_to_none : (most n : ℕ) → line_count (decimal_up_to most n) ≡ 0
unfolding decimal_up_to
up_to_none zero n = one_more [] 0 (unfold line_count in refl)
up_to_none (suc most) n = by (ltb n 10) (up_to_none most (n / 10))
  where
    by : (t : Bool) → line_count (decimal_up_to most (n / 10)) ≡ 0 → line_count (cond t (hex_digit_ascii n ∷ []) (decimal_up_to most (n / 10) ++ hex_digit_ascii (n % 10) ∷ [])) ≡ 0
    by true e = one_more [] n (unfold line_count in refl)
    by false e = one_more (decimal_up_to most (n / 10)) (n % 10) e

-- ---- a line has one

ended : (s : List ℕ) → line_count s ≡ 0 → line_count (s ++ 10 ∷ []) ≡ 1
unfolding line_count
ended s e = count_append s (10 ∷ []) ∙ omega (arith, e)

number_one : (n : ℕ) → line_count (decimal n ++ 10 ∷ []) ≡ 1
unfolding decimal
number_one n = ended (decimal_up_to n n) (up_to_none n n)

part_none : (x : Float) → line_count (part x) ≡ 0
unfolding part
part_none x = other 32 (λ e. omega arith) (last_digits 16 16 (listed_bits x)) ∙ digits_none 16 16 (listed_bits x)

pub width_one : (n : ℕ) → line_count (width_line n) ≡ 1
unfolding width_line line_count
width_one n = omega (arith, number_one n)

pub refusal_one : (n : ℕ) → line_count (refusal_line n) ≡ 1
unfolding refusal_line line_count
refusal_one n = omega (arith, number_one n)

pub amplitude_one : (b : ℕ) (re im : Float) → line_count (amplitude_line b re im) ≡ 1
unfolding amplitude_line decimal
amplitude_one b re im =
    count_append (decimal_up_to b b) (part re ++ (part im ++ 10 ∷ []))
    ∙ omega (arith, up_to_none b b, count_append (part re) (part im ++ 10 ∷ []), part_none re, ended (part im) (part_none im))
