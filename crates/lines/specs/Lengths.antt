-- How long the lines are.
use Rattle.std.specs.Prelude.{◌≡◌, refl, Bool, true, false, cond, List, [], ◌∷◌, ◌++◌, ℕ, zero, suc, ◌+◌, ◌/◌, ◌%◌, ◌^◌, ◌≤◌, ◌<◌, ltb, Float, length}
use Rattle.std.proofs.Common.{ap, ◌∙◌, arith, length-append, ltb-false}
use Rattle.std.proofs.Math.Nat.{pow-succ'}
use Rattle.io.specs.Digits.{hex_digit_ascii, last_digits}
use Rattle.lines.specs.Lines.{decimal_up_to, decimal, listed_bits, part, width_line, amplitude_line, refusal_line}

pub digits_length : (b k n : ℕ) → length (last_digits b k n) ≡ k
digits_length b zero n = refl
digits_length b (suc k) n =
    let front : length (last_digits b k (n / b)) ≡ k = digits_length b k (n / b) in
    length-append (last_digits b k (n / b)) (hex_digit_ascii (n % b) ∷ []) ∙ omega (arith, front)

pub part_length : (x : Float) → length (part x) ≡ 17
unfolding part
part_length x = ap suc (digits_length 16 16 (listed_bits x))

-- ---- a number in decimal: a number below 10^(k+1) has at most k + 1 digits

-- n of two digits or more: those of n / 10, and one more
one_more : (k n last : ℕ) (front : List ℕ) → 10 ≤ n → n < 10 ^ suc k → ((j : ℕ) → n / 10 < 10 ^ suc j → length front ≤ suc j) → length (front ++ last ∷ []) ≤ suc k
one_more zero n last front l h shorter = absurd (omega (arith, pow-succ' 10 0))
one_more (suc k) n last front l h shorter = omega (arith, length-append front (last ∷ []), shorter k (omega (arith, pow-succ' 10 (suc k))))

up_to_most : (most k n : ℕ) → n < 10 ^ suc k → length (decimal_up_to most n) ≤ suc k
unfolding decimal_up_to
up_to_most zero k n h = omega arith
up_to_most (suc most) k n h = by (ltb n 10) refl (λ j. up_to_most most j (n / 10))
  where
    by : (t : Bool) → ltb n 10 ≡ t → ((j : ℕ) → n / 10 < 10 ^ suc j → length (decimal_up_to most (n / 10)) ≤ suc j)
        → length (cond t (hex_digit_ascii n ∷ []) (decimal_up_to most (n / 10) ++ hex_digit_ascii (n % 10) ∷ [])) ≤ suc k
    by true e shorter = omega arith
    by false e shorter = one_more k n (hex_digit_ascii (n % 10)) (decimal_up_to most (n / 10)) (ltb-false n 10 e) h shorter

pub decimal_most : (k n : ℕ) → n < 10 ^ suc k → length (decimal n) ≤ suc k
unfolding decimal
decimal_most k n h = up_to_most n k n h

-- ---- the lines

pub width_length : (width : ℕ) → length (width_line width) ≡ 8 + length (decimal width)
unfolding width_line
width_length width = omega (arith, length-append (decimal width) (10 ∷ []))

pub amplitude_length : (basis : ℕ) (re im : Float) → length (amplitude_line basis re im) ≡ length (decimal basis) + 35
unfolding amplitude_line
amplitude_length basis re im =
    length-append (decimal basis) (part re ++ (part im ++ 10 ∷ []))
    ∙ omega (arith, length-append (part re) (part im ++ 10 ∷ []), length-append (part im) (10 ∷ []), part_length re, part_length im)

pub refusal_length : (number : ℕ) → length (refusal_line number) ≡ 9 + length (decimal number)
unfolding refusal_line
refusal_length number = omega (arith, length-append (decimal number) (10 ∷ []))
