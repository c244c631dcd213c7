-- What is listed of a float tells its number and nothing else: either zero as sixteen 0 digits, every NaN as one, and two floats that have the same digits are the
-- same number.
use Rattle.std.specs.Prelude.{◌≡◌, refl, Bool, true, false, cond, not, ◌∷◌, ℕ, zero, suc, ◌+◌, ◌/◌, ◌%◌, ◌^◌, ◌<◌, T, ltb, Float, length, replicate}
use Rattle.std.proofs.Common.{sym, ap, ◌∙◌, arith, ltb-true, ltb-false}
use Rattle.std.proofs.Math.Nat.{pow-succ'}
use Rattle.std.specs.Float.{nan, inf, fin, binary64}
use Rattle.std.specs.Float.Ieee.{fits, is_nan, of_bits, to_bits}
use Rattle.std.specs.Float.Ieee.Bits.{of_bits-to_bits, to_bits-lt}
use Rattle.floatlaws.specs.Same.{plain, Same, same, same_eq, same_sym, same_zeros, ◌⨾◌, is_zero, by_zero}
use Rattle.io.specs.Digits.{hex_digit_ascii, last_digits as digits}
use Rattle.lines.specs.Lengths.{digits_length}
use Rattle.lines.specs.Lines.{bits_of, listed_bits, part}
use Rattle.lines.specs.Pieces.{parts_same}

-- ---- the digits

-- `bench` prints sixteen 0 digits for either zero
pub zero_part : (x : Float) → T (is_zero x) → part x ≡ 32 ∷ replicate 16 48
unfolding part listed_bits
zero_part x h = by_zero (λ z. part z ≡ 32 ∷ replicate 16 48) (λ s e. refl) x h

-- any NaN as 7ff8000000000000
pub nan_part : part nan ≡ 32 ∷ 55 ∷ 102 ∷ 102 ∷ 56 ∷ replicate 12 48
unfolding part listed_bits bits_of is_nan
nan_part = refl

-- and of any other float its bits
pub other_part : (x : Float) → T (not (is_zero x)) → T (not (is_nan x)) → part x ≡ 32 ∷ digits 16 16 (to_bits binary64 x)
unfolding part listed_bits bits_of is_nan
other_part nan h k = absurd k
other_part (inf s) h k = refl
other_part (fin s zero e) h k = absurd h
other_part (fin s (suc m) e) h k = refl

-- ---- the same digits for the same number

plain_part : (x : Float) → part x ≡ part (plain x)
unfolding part listed_bits
plain_part nan = refl
plain_part (inf s) = refl
plain_part (fin s zero e) = refl
plain_part (fin s (suc m) e) = refl

pub same_part : {x y : Float} → Same x y → part x ≡ part y
same_part {x} {y} h = plain_part x ∙ ap part h.plainly ∙ sym (plain_part y)

-- ---- and for no other

glyph_same : (d e : ℕ) → d < 16 → e < 16 → hex_digit_ascii d ≡ hex_digit_ascii e → d ≡ e
glyph_same d e h k = by (ltb d 10) (ltb e 10) refl refl
  where
    by : (t u : Bool) → ltb d 10 ≡ t → ltb e 10 ≡ u → cond t (48 + d) (87 + d) ≡ cond u (48 + e) (87 + e) → d ≡ e
    by true true a b q = omega arith
    by true false a b q = omega (arith, ltb-true d 10 a, ltb-false e 10 b)
    by false true a b q = omega (arith, ltb-false d 10 a, ltb-true e 10 b)
    by false false a b q = omega arith

digits_same : (k n m : ℕ) → n < 16 ^ k → m < 16 ^ k → digits 16 k n ≡ digits 16 k m → n ≡ m
digits_same zero n m h l e = omega arith
digits_same (suc k) n m h l e =
    let long : length (digits 16 k (n / 16)) ≡ length (digits 16 k (m / 16)) = digits_length 16 k (n / 16) ∙ sym (digits_length 16 k (m / 16)) in
    let both = parts_same long e in
    let high : n / 16 ≡ m / 16 = digits_same k (n / 16) (m / 16) (omega (arith, pow-succ' 16 k)) (omega (arith, pow-succ' 16 k)) both.0 in
    let low : n % 16 ≡ m % 16 = glyph_same (n % 16) (m % 16) (omega arith) (omega arith) (let g = both.1 in cc) in
    omega (arith, high, low)

-- a float of the format, read back from what is listed of it
listed_back : (x : Float) → T (fits binary64 x) → Same (of_bits binary64 (listed_bits x)) x
unfolding listed_bits bits_of is_nan of_bits
listed_back nan f = same
listed_back (inf s) f = same_eq (of_bits-to_bits binary64 (inf s) f)
listed_back (fin s zero e) f = same_zeros tt tt
listed_back (fin s (suc m) e) f = same_eq (of_bits-to_bits binary64 (fin s (suc m) e) f)

listed_lt : (x : Float) → T (fits binary64 x) → listed_bits x < 16 ^ 16
unfolding listed_bits bits_of is_nan
listed_lt nan f = omega arith
listed_lt (inf s) f = to_bits-lt binary64 (inf s) f
listed_lt (fin s zero e) f = omega arith
listed_lt (fin s (suc m) e) f = to_bits-lt binary64 (fin s (suc m) e) f

pub part_same : (x y : Float) → T (fits binary64 x) → T (fits binary64 y) → part x ≡ part y → Same x y
unfolding part
part_same x y f g e =
    let digits : digits 16 16 (listed_bits x) ≡ digits 16 16 (listed_bits y) = cc in
    let bits : listed_bits x ≡ listed_bits y = digits_same 16 (listed_bits x) (listed_bits y) (listed_lt x f) (listed_lt y g) digits in
    same_sym (listed_back x f) ⨾ same_eq (ap (of_bits binary64) bits) ⨾ listed_back y g
