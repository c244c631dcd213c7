-- The letters of a Pauli, one to a qubit: reading one, and setting one, which keeps the coefficient.
use Rattle.std.specs.Prelude.{◌≡◌, refl, ℕ, zero, suc, ◌+◌, ◌*◌, ◌/◌, ◌%◌, ◌^◌, ◌<◌, min}
use Rattle.std.proofs.Common.{sym, ap, ◌∙◌, arith}
use Rattle.std.specs.Int.Bits.{bit_and}
use Rattle.std.specs.Int.Count.{ones}
use Rattle.std.proofs.Math.Nat.{mod-add-mod, add-mul-mod_self_right}
use Rattle.bitlaws.specs.Digit.{digit, put, digit_lt}
use Rattle.bitlaws.specs.Bitwise.{digit_and}
use Rattle.bitlaws.specs.Writing.{put_same, ones_put, and_put}
use Rattle.paulilaws.specs.Pauli.{Pauli, ys, coefficient}
use Rattle.paulilaws.specs.Letter.{Letter, I, X, Z, Y, x_part, z_part, letter_of, is_y, letter_at, with_letter, x_digit, z_digit}

y_digits : (x z : ℕ) → x < 2 → z < 2 → is_y (letter_of x z) ≡ min x z
y_digits zero zero p q = refl
y_digits zero (suc z) p q = omega arith
y_digits (suc x) zero p q = omega arith
y_digits (suc zero) (suc zero) p q = refl
y_digits (suc zero) (suc (suc z)) p q = absurd (omega arith)
y_digits (suc (suc x)) (suc z) p q = absurd (omega arith)

-- ---- the phase follows the Ys

ys_set : (q : ℕ) (l : Letter) (P : Pauli) → ys (with_letter q l P) + is_y (letter_at q P) ≡ ys P + is_y l
unfolding ys with_letter letter_at
ys_set q l P =
    let m : ℕ = bit_and P.x P.z in
    let old : is_y (letter_of (digit q P.x) (digit q P.z)) ≡ digit q m
    = y_digits (digit q P.x) (digit q P.z) (digit_lt q P.x) (digit_lt q P.z) ∙ sym (digit_and q P.x P.z) in
    let new : ones (bit_and (put q (x_part l) P.x) (put q (z_part l) P.z)) ≡ ones (m / 2 ^ q / 2) + is_y l + ones (m % 2 ^ q)
    = ap ones (and_put q (x_part l) (z_part l) P.x P.z (x_digit l) (z_digit l)) ∙ ones_put q (is_y l) m (y_lt l) in
    let before : ones m ≡ ones (m / 2 ^ q / 2) + digit q m + ones (m % 2 ^ q) = ap ones (sym (put_same q m)) ∙ ones_put q (digit q m) m (digit_lt q m) in
    omega arith
  where
    y_lt : (l : Letter) → is_y l < 2
    y_lt I = omega arith
    y_lt X = omega arith
    y_lt Z = omega arith
    y_lt Y = omega arith

balance : (k i j y y' : ℕ) → y' + j ≡ y + i → ((k + i + 3 * j) % 4 + 3 * y') % 4 ≡ (k + 3 * y) % 4
balance k i j y y' e =
    let more : k + i + 3 * j + 3 * y' ≡ k + 3 * y + i * 4 = omega arith in
    mod-add-mod (k + i + 3 * j) 4 (3 * y') ∙ ap (λ (m : ℕ). m % 4) more ∙ add-mul-mod_self_right (k + 3 * y) i 4

pub coefficient_kept : (q : ℕ) (l : Letter) (P : Pauli) → coefficient (with_letter q l P) ≡ coefficient P
unfolding coefficient with_letter
coefficient_kept q l P = balance P.k (is_y l) (is_y (letter_at q P)) (ys P) (ys (with_letter q l P)) (ys_set q l P)
