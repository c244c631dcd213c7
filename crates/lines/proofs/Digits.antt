-- The digits that `io` writes are those of a line.
use mathlib.Core.Path.{◌≡◌, sym, ap, ◌∙◌, subst}
use mathlib.Core.Bool.{Bool, cond}
use mathlib.Core.List.{List, [], ◌∷◌, ◌++◌}
use Prim.Native.Nat.{ℕ, zero, suc, ◌-◌, ◌/◌, ◌%◌, ◌^◌, ◌≤◌, ◌<◌}
use native.Mathlib.Omega.{arith}
use native.Mathlib.Nat.{lt_of_not-le, pow-succ', pow-le-pow_right}
use borrow.Author.Tests.{lt-ltb, le-ltb}
use Rattle.io.specs.Digits.{hex_digit_ascii, last_digits, IsDigitCount}
use Rattle.lines.specs.Lines.{decimal_up_to, decimal}

-- from the powers' bounds on n to those on n / 10
upper : (n p : ℕ) → n < 10 ^ suc p → n / 10 < 10 ^ p
upper n p h = omega (arith, pow-succ' 10 p)

lower : (n p : ℕ) → 10 ^ suc p ≤ n → 10 ^ p ≤ n / 10
lower n p h = omega (arith, pow-succ' 10 p)

positive : (p : ℕ) → 1 ≤ 10 ^ p
positive zero = omega arith
positive (suc p) = omega (arith, positive p, pow-succ' 10 p)

-- of two digits or more: the least such number, that it is 10 or more, and the digits of n / 10
module _ (n k : ℕ) (f : IsDigitCount 10 1 n (suc (suc k))) where
  least : 10 ^ suc k ≤ n
  least =
      let place : suc (suc k) - 1 ≡ suc k = omega arith in
      subst (λ (p : ℕ). 10 ^ p ≤ n) place (f.2 (omega arith))

  ten : 10 ≤ n
  ten = omega (arith, least, positive k, pow-succ' 10 k)

  tenth : IsDigitCount 10 1 (n / 10) (suc k)
  tenth =
      let place : k ≡ suc k - 1 = omega arith in
      (omega arith, upper n (suc k) f.1, λ h. subst (λ (p : ℕ). 10 ^ p ≤ n / 10) place (lower n k least))

up_to : (k most n : ℕ) → n ≤ most → IsDigitCount 10 1 n k → last_digits 10 k n ≡ decimal_up_to most n
unfolding decimal_up_to
up_to zero most n h f = absurd (omega (arith, f.0))
up_to (suc zero) zero n h f =
    let none : n ≡ 0 = omega arith in
    rw none
up_to (suc zero) (suc most) n h f =
    let small : n < 10 = f.1 in
    let last : n % 10 ≡ n = omega (arith, small) in
    ap (λ (d : ℕ). hex_digit_ascii d ∷ []) last ∙ sym (ap (λ (t : Bool). cond t (hex_digit_ascii n ∷ []) (decimal_up_to most (n / 10) ++ hex_digit_ascii (n % 10) ∷ [])) (lt-ltb n 10 small))
up_to (suc (suc k)) zero n h f = absurd (omega (arith, ten n k f))
up_to (suc (suc k)) (suc most) n h f =
    rw (le-ltb n 10 (ten n k f)) (ap (λ (s : List ℕ). s ++ hex_digit_ascii (n % 10) ∷ []) (up_to (suc k) most (n / 10) (omega (arith, ten n k f)) (tenth n k f)))

pub decimal_digits : (k n : ℕ) → IsDigitCount 10 1 n k → last_digits 10 k n ≡ decimal n
unfolding decimal
decimal_digits k n f = up_to k n n (omega arith) f

-- as few digits as a power of the base above n has
fewest_most : (b least most n k : ℕ) → 0 < b → least ≤ most → n < b ^ most → IsDigitCount b least n k → k ≤ most
fewest_most b least most n k p h l f = omega (arith, lt_of_not-le {n = suc most} {m = k} over)
  where
    over : most < k → ⊥
    over c =
        let power : b ^ most ≤ b ^ (k - 1) = pow-le-pow_right p {i = most} {j = k - 1} (omega arith) in
        omega (arith, l, power, f.2 (omega arith))

pub twenty : (n k : ℕ) → n < 2 ^ 64 → IsDigitCount 10 1 n k → k ≤ 20
twenty n k h f = fewest_most 10 1 20 n k (omega arith) (omega arith) (omega (arith, h)) f

pub sixteen : (n k : ℕ) → n < 2 ^ 64 → IsDigitCount 16 16 n k → k ≡ 16
sixteen n k h f = omega (arith, f.0, fewest_most 16 16 16 n k (omega arith) (omega arith) (omega (arith, h)) f)
