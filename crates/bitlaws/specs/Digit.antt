-- The binary digits of a number, or of a mask: reading one, and writing one.
use Rattle.std.specs.Prelude.{◌≡◌, refl, Bool, true, false, ◌⊎◌, ℕ, zero, suc, ◌+◌, ◌-◌, ◌*◌, ◌/◌, ◌%◌, ◌^◌, ◌≤◌, ◌<◌, eqb}
use Rattle.std.proofs.Common.{sym, ap, ap₂, ◌∙◌, inl, inr, mod-lt, zero-lt-suc, div-one, div-add-mod', pow-suc, one-mul, arith, lit<, pow_pos, pow_mono, shr-shr, shl_exact}
use Rattle.std.proofs.Math.Nat.{div-eq_of_lt}
use Rattle.std.proofs.Math.Arith.{digits_mod, mod-mul}
use Rattle.std.proofs.lemmas.Bool.{eqb-false}
use Rattle.std.proofs.Math.Pow.{field}

-- digit q of a
unfoldable pub digit : ℕ → ℕ → ℕ
digit q a = a / 2 ^ q % 2

-- a with d, a digit, written at q: the digits above and below stay
unfoldable pub put : ℕ → ℕ → ℕ → ℕ
put q d a = (a / 2 ^ q / 2 * 2 + d) * 2 ^ q + a % 2 ^ q

-- a bool as a digit: sign and branch are bools in the code, 0 or 1 in the formulas
abbrev pub bit_of : Bool → ℕ
bit_of true = 1
bit_of false = 0

pub bit_odd : (t : Bool) → eqb (bit_of t % 2) 1 ≡ t
bit_odd true = refl
bit_odd false = refl

pub bit_one : (t : Bool) → eqb (bit_of t) 1 ≡ t
bit_one true = refl
bit_one false = refl

-- what holds of 0 and of 1 holds of a digit
pub by_digit : (P : ℕ → Type 0) → P 0 → P 1 → (d : ℕ) → d < 2 → P d
by_digit P h k zero l = h
by_digit P h k (suc zero) l = k
by_digit P h k (suc (suc d)) l = absurd (omega arith)

-- a digit that is not 1
pub not_one : (d : ℕ) → d < 2 → eqb d 1 ≡ false → d ≡ 0
not_one d l e = by_digit (λ d. eqb d 1 ≡ false → d ≡ 0) (λ e. refl) (λ e. absurd (eqb-false 1 1 e refl)) d l e

-- a remainder by 2 is a digit
pub mod_two : (n : ℕ) → n % 2 < 2
mod_two n = mod-lt n (zero-lt-suc 1)

-- and one by 2 ^ q has q of them
pub mod_power : (q a : ℕ) → a % 2 ^ q < 2 ^ q
mod_power q a = mod-lt a (pow_pos q)

pub digit_lt : (q a : ℕ) → digit q a < 2
unfolding digit
digit_lt q a = mod_two (a / 2 ^ q)

pub set_or_clear : (q a : ℕ) → (digit q a ≡ 1) ⊎ (digit q a ≡ 0)
set_or_clear q a = by_digit (λ d. (d ≡ 1) ⊎ (d ≡ 0)) (inr refl) (inl refl) (digit q a) (digit_lt q a)

-- a number below 2 ^ n has no digit from n on
pub digit_above : (n q a : ℕ) → a < 2 ^ n → n ≤ q → digit q a ≡ 0
unfolding digit
digit_above n q a h l =
    let small : a < 2 ^ q = omega (arith, pow_mono {i = n} {j = q} l) in
    ap (λ (m : ℕ). m % 2) (div-eq_of_lt small)

-- the digits from s on are those of a / 2 ^ s
pub digit_high : (s q a : ℕ) → digit (s + q) a ≡ digit q (a / 2 ^ s)
unfolding digit
digit_high s q a = ap (λ (m : ℕ). m % 2) (sym (shr-shr a s q))

-- the digits below s are those of a % 2 ^ s
pub digit_low : (s q a : ℕ) → q < s → digit q (a % 2 ^ s) ≡ digit q a
unfolding digit
digit_low s q a h =
    let parts : s ≡ suc (s - suc q) + q = omega arith in
    let even : 2 ^ suc (s - suc q) ≡ 2 ^ (s - suc q) * 2 = pow-suc 2 (s - suc q) in
    ap (λ (m : ℕ). a % 2 ^ m / 2 ^ q % 2) parts
    ∙ ap (λ (m : ℕ). m % 2) (field a (suc (s - suc q)) q ∙ ap (λ (m : ℕ). a / 2 ^ q % m) even)
    ∙ mod_even (a / 2 ^ q) (2 ^ (s - suc q)) (pow_pos (s - suc q))
  where
    mod_even : (b m : ℕ) → 0 < m → b % (m * 2) % 2 ≡ b % 2
    mod_even b m h = ap (λ (n : ℕ). n % 2) (mod-mul b {m = m} {c = 2} h (zero-lt-suc 1)) ∙ digits_mod (b / 2 % m) (mod_two b)

-- a one shifted up within a word of `size` bits
pub one_shifted : (size q : ℕ) → q < size → (1 * 2 ^ q) % 2 ^ size ≡ 2 ^ q
one_shifted size q h = shl_exact 1 q size (lit< tt) (omega arith) ∙ one-mul (2 ^ q)

lowest_digit : (a : ℕ) → digit 0 a ≡ a % 2
unfolding digit
lowest_digit a = ap (λ (m : ℕ). m % 2) (div-one a)

-- two numbers below 2 ^ n with the same n digits are one
pub digits_same : (n a b : ℕ) → a < 2 ^ n → b < 2 ^ n → ((i : ℕ) → i < n → digit i a ≡ digit i b) → a ≡ b
digits_same zero a b ha hb e = omega arith
digits_same (suc n) a b ha hb e =
    let double : 2 ^ suc n ≡ 2 ^ n * 2 = pow-suc 2 n in
    let low : a % 2 ≡ b % 2 = sym (lowest_digit a) ∙ e 0 (zero-lt-suc n) ∙ lowest_digit b in
    let high : a / 2 ≡ b / 2
    = digits_same n (a / 2) (b / 2) (omega arith) (omega arith)
    (λ i h. sym (digit_high 1 i a) ∙ e (1 + i) (omega arith) ∙ digit_high 1 i b) in
    sym (div-add-mod' a 2) ∙ ap₂ (λ (q r : ℕ). q * 2 + r) high low ∙ div-add-mod' b 2
