-- A bit of a mask opened, and dropped, at any place.
use Rattle.std.specs.Prelude.{◌≡◌}
use Rattle.std.proofs.Math.Path.{ap}
use Rattle.std.proofs.Common.{◌∙◌, subst, mul_right_comm, pow-add}
use Prim.Native.Nat.{ℕ, suc, ◌+◌, ◌-◌, ◌*◌, ◌/◌, ◌%◌, ◌^◌, ◌≤◌, ◌<◌}
use Rattle.std.proofs.Math.Nat.{div-add-mod', pow-suc}
use native.Mathlib.Omega.{arith}
use Rattle.std.proofs.Math.Arith.{digits_lt, digits_div, digits_mod}
use Rattle.std.proofs.Math.Pow.{shr_lt}
use Rattle.bitlaws.specs.Digit.{mod_power, digit, put}
use Rattle.bitlaws.specs.Opening.{open_bit, drop_bit}

module _ (p : ℕ) where
  -- what stands from p on, and below p, after opening and after dropping
  open_div : (j : ℕ) → open_bit p j / 2 ^ p ≡ j / 2 ^ p * 2
  unfolding open_bit
  open_div j = digits_div (j / 2 ^ p * 2) (mod_power p j)

  open_mod : (j : ℕ) → open_bit p j % 2 ^ p ≡ j % 2 ^ p
  unfolding open_bit
  open_mod j = digits_mod (j / 2 ^ p * 2) (mod_power p j)

  pub drop_div : (b : ℕ) → drop_bit p b / 2 ^ p ≡ b / 2 ^ p / 2
  unfolding drop_bit
  drop_div b = digits_div (b / 2 ^ p / 2) (mod_power p b)

  pub drop_mod : (b : ℕ) → drop_bit p b % 2 ^ p ≡ b % 2 ^ p
  unfolding drop_bit
  drop_mod b = digits_mod (b / 2 ^ p / 2) (mod_power p b)

  pub open_clear : (j : ℕ) → digit p (open_bit p j) ≡ 0
  unfolding digit
  open_clear j = omega (arith, open_div j)

  pub drop_open : (j : ℕ) → drop_bit p (open_bit p j) ≡ j
  unfolding drop_bit
  drop_open j =
      let half : j / 2 ^ p * 2 / 2 ≡ j / 2 ^ p = omega arith in
      rw (open_div j, open_mod j, half) (div-add-mod' j (2 ^ p))

  -- opening puts the dropped bit back as a zero
  pub open_drop : (b : ℕ) → open_bit p (drop_bit p b) ≡ put p 0 b
  unfolding open_bit put
  open_drop b =
      let whole : b / 2 ^ p / 2 * 2 ≡ b / 2 ^ p / 2 * 2 + 0 = omega arith in
      rw (drop_div b, drop_mod b, ← whole)

  pub open_drop_clear : (b : ℕ) → digit p b ≡ 0 → open_bit p (drop_bit p b) ≡ b
  unfolding put digit
  open_drop_clear b h =
      let half : b / 2 ^ p / 2 * 2 + 0 ≡ b / 2 ^ p = omega arith in
      open_drop b ∙ ap (λ (m : ℕ). m * 2 ^ p + b % 2 ^ p) half ∙ div-add-mod' b (2 ^ p)

  module _ (n : ℕ) (fits : p ≤ n) where
    split : n ≡ n - p + p
    split = omega arith

    whole : 2 ^ n ≡ 2 ^ (n - p) * 2 ^ p
    whole = ap (λ (m : ℕ). 2 ^ m) split ∙ pow-add 2 (n - p) p

    twice : 2 ^ suc n ≡ 2 ^ (n - p) * 2 * 2 ^ p
    twice = pow-suc 2 n ∙ ap (λ (m : ℕ). m * 2) whole ∙ mul_right_comm (2 ^ (n - p)) (2 ^ p) 2

    pub open_lt : (j : ℕ) → j < 2 ^ n → open_bit p j < 2 ^ suc n
    unfolding open_bit
    open_lt j h =
        let q : j / 2 ^ p < 2 ^ (n - p) = shr_lt (n - p) p (subst (λ (m : ℕ). j < 2 ^ m) split h) in
        let r : j / 2 ^ p * 2 < 2 ^ (n - p) * 2 = omega arith in
        rw twice (digits_lt r (mod_power p j))

    pub drop_lt : (b : ℕ) → b < 2 ^ suc n → drop_bit p b < 2 ^ n
    unfolding drop_bit
    drop_lt b h =
        let above : suc n ≡ suc (n - p) + p = omega arith in
        let q : b / 2 ^ p < 2 ^ suc (n - p) = shr_lt (suc (n - p)) p (subst (λ (m : ℕ). b < 2 ^ m) above h) in
        let r : b / 2 ^ p / 2 < 2 ^ (n - p) = omega (arith, pow-suc 2 (n - p)) in
        rw whole (digits_lt r (mod_power p b))
