-- The two halves of the wider state are the pairs of the new qubit.
use mathlib.Core.Path.{◌≡◌, sym, ap, ◌∙◌, subst}
use Prim.Native.Nat.{ℕ, suc, ◌+◌, ◌-◌, ◌*◌, ◌^◌, ◌<◌}
use native.Mathlib.Nat.{le_refl, pow-suc}
use native.Mathlib.Omega.{arith}
use lib.Bits.{bit_xor}
use lib.Dec.{lit<}
use lib.Pow.{pow_pos}
use Rattle.bitlaws.specs.Digit.{digit_above}
use Rattle.bitlaws.specs.Opening.{open_bit, open_small}
use Rattle.bitlaws.specs.Pairs.{pair_of}
use Rattle.bitlaws.proofs.Pivot.{digit_power, xor_pivot}
use Rattle.statelaws.specs.Pairs.{Pivoted}
use Rattle.amplitudelaws.specs.Binary.{Point}
use Rattle.amplitudelaws.specs.State.{State, point, set_point, written}
use Rattle.amplitudelaws.specs.Sweeping.{Sweeping, pair_ahead_low, pair_more}
use Rattle.amplitudelaws.proofs.Sweeping.{pair_all}

halves : (n : ℕ) → Pivoted (suc n) n (2 ^ n)
halves n = record { inside = le_refl (suc n); mask = omega (arith, pow-suc 2 n, pow_pos n); has = digit_power n }

upper : (n t : ℕ) → t < 2 ^ n → bit_xor (open_bit n t) (2 ^ n) ≡ 2 ^ n + t
upper n t h =
    let one : 2 ^ n ≡ 1 * 2 ^ n = omega arith in
    let swap : t + 1 * 2 ^ n ≡ 2 ^ n + t = omega arith in
    ap (λ (m : ℕ). bit_xor m (2 ^ n)) (open_small n t h) ∙ ap (bit_xor t) one ∙ xor_pivot n 1 t (lit< tt) (digit_above n n t h (le_refl n)) ∙ swap

half : (n : ℕ) → 2 ^ n ≡ 2 ^ (suc n - 1)
half n = let one_less : n ≡ suc n - 1 = omega arith in ap (λ (m : ℕ). 2 ^ m) one_less

module _ {n : ℕ} {F : ℕ → Point} {S₀ : State} {t : ℕ} {S : State} (s : Sweeping (pair_of n (2 ^ n)) F (suc n) S₀ t S) where
  pub half_all : t ≡ 2 ^ n → S ≡ written (suc n) F S₀
  half_all e = pair_all (halves n) s (e ∙ half n)

module _ {n : ℕ} {F : ℕ → Point} {S₀ : State} {t : ℕ} {S : State} (s : Sweeping (pair_of n (2 ^ n)) F (suc n) S₀ t S) (h : t < 2 ^ n) where
  within : t < 2 ^ (suc n - 1)
  within = subst (λ (m : ℕ). t < m) (half n) h

  pub half_ahead : point S t ≡ point S₀ t
  half_ahead = subst (λ (m : ℕ). point S m ≡ point S₀ m) (open_small n t h) (pair_ahead_low (halves n) s within)

  pub half_more : (S' : State) (a b : Point) (top : ℕ) → top ≡ 2 ^ n + t → S' ≡ set_point top b (set_point t a S) → a ≡ F t → b ≡ F (2 ^ n + t) → Sweeping (pair_of n (2 ^ n)) F (suc n) S₀ (t + 1) S'
  half_more S' a b top is e ea eb =
      let low : t ≡ open_bit n t = sym (open_small n t h) in
      let high : 2 ^ n + t ≡ bit_xor (open_bit n t) (2 ^ n) = sym (upper n t h) in
      let there : top ≡ bit_xor (open_bit n t) (2 ^ n) = is ∙ high in
      pair_more (halves n) s within S' a b (e ∙ (λ i. set_point (there i) b (set_point (low i) a S))) (ea ∙ ap F low) (eb ∙ ap F high)
