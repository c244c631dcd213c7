-- A turn of a loop over pairs, in the words of the code: the basis is opened in a word of 64 bits, and a member's new amplitude is made
-- of its partner's index, itself and its partner.
use Rattle.std.specs.Prelude.{◌≡◌, ℕ, ◌+◌, ◌-◌, ◌%◌, ◌^◌, ◌≤◌, ◌<◌, length}
use Rattle.std.proofs.Common.{ap₂, ◌∙◌, mod-eq_of_lt, arith, pow_mono}
use Rattle.std.specs.Int.Bits.{bit_xor}
use Rattle.bitlaws.specs.Opening.{open_bit}
use Rattle.bitlaws.specs.Pairs.{pair_of}
use Rattle.bitlaws.specs.Xor.{xor_twice}
use Rattle.statelaws.specs.Pairs.{Pivoted}
use Rattle.statelaws.proofs.Pairs.{low_lt, high_lt}
use Rattle.amplitudelaws.specs.Binary.{Point}
use Rattle.amplitudelaws.specs.Rows.{widest_kernel}
use Rattle.amplitudelaws.specs.State.{State, point, set_point}
use Rattle.amplitudelaws.specs.Sweeping.{Sweeping, pair_ahead_low, pair_ahead_high, pair_more}

-- the new amplitude at b
abbrev pub paired : (ℕ → Point → Point → Point) → ℕ → State → ℕ → Point
paired G x S b = G (bit_xor b x) (point S b) (point S (bit_xor b x))

module _ {n p x : ℕ} (v : Pivoted n p x) (narrow : n ≤ widest_kernel)
    {t left : ℕ} (h : t < 2 ^ (n - 1)) (opened : left ≡ open_bit p t % 2 ^ 64) where
  low : left ≡ open_bit p t
  low = opened ∙ mod-eq_of_lt (omega (arith, low_lt v t h, pow_mono {i = n} {j = widest_kernel} narrow))

  module _ {F : ℕ → Point} {S₀ S : State} (s : Sweeping (pair_of p x) F n S₀ t S) where
    pub turn_inside : ((left < length S.re) × (left < length S.im))
        × ((bit_xor left x < length S.re) × (bit_xor left x < length S.im))
    turn_inside =
        let l : left < 2 ^ n = rw low (low_lt v t h) in
        let r : bit_xor left x < 2 ^ n = rw low (high_lt v t h) in
        omega (arith, s.re.room, s.im.room, s.re.len, s.im.len)

  module _ (G : ℕ → Point → Point → Point) {S₀ S : State} (s : Sweeping (pair_of p x) (paired G x S₀) n S₀ t S) where
    pub turn_more : (S' : State) (a b : Point) → S' ≡ set_point (bit_xor left x) b (set_point left a S)
        → a ≡ G (bit_xor left x) (point S left) (point S (bit_xor left x)) → b ≡ G left (point S (bit_xor left x)) (point S left)
        → Sweeping (pair_of p x) (paired G x S₀) n S₀ (t + 1) S'
    turn_more S' a b e ea eb =
        let l : ℕ = open_bit p t in
        let r : ℕ = bit_xor l x in
        let at-l : point S l ≡ point S₀ l = pair_ahead_low v s h in
        let at-r : point S r ≡ point S₀ r = pair_ahead_high v s h in
        pair_more v s h S' a b (rw low at e)
        ((rw low at ea) ∙ ap₂ (G r) at-l at-r)
        ((rw low at eb) ∙ rw (xor_twice l x) (ap₂ (G l) at-r at-l))
