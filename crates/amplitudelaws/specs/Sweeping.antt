-- A loop over the amplitudes of n qubits, in place: what it has done after t turns.
use Rattle.std.specs.Prelude.{◌≡◌, ℕ, ◌+◌, ◌-◌, ◌^◌, ◌≤◌, ◌<◌, length}
use Rattle.std.proofs.Common.{ap}
use Rattle.std.specs.Int.Bits.{bit_xor}
use Rattle.std.specs.Float.{nan}
use Rattle.bitlaws.specs.Opening.{open_bit}
use Rattle.bitlaws.specs.Pairs.{pair_of}
use Rattle.statelaws.specs.Sweep.{Swept, swept_none, rising_next, rising_ahead}
use Rattle.statelaws.specs.Pairs.{Pivoted}
use Rattle.statelaws.proofs.Pairs.{low_ahead, high_ahead, swept_pair}
use Rattle.amplitudelaws.specs.Binary.{Point}
use Rattle.amplitudelaws.specs.State.{State, point, set_point}

pub state_same : {S T : State} → S.re ≡ T.re → S.im ≡ T.im → S ≡ T
state_same r i = λ j. record { re = r j; im = i j }

pub point_same : {a b : Point} → a.re ≡ b.re → a.im ≡ b.im → a ≡ b
point_same r i = λ j. record { re = r j; im = i j }

-- turn `turn b` writes F b at b
pub record Sweeping (turn : ℕ → ℕ) (F : ℕ → Point) (n : ℕ) (S₀ : State) (t : ℕ) (S : State) : Type 0 where
  pub re : Swept nan turn (λ b. (F b).re) (2 ^ n) S₀.re t S.re
  pub im : Swept nan turn (λ b. (F b).im) (2 ^ n) S₀.im t S.im

module _ {turn : ℕ → ℕ} {F : ℕ → Point} {n : ℕ} {S₀ : State} where
  pub sweeping_none : 2 ^ n ≤ length S₀.re → 2 ^ n ≤ length S₀.im → Sweeping turn F n S₀ 0 S₀
  sweeping_none r i = record { re = swept_none r; im = swept_none i }

-- one amplitude a turn, going up
module _ {F : ℕ → Point} {n : ℕ} {S₀ : State} {t : ℕ} {S : State} (s : Sweeping (λ b. b) F n S₀ t S) where
  pub one_ahead : (b : ℕ) → t ≤ b → point S b ≡ point S₀ b
  unfolding point
  one_ahead b h = point_same (rising_ahead s.re b h) (rising_ahead s.im b h)

  pub one_more : (S' : State) (a : Point) → S' ≡ set_point t a S → t < 2 ^ n → a ≡ F t → Sweeping (λ b. b) F n S₀ (t + 1) S'
  unfolding set_point
  one_more S' a e h ea = record {
    re = rising_next s.re S'.re a.re (ap (λ (T : State). T.re) e) h (ap (λ (p : Point). p.re) ea);
    im = rising_next s.im S'.im a.im (ap (λ (T : State). T.im) e) h (ap (λ (p : Point). p.im) ea);
  }

-- two amplitudes a turn: the pair of the basis t without the pivot
module _ {n p x : ℕ} (v : Pivoted n p x) {F : ℕ → Point} {S₀ : State} {t : ℕ} {S : State} (s : Sweeping (pair_of p x) F n S₀ t S) where
  module _ (h : t < 2 ^ (n - 1)) where
    pub pair_ahead_low : point S (open_bit p t) ≡ point S₀ (open_bit p t)
    unfolding point
    pair_ahead_low = point_same (low_ahead v s.re h) (low_ahead v s.im h)

    pub pair_ahead_high : point S (bit_xor (open_bit p t) x) ≡ point S₀ (bit_xor (open_bit p t) x)
    unfolding point
    pair_ahead_high = point_same (high_ahead v s.re h) (high_ahead v s.im h)

    pub pair_more : (S' : State) (a b : Point) → S' ≡ set_point (bit_xor (open_bit p t) x) b (set_point (open_bit p t) a S)
        → a ≡ F (open_bit p t) → b ≡ F (bit_xor (open_bit p t) x) → Sweeping (pair_of p x) F n S₀ (t + 1) S'
    unfolding set_point
    pair_more S' a b e ea eb = record {
      re = swept_pair v s.re h S'.re a.re b.re (ap (λ (T : State). T.re) e) (ap (λ (q : Point). q.re) ea) (ap (λ (q : Point). q.re) eb);
      im = swept_pair v s.im h S'.im a.im b.im (ap (λ (T : State). T.im) e) (ap (λ (q : Point). q.im) ea) (ap (λ (q : Point). q.im) eb);
    }
