-- A loop over the amplitudes of n qubits, in place: what it has done after t turns.
use Rattle.std.specs.Prelude.{◌≡◌, ℕ, ◌-◌, ◌^◌}
use Rattle.bitlaws.specs.Pairs.{pair_of}
use Rattle.statelaws.proofs.Sweep.{rising_all}
use Rattle.statelaws.specs.Pairs.{Pivoted}
use Rattle.statelaws.proofs.Pairs.{swept_pairs}
use Rattle.amplitudelaws.specs.Binary.{Point}
use Rattle.amplitudelaws.specs.State.{State, written}
use Rattle.amplitudelaws.specs.Sweeping.{state_same, Sweeping}

-- one amplitude a turn, going up
module _ {F : ℕ → Point} {n : ℕ} {S₀ : State} {t : ℕ} {S : State} (s : Sweeping (λ b. b) F n S₀ t S) where
  pub one_all : t ≡ 2 ^ n → S ≡ written n F S₀
  unfolding written
  one_all e = state_same (rising_all s.re e) (rising_all s.im e)

-- two amplitudes a turn: the pair of the basis t without the pivot
module _ {n p x : ℕ} (v : Pivoted n p x) {F : ℕ → Point} {S₀ : State} {t : ℕ} {S : State} (s : Sweeping (pair_of p x) F n S₀ t S) where
  pub pair_all : t ≡ 2 ^ (n - 1) → S ≡ written n F S₀
  unfolding written
  pair_all e = state_same (swept_pairs v s.re e) (swept_pairs v s.im e)
