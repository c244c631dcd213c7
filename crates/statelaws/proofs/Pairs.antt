-- A loop over the pairs b, b xor x of n qubits, where x has the pivot p: turn t writes the pair whose basis without the pivot is t.
use Rattle.std.specs.Prelude.{◌≡◌, List, ℕ, suc, ◌+◌, ◌-◌, ◌^◌, ◌<◌, get_or, set}
use Rattle.std.proofs.Common.{sym, subst, arith}
use Rattle.std.specs.Int.Bits.{bit_xor}
use Rattle.bitlaws.specs.Opening.{open_bit}
use Rattle.bitlaws.proofs.Opening.{open_lt}
use Rattle.bitlaws.specs.Pairs.{pair_of}
use Rattle.bitlaws.proofs.Pairs.{pair_low, pair_high, pair_only, pair_lt, pair_apart}
use Rattle.bitlaws.specs.Xor.{xor_lt}
use Rattle.statelaws.specs.Over.{over}
use Rattle.statelaws.specs.Sweep.{Swept, swept_two}
use Rattle.statelaws.proofs.Sweep.{swept_all}
use Rattle.statelaws.specs.Pairs.{Pivoted}

module _ {n p x : ℕ} (v : Pivoted n p x) where
  wide : n ≡ suc (n - 1)
  wide = omega (arith, v.inside)

  module _ (t : ℕ) (h : t < 2 ^ (n - 1)) where
    pub low_lt : open_bit p t < 2 ^ n
    low_lt = subst (λ (m : ℕ). open_bit p t < 2 ^ m) (sym wide) (open_lt p (n - 1) (omega (arith, v.inside)) t h)

    pub high_lt : bit_xor (open_bit p t) x < 2 ^ n
    high_lt = xor_lt n (open_bit p t) x low_lt v.mask

  module _ {A : Type 0} {d : A} {f : ℕ → A} {l₀ : List A} {t : ℕ} {l : List A} (s : Swept d (pair_of p x) f (2 ^ n) l₀ t l) where
    module _ (h : t < 2 ^ (n - 1)) where
      pub low_ahead : get_or l (open_bit p t) d ≡ get_or l₀ (open_bit p t) d
      low_ahead = s.ahead (open_bit p t) (low_lt t h) (omega (arith, pair_low p x t))

      pub high_ahead : get_or l (bit_xor (open_bit p t) x) d ≡ get_or l₀ (bit_xor (open_bit p t) x) d
      high_ahead = s.ahead (bit_xor (open_bit p t) x) (high_lt t h) (omega (arith, pair_high p x v.has t))

      pub swept_pair : (l' : List A) (a b : A) → l' ≡ set (set l (open_bit p t) a) (bit_xor (open_bit p t) x) b
          → a ≡ f (open_bit p t) → b ≡ f (bit_xor (open_bit p t) x) → Swept d (pair_of p x) f (2 ^ n) l₀ (t + 1) l'
      swept_pair l' a b e ea eb =
          subst (Swept d (pair_of p x) f (2 ^ n) l₀ (t + 1)) (sym e)
          (swept_two s (open_bit p t) (bit_xor (open_bit p t) x) a b (low_lt t h) (high_lt t h) (pair_apart p x v.has t)
          (pair_low p x t) (pair_high p x v.has t) (λ k b q. pair_only p x v.has t k q) ea eb)

    pub swept_pairs : t ≡ 2 ^ (n - 1) → l ≡ over (2 ^ n) f l₀
    swept_pairs e =
        swept_all s
        (λ k b. let under : pair_of p x k < 2 ^ (n - 1)
        = pair_lt p x (n - 1) k (omega (arith, v.inside)) (subst (λ (m : ℕ). x < 2 ^ m) wide v.mask) (subst (λ (m : ℕ). k < 2 ^ m) wide b) in omega arith)
