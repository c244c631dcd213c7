-- The pairs b, b xor x, counted by the basis without the pivot, where x has the pivot.
use Rattle.std.specs.Prelude.{◌≡◌, ◌⊎◌, ℕ, suc, ◌+◌, ◌*◌, ◌%◌, ◌^◌, ◌≤◌, ◌<◌}
use Rattle.std.proofs.Common.{sym, ◌∙◌, inl, inr, ⊎_elim, arith}
use Rattle.std.proofs.Math.Path.{ap}
use Rattle.std.proofs.Math.Nat.{zero-mul, one-mul}
use Rattle.std.specs.Int.Bits.{bit_xor, xor_zero_r}
use Rattle.bitlaws.specs.Digit.{digit, set_or_clear}
use Rattle.bitlaws.specs.Bitwise.{digit_xor}
use Rattle.bitlaws.specs.Xor.{xor_lt, xor_twice}
use Rattle.bitlaws.specs.Opening.{open_bit, drop_bit}
use Rattle.bitlaws.proofs.Opening.{open_clear, drop_open, open_drop_clear, drop_lt}
use Rattle.bitlaws.specs.Pairs.{pair_of}

module _ (p x : ℕ) where
  of_set : (b : ℕ) → digit p b ≡ 1 → pair_of p x b ≡ drop_bit p (bit_xor b x)
  unfolding pair_of
  of_set b e = ap (λ (m : ℕ). drop_bit p (bit_xor b m)) (ap (λ (m : ℕ). m * x) e ∙ one-mul x)

  of_clear : (b : ℕ) → digit p b ≡ 0 → pair_of p x b ≡ drop_bit p b
  unfolding pair_of
  of_clear b e = ap (λ (m : ℕ). drop_bit p (bit_xor b m)) (ap (λ (m : ℕ). m * x) e ∙ zero-mul x) ∙ ap (drop_bit p) (xor_zero_r b)

  pub pair_low : (t : ℕ) → pair_of p x (open_bit p t) ≡ t
  pair_low t = of_clear (open_bit p t) (open_clear p t) ∙ drop_open p t

  pub pair_lt : (n b : ℕ) → p ≤ n → x < 2 ^ suc n → b < 2 ^ suc n → pair_of p x b < 2 ^ n
  pair_lt n b fits hx hb =
      ⊎_elim (λ (e : digit p b ≡ 1). rw (of_set b e) (drop_lt p n fits (bit_xor b x) (xor_lt (suc n) b x hb hx)))
      (λ (e : digit p b ≡ 0). rw (of_clear b e) (drop_lt p n fits b hb))
      (set_or_clear p b)

  -- where x has the pivot, xor with x flips it
  module _ (set : digit p x ≡ 1) where
    flip : (b : ℕ) → digit p (bit_xor b x) ≡ (digit p b + 1) % 2
    flip b = digit_xor p b x ∙ ap (λ (m : ℕ). (digit p b + m) % 2) set

    pub pair_high : (t : ℕ) → pair_of p x (bit_xor (open_bit p t) x) ≡ t
    pair_high t =
        of_set (bit_xor (open_bit p t) x) (flip (open_bit p t) ∙ ap (λ (m : ℕ). (m + 1) % 2) (open_clear p t))
        ∙ ap (drop_bit p) (xor_twice (open_bit p t) x)
        ∙ drop_open p t

    -- the two of a pair, and no other
    pub pair_only : (t b : ℕ) → pair_of p x b ≡ t → (b ≡ open_bit p t) ⊎ (b ≡ bit_xor (open_bit p t) x)
    pair_only t b q =
        ⊎_elim
        (λ (e : digit p b ≡ 1).
        let low : open_bit p t ≡ bit_xor b x
        = ap (open_bit p) (sym q ∙ of_set b e) ∙ open_drop_clear p (bit_xor b x) (flip b ∙ ap (λ (m : ℕ). (m + 1) % 2) e) in
        inr (sym (xor_twice b x) ∙ ap (λ (m : ℕ). bit_xor m x) (sym low)))
        (λ (e : digit p b ≡ 0). inl (sym (open_drop_clear p b e) ∙ ap (open_bit p) (sym (of_clear b e) ∙ q)))
        (set_or_clear p b)

    -- the two differ
    pub pair_apart : (t : ℕ) → open_bit p t ≡ bit_xor (open_bit p t) x → ⊥
    pair_apart t e = omega (arith, open_clear p t, flip (open_bit p t), ap (digit p) e)
