-- The words that the loop over the masks of one bit writes: the highest bit first.
use Rattle.std.proofs.Common.{◌≡◌, List, ℕ, zero, suc, ◌-◌, ◌^◌, ◌<◌, length, get_or, refl, sym, ap, ◌∙◌, arith}
use Rattle.std.proofs.Math.Seq.{ext_get_or}
use Rattle.bitlaws.specs.Elimination.{words_of}

module _ (f : ℕ → ℕ) where
  words_length : (q : ℕ) → length (words_of f q) ≡ q
  unfolding words_of
  words_length zero = refl
  words_length (suc q) = ap suc (words_length q)

  words_at : (q i : ℕ) → i < q → get_or (words_of f q) i 0 ≡ f (2 ^ (q - 1 - i))
  unfolding words_of
  words_at zero i h = absurd (omega arith)
  words_at (suc q) zero h = ap (λ (j : ℕ). f (2 ^ j)) (omega arith)
  words_at (suc q) (suc i) h = words_at q i (omega arith) ∙ ap (λ (j : ℕ). f (2 ^ j)) (omega arith)

  pub all_written : {q : ℕ} (words : List ℕ) → length words ≡ q → ((k : ℕ) → k < q → get_or words k 0 ≡ f (2 ^ (q - 1 - k))) → words ≡ words_of f q
  all_written {q} words long is =
      ext_get_or 0 words (words_of f q) (long ∙ sym (words_length q))
      (λ k l. let h : k < q = omega (arith, long) in is k h ∙ sym (words_at q k h))
