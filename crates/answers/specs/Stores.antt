-- Bytes stored in a lent buffer, some behind others.
use Rattle.std.specs.Prelude.{◌≡◌, List, [], ◌∷◌, ◌++◌, ℕ, suc, ◌+◌, length, set}
use Rattle.std.proofs.Common.{ap, arith}
use Rattle.std.proofs.lemmas.List.Edits.{sets}

-- t stored behind s, where s ends at `end`
pub sets_sets : (out : List ℕ) (at end : ℕ) (s t : List ℕ) → end ≡ at + length s → sets (sets out at s) end t ≡ sets out at (s ++ t)
sets_sets out at end [] t e = ap (λ (n : ℕ). sets out n t) (omega (arith, e))
sets_sets out at end (b ∷ s) t e = sets_sets (set out at b) (suc at) end s t (omega (arith, e))
