-- the words above the first are 0
use mathlib.Core.Path.{◌≡◌, ap₂}
use mathlib.Core.List.{[], ◌∷◌}
use Prim.Native.Nat.{ℕ}
use native.Mathlib.Omega.{arith}
use Rattle.bitlaws.specs.Words.{words}
use Rattle.masks.specs.Mask.{mask}
use Rattle.activepauli.proofs.PauliStringFromActivePauli.from.Goals as goal

one_word : (w : ℕ) → mask (w ∷ 0 ∷ 0 ∷ 0 ∷ []) ≡ w
unfolding mask words
one_word w = omega arith

pub returns : goal.returns
returns c =
    let p = c.args.pauli in
    ap₂ (λ (x z : ℕ). record { n = p.nqubits; k = p.phase; x = x; z = z }) (one_word p.x) (one_word p.z)
