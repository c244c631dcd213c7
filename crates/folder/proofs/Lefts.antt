-- What is left of a step's field, as it is written.
use mathlib.Core.Path.{◌≡◌, ap, ap₂, ◌∙◌}
use mathlib.Core.List.{List, ◌++◌}
use Prim.Native.Nat.{ℕ, ◌-◌}
use native.Mathlib.Omega.{arith}
use lib.Ieee.{Float}
use lib.ListN.{length, take, drop}
use lib.Seq.{take-length, take-append_seam, drop-append_seam}
use Rattle.amplitudelaws.specs.Step.{Step}
use Rattle.runlaws.specs.Flags.{flag_at}

-- the field copied, and the flag written into the copy, the first n bytes
pub field_written : (f out copy new : List ℕ) (n : ℕ) (u v : Step Float) → v ≡ u → n ≡ length f → copy ≡ take (length f) f ++ drop (length f) out
    → new ≡ flag_at 0 v (take (n - 0) (drop 0 copy)) → new ++ drop (n - 0) (drop 0 copy) ≡ flag_at 0 u f ++ drop (length f) out
field_written f out copy new n u v same long copied is =
    let size : n - 0 ≡ length f = omega (arith, long) in
    let whole : drop 0 copy ≡ f ++ drop (length f) out = copied ∙ ap (λ (l : List ℕ). l ++ drop (length f) out) (take-length f) in
    let first : take (n - 0) (drop 0 copy) ≡ f = ap₂ take size whole ∙ take-append_seam f (drop (length f) out) in
    let rest : drop (n - 0) (drop 0 copy) ≡ drop (length f) out = ap₂ drop size whole ∙ drop-append_seam f (drop (length f) out) in
    ap₂ (λ (a b : List ℕ). a ++ b) (is ∙ ap₂ (flag_at 0) same first) rest
