-- The right log, in the space in which it is made to be judged by.
use mathlib.Core.Path.{◌≡◌, refl, ap, ◌∙◌}
use mathlib.Core.Bool.{Bool, ◌&&◌}
use mathlib.Core.List.{List, [], ◌∷◌, ◌++◌, append-nil}
use Prim.Native.Nat.{ℕ, ◌≤◌}
use native.Mathlib.Omega.{arith}
use lib.Dec.{eqb}
use lib.Pointwise.{pointwise}
use lib.ListN.{length, drop, drop_of_length-le}
use Rattle.paulilaws.specs.Pauli.{Pauli}
use Rattle.framelaws.specs.Caller.{Caller}
use Rattle.runlaws.proofs.Logged.{log_length, flags_most}
use Rattle.runlaws.specs.FrameLog.{is_same}
use Rattle.runlaws.specs.OnStart.{run_in, OnStart}
use Rattle.framelog.specs.LogIn.{log_in}

pub no_longer : {caller : Caller} {s : List ℕ} {Q : Pauli} → (log : List ℕ) → OnStart caller s Q → length log ≡ length (log_in caller s Q) → length log ≤ 2201
no_longer {caller} {s} {Q} log b same = omega (arith, same, log_length Q (run_in caller s).steps, flags_most caller s (run_in caller s) b.read)

-- and it is all that stands there
pub alone : (right space new : List ℕ) → length space ≡ length right → new ≡ right ++ drop (length right) space → new ≡ right
alone right space new long is =
    is ∙ ap (λ (l : List ℕ). right ++ l) (drop_of_length-le space {i = length right} (omega (arith, long))) ∙ append-nil right

-- the library's comparison of bytes
pub compared_bytes : (s t : List ℕ) → pointwise eqb s t ≡ is_same s t
unfolding is_same
compared_bytes [] [] = refl
compared_bytes [] (b ∷ t) = refl
compared_bytes (a ∷ s) [] = refl
compared_bytes (a ∷ s) (b ∷ t) = ap (λ (q : Bool). eqb a b && q) (compared_bytes s t)
