-- By which numbers a run is refused: what holds of the rows up to 14, and of a caller's own two, holds of every number by which a run of that caller's is refused. So
-- 21 is the emulator's alone, and 15 is not the emulator's.
use Prim.Native.Nat.{ℕ}
use Rattle.answers.specs.Answer.{Answer}
use Rattle.answers.specs.Answer.Answer.{accepted, refused, refused_at}

-- ---- what refuses has the property

module _ (P : ℕ → Type 0) where
  unfoldable pub Refusals : {A : Type 0} → Answer A → Type 0
  Refusals (accepted a) = Unit
  Refusals (refused n) = P n
  Refusals (refused_at n at) = P n
