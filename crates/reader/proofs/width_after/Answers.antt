use mathlib.Core.Logic.{⊎_elim}
use native.Mathlib.Omega.{arith}
use Rattle.amplitudelaws.specs.Step.{width_after}
use Rattle.reader.proofs.width_after.Goals as goal

pub returns-in-Promotion : goal.returns-in-Promotion
unfolding width_after
returns-in-Promotion c = rw c.in-Promotion.is (omega arith)

pub returns-in-Projection : goal.returns-in-Projection
unfolding width_after
returns-in-Projection c = rw c.in-Projection.is

pub returns-in-Rotation : goal.returns-in-Rotation
unfolding width_after
returns-in-Rotation c = ⊎_elim (λ h. rw h.4) (⊎_elim (λ h. rw h.1) (λ h. rw h.1)) c.in-Rotation.is
