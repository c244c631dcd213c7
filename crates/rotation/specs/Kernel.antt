-- A rotation by the fields of its kernel, and what the loops need of it.
use Rattle.std.specs.Prelude.{◌≡◌, false, ℕ, ◌≤◌}
use Rattle.statelaws.specs.Pairs.{Pivoted}
use Rattle.amplitudelaws.specs.Binary.{binary}
use Rattle.amplitudelaws.specs.Rotation.{rotated_by}
use Rattle.amplitudelaws.specs.Rows.{widest_kernel}
use Rattle.amplitudelaws.specs.State.{State, point, written}
use Rattle.kernels.specs.Kernel.{RotationKernel}

unfoldable pub by_kernel : RotationKernel → ℕ → State → State
by_kernel K sign S =
    written K.action.n (rotated_by binary K.diagonal K.imaginary K.action.x K.action.z sign K.cosine K.m (point S)) S

-- its width, and a pivot to count the pairs by where there are pairs
pub record Rotatable (K : RotationKernel) : Type 0 where
  pub narrow : K.action.n ≤ widest_kernel
  pub pivot : K.diagonal ≡ false → Pivoted K.action.n K.pair_bit K.action.x
