use mathlib.Core.Path.{◌≡◌}
use Prim.Native.Nat.{ℕ, ◌+◌, max}
use lib.Ieee.{Float}
use Rattle.amplitudelaws.specs.Step.{Step, width_after}
use Rattle.framelaws.specs.Survey.{Survey, mixed_amplitudes, surveyed}
use Rattle.checker.proofs.surveyed.Goals as goal

parts : (v : Survey) (t : Step Float) (width greatest mixed scratch : ℕ) → width ≡ width_after v.width t → greatest ≡ max v.greatest width
    → mixed ≡ mixed_amplitudes v.width t → scratch ≡ max v.scratch mixed
    → record { width = width; steps = v.steps + 1; greatest = greatest; scratch = scratch } ≡ surveyed v t
unfolding surveyed
parts v t width greatest mixed scratch w g m s = rw (s, m, g, w)

pub returns : goal.returns
returns c =
    parts _ _ _ _ _ _ c.requires.behind c.max.ensures c.mixed_amplitudes.ensures c.max-2.ensures
