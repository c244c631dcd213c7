-- What folding leaves of steps: no correction, and all the others; the widths and the room that they need; and steps without a correction as they were.
use Rattle.std.specs.Prelude.{◌≡◌, ◌≤◌}
use Rattle.std.proofs.Math.Path.{refl, ap}
use Rattle.std.proofs.Common.{◌∙◌}
use mathlib.Core.List.{List, [], ◌∷◌}
use Rattle.paulilaws.specs.Pauli.{Pauli}
use Rattle.amplitudelaws.specs.Step.{Step}
use Rattle.framelaws.specs.Carrying.{passed, end_pauli}
use Rattle.framelaws.specs.Folded.{kept_past}
use Rattle.framelaws.specs.Folding.{folded_end, Bare}
use Rattle.framelaws.specs.Survey.{Survey}

-- ---- the widths and the room: the survey but for its number of steps

pub record SameRoom (v w : Survey) : Type 0 where
  pub width : v.width ≡ w.width
  pub greatest : v.greatest ≡ w.greatest
  pub scratch : v.scratch ≡ w.scratch
  -- which a correction does not raise
  pub under : w.width ≤ w.greatest

-- ---- where there is no correction, folding is carrying

module _ {R : Type 0} where
  pub bare_end : (ts : List (Step R)) (Q : Pauli) → Bare ts → folded_end Q ts ≡ end_pauli Q ts
  unfolding end_pauli folded_end
  bare_end [] Q bare = refl
  bare_end (t ∷ ts) Q bare = ap (λ (P : Pauli). folded_end P ts) (kept_past Q t bare.0) ∙ bare_end ts (passed Q t) bare.1
