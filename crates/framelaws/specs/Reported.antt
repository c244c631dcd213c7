-- The frame before a step is the end of carrying past those before it; the step numbers are those of the list, from 0.
use Rattle.std.proofs.Math.Path.{◌≡◌, refl, ap}
use mathlib.Core.List.{List, [], ◌∷◌, ◌++◌}
use Rattle.std.proofs.Math.Option.{none, some}
use Prim.Native.Nat.{ℕ, zero, suc, ◌≤◌}
use Rattle.std.proofs.Common.{arith}
use Rattle.std.specs.Prelude.{length}
use Rattle.std.proofs.Math.ListN.{get_elem?}
use Rattle.paulilaws.specs.Pauli.{Pauli}
use Rattle.amplitudelaws.specs.Step.{Step}
use Rattle.framelaws.specs.Carrying.{passed, end_pauli, carried_step, carried_steps}
use Rattle.framelaws.specs.Reporting.{Framed, framed_steps}

-- Step number i of a list: those before it, which are i, the step, and those behind it.
pub record StepAt {R : Type 0} (ts : List (Step R)) (i : ℕ) (t : Step R) : Type 0 where
  pub before : List (Step R)
  pub after : List (Step R)
  pub steps : ts ≡ before ++ t ∷ after
  pub number : length before ≡ i

module _ {R : Type 0} where
  -- step number i with the frame before it
  pub record FramedAt (Q : Pauli) (ts : List (Step R)) (i : ℕ) (f : Framed R) : Type 0 where
    pub at : StepAt ts i f.step
    pub frame : f.frame ≡ end_pauli Q at.before

  pub framed_none : (Q : Pauli) (ts : List (Step R)) (i : ℕ) → length ts ≤ i → get_elem? (framed_steps Q ts) i ≡ none
  unfolding framed_steps
  framed_none Q [] i h = refl
  framed_none Q (t ∷ ts) zero h = absurd (omega arith)
  framed_none Q (t ∷ ts) (suc i) h = framed_none (passed Q t) ts i (omega arith)

  -- and there is one for every number below the length
  pub record SomeFramed (Q : Pauli) (ts : List (Step R)) (i : ℕ) : Type 0 where
    pub framed : Framed R
    pub is : get_elem? (framed_steps Q ts) i ≡ some framed

  -- ---- and of the carried steps the one of that number is the step as this frame leaves it
  pub carried_at : (Q : Pauli) (before : List (Step R)) (t : Step R) (after : List (Step R))
      → carried_steps Q (before ++ t ∷ after) ≡ carried_steps Q before ++ carried_step (end_pauli Q before) t ∷ carried_steps (passed (end_pauli Q before) t) after
  unfolding carried_steps end_pauli
  carried_at Q [] t after = refl
  carried_at Q (b ∷ before) t after = ap (λ (l : List (Step R)). carried_step Q b ∷ l) (carried_at (passed Q b) before t after)
