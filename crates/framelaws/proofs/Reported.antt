-- The frame before a step is the end of carrying past those before it; the step numbers are those of the list, from 0.
use Rattle.std.proofs.Math.Path.{◌≡◌, refl, ap}
use mathlib.Core.List.{List, [], ◌∷◌}
use Rattle.std.proofs.Math.Option.{some}
use Prim.Native.Nat.{ℕ, zero, suc, ◌<◌}
use Rattle.std.proofs.Common.{arith}
use Rattle.std.specs.Prelude.{length}
use Rattle.std.proofs.Math.ListN.{get_elem?}
use Rattle.paulilaws.specs.Pauli.{Pauli}
use Rattle.amplitudelaws.specs.Step.{Step}
use Rattle.framelaws.specs.Carrying.{passed, end_pauli}
use Rattle.framelaws.specs.Reporting.{Framed, framed_steps}
use Rattle.framelaws.specs.Reported.{FramedAt, SomeFramed}

module _ {R : Type 0} where
  pub framed_at : (Q : Pauli) (ts : List (Step R)) (i : ℕ) (f : Framed R) → get_elem? (framed_steps Q ts) i ≡ some f → FramedAt Q ts i f
  unfolding framed_steps end_pauli
  framed_at Q [] i f e = absurd (let z : ◌≡◌ {A = ℕ} 0 1 = cc in omega arith)
  framed_at Q (t ∷ ts) zero f e =
      let is : record { frame = Q; step = t } ≡ f = cc in
      rw (← is) (record { at = record { before = []; after = ts; steps = refl; number = refl }; frame = refl })
  framed_at Q (t ∷ ts) (suc i) f e =
      let k = framed_at (passed Q t) ts i f e in
      record {
        at = record { before = t ∷ k.at.before; after = k.at.after; steps = ap (λ (l : List (Step R)). t ∷ l) k.at.steps; number = ap suc k.at.number };
        frame = k.frame;
      }

  pub framed_some : (Q : Pauli) (ts : List (Step R)) (i : ℕ) → i < length ts → SomeFramed Q ts i
  unfolding framed_steps
  framed_some Q [] i h = absurd (omega arith)
  framed_some Q (t ∷ ts) zero h = record { framed = record { frame = Q; step = t }; is = refl }
  framed_some Q (t ∷ ts) (suc i) h = let k = framed_some (passed Q t) ts i (omega arith) in record { framed = k.framed; is = k.is }
