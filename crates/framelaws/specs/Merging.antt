-- Two corrections, one carry, over steps: a Pauli B carried through them, and a Pauli A through what B leaves, leave what their product leaves, and B's end Pauli
-- times A's is the product's. No amplitude is read, and none need be finite.
use Rattle.std.specs.Prelude.{◌≡◌, List}
use Rattle.paulilaws.specs.Pauli.{Pauli, product}
use Rattle.amplitudelaws.specs.Step.{Step}
use Rattle.framelaws.specs.Carrying.{carried_steps, end_pauli}

-- ---- all of them, whatever their kinds

pub record MergedSteps {R : Type 0} (ts : List (Step R)) (B A : Pauli) : Type 0 where
  pub steps : carried_steps A (carried_steps B ts) ≡ carried_steps (product B A) ts
  pub end : product (end_pauli B ts) (end_pauli A (carried_steps B ts)) ≡ end_pauli (product B A) ts
