-- A correction's Pauli and the one that is held: no row refuses their product, and it is the Pauli behind the correction.
use mathlib.Core.Path.{◌≡◌, refl, sym}
use lib.Ieee.{Float}
use Rattle.paulilaws.specs.Pauli.{Pauli, product}
use Rattle.paulilaws.specs.Fitting.{Fitting, Admitted, admitted_beside}
use Rattle.amplitudelaws.specs.Step.Step.{correction}
use Rattle.framelaws.specs.Folding.{fires, folded_by, folded_past}
use Rattle.framelaws.specs.PassRow.{pass_row}
use Rattle.framelaws.proofs.Suited.{passed_suited}

module _ (Q P : Pauli) where
  pub fired_pair : pass_row {R = Float} Q (correction P) ≡ 0 → Admitted P × Fitting Q × (P.n ≡ Q.n)
  fired_pair row =
      let p = passed_suited Q {R = Float} (correction P) row in
      (admitted_beside p.first p.width p.second, p.first.fitting, sym p.width)

  pub fired_product : product P Q ≡ folded_past {R = Float} Q (correction P)
  unfolding folded_past fires folded_by
  fired_product = refl
