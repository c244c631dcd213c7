-- Paulis that a checked run has: they fit, and are on no more qubits than the widest run has.
use Rattle.std.specs.Prelude.{◌≤◌, Float}
use Rattle.paulilaws.specs.Pauli.{Pauli}
use Rattle.paulilaws.specs.Fitting.{Admitted}
use Rattle.amplitudelaws.specs.Step.{Step}
use Rattle.amplitudelaws.specs.Step.Step.{rotation, promotion, projection, correction, quarter_turn}
use Rattle.framelaws.specs.Caller.{widest_run}

pub record NarrowPauli (P : Pauli) : Type 0 where
  pub admitted : Admitted P
  pub narrow : P.n ≤ widest_run

-- the step's Pauli, where it has one
abbrev pub NarrowStep : Step Float → Type 0
NarrowStep (rotation P sign c s) = NarrowPauli P
NarrowStep (promotion c q) = Unit {0}
NarrowStep (projection M p v invnorm) = NarrowPauli M
NarrowStep (correction P) = NarrowPauli P
NarrowStep (quarter_turn P) = NarrowPauli P
