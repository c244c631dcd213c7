-- What is found by Seeking's elimination is carried to the given Pauli, phase included; and where it finds none, no Pauli on the start qubits is.
use Rattle.std.specs.Prelude.{◌≡◌, List, Float}
use Prim.Native.Nat.{ℕ, ◌≤◌}
use Rattle.paulilaws.specs.Pauli.{Pauli, most_qubits}
use Rattle.paulilaws.specs.Fitting.{Fitting, Admitted}
use Rattle.amplitudelaws.specs.Step.{Step, last_width}
use Rattle.framelaws.specs.Caller.{Caller}
use Rattle.framelaws.specs.Carrying.{end_pauli}
use Rattle.framelaws.specs.Allowed.{Allowed}

module _ (caller : Caller) (n : ℕ) (ts : List (Step Float)) (narrow : n ≤ most_qubits) (allowed : Allowed caller n ts) where
  abbrev m : ℕ
  m = last_width n ts

  -- ---- and so a Pauli, its phase made up for

  module _ (within : n ≤ caller.widest) (E : Pauli) (fits : Fitting E) (width : E.n ≡ m) where
    pub record Start (Q : Pauli) : Type 0 where
      pub admitted : Admitted Q
      pub on : Q.n ≡ n
      pub ends : end_pauli Q ts ≡ E
