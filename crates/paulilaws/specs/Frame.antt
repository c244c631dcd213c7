-- What carrying does to a Pauli besides multiplying it: a phase raised, a qubit dropped.
use Rattle.std.specs.Prelude.{ℕ, ◌+◌, ◌-◌, ◌%◌}
use Rattle.bitlaws.specs.Opening.{drop_bit}
use Rattle.paulilaws.specs.Pauli.{Pauli}
use Rattle.paulilaws.specs.Fitting.{Fitting, phase_small}

-- times i^e
unfoldable pub raised : ℕ → Pauli → Pauli
raised e P = record { n = P.n; k = (P.k + e) % 4; x = P.x; z = P.z }

-- without qubit q: its bit is dropped from both masks, those above it moving down one
unfoldable pub dropped : ℕ → Pauli → Pauli
dropped q P = record { n = P.n - 1; k = P.k; x = drop_bit q P.x; z = drop_bit q P.z }

pub raised_fitting : (e : ℕ) {P : Pauli} → Fitting P → Fitting (raised e P)
unfolding raised
raised_fitting e {P} f = record { phase = phase_small (P.k + e); xs = f.xs; zs = f.zs }
