-- A Pauli on its own qubits, and what row 3 lets pass, as facts.
use Rattle.std.specs.Prelude.{◌≡◌, Bool, true, ◌&&◌, ◌^◌, leb, ltb}
use Rattle.std.proofs.Common.{leb-true, ltb-true, le-leb, lt-ltb}
use Rattle.paulilaws.specs.Pauli.{Pauli, fits, most_qubits}
use Rattle.paulilaws.specs.Fitting.{Fitting, Admitted, both_left, both_right}

pub fits_admitted : (P : Pauli) → fits P ≡ true → Admitted P
unfolding fits
fits_admitted P e =
    let a : Bool = leb P.k 3 in
    let b : Bool = leb P.n most_qubits in
    let c : Bool = ltb P.x (2 ^ P.n) in
    let d : Bool = ltb P.z (2 ^ P.n) in
    let abc = both_left (a && b && c) d e in
    let ab = both_left (a && b) c abc in
    record {
      fitting = record {
        phase = leb-true P.k 3 (both_left a b ab);
        xs = ltb-true P.x (2 ^ P.n) (both_right (a && b) c abc);
        zs = ltb-true P.z (2 ^ P.n) (both_right (a && b && c) d e);
      };
      width = leb-true P.n most_qubits (both_right a b ab);
    }

pub fits_fitting : (P : Pauli) → fits P ≡ true → Fitting P
fits_fitting P e = (fits_admitted P e).fitting

pub admitted_fits : (P : Pauli) → Admitted P → fits P ≡ true
unfolding fits
admitted_fits P a =
    let f = a.fitting in
    rw (le-leb P.k 3 f.phase, le-leb P.n most_qubits a.width, lt-ltb P.x (2 ^ P.n) f.xs, lt-ltb P.z (2 ^ P.n) f.zs)
