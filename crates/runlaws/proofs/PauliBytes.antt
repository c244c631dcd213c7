-- A Pauli as its 17 bytes, and a correction as its field: read back they are what they were.
use Rattle.std.specs.Prelude.{◌≡◌, refl, List, [], ◌∷◌, ◌++◌, ℕ, zero, suc, ◌%◌, ◌^◌, ◌≤◌, ◌<◌, length, replicate}
use Rattle.std.proofs.Common.{sym, ap, ap₂, ◌∙◌, subst, append_assoc, append-nil, mod-eq_of_lt, arith, pow_mono, le-leb, take_all}
use Rattle.std.proofs.Math.Option.{some}
use Rattle.paulilaws.specs.Pauli.{Pauli, same}
use Rattle.paulilaws.specs.Fitting.{Fitting}
use Rattle.amplitudelaws.specs.Passed.{width_passed}
use Rattle.amplitudelaws.specs.Rows.{widest_kernel}
use Rattle.amplitudelaws.specs.Step.{width_after}
use Rattle.amplitudelaws.specs.Step.Step.{correction}
use Rattle.framelaws.specs.Caller.{Caller}
use Rattle.framelaws.specs.Rows.{step_row}
use Rattle.runlaws.specs.Bytes.{byte_at, number, pauli_at}
use Rattle.runlaws.specs.NumberBytes.{bytes_of, bytes_length, bytes_small}
use Rattle.runlaws.proofs.NumberBytes.{bytes_read}
use Rattle.runlaws.specs.Field.{Field, body_length, is_whole, field_at}
use Rattle.runlaws.specs.Reading.{Cursor, read_field}
use Rattle.runlaws.specs.Fields.{Decodes, read_decodes, read_within}
use Rattle.runlaws.specs.Fields.Decodes.{corrects}
use Rattle.runlaws.specs.Pieces.{Piece}
use Rattle.runlaws.specs.PauliBytes.{pauli_bytes, pauli_length, correction_field, field_length}

-- a number of at most 64 bits is its eight bytes
eight : (n v : ℕ) → n ≤ 64 → v < 2 ^ n → v % 256 ^ 8 ≡ v
eight n v narrow h = mod-eq_of_lt (omega (arith, pow_mono {i = n} {j = 64} narrow))

-- read back, whatever stands behind them
pub pauli_read : (P : Pauli) (rest : List ℕ) → Fitting P → P.n ≤ 64 → pauli_at P.n (pauli_bytes P ++ rest) ≡ P
unfolding pauli_at pauli_bytes
pauli_read P rest fits narrow =
    let xs : List ℕ = bytes_of 8 P.x in
    let zs : List ℕ = bytes_of 8 P.z in
    let parts : pauli_bytes P ++ rest ≡ P.k ∷ (xs ++ (zs ++ rest)) = ap (λ (l : List ℕ). P.k ∷ l) (append_assoc xs zs rest) in
    let nine : length (P.k ∷ xs) ≡ 9 = ap suc (bytes_length 8 P.x) in
    same refl refl
    (ap (λ (l : List ℕ). number 8 l 1) parts ∙ bytes_read 8 P.x (P.k ∷ []) (zs ++ rest) ∙ eight P.n P.x narrow fits.xs)
    (ap₂ (number 8) parts (sym nine) ∙ bytes_read 8 P.z (P.k ∷ xs) rest ∙ eight P.n P.z narrow fits.zs)

both_small : (a b : List ℕ) → ((i : ℕ) → byte_at a i < 256) → ((i : ℕ) → byte_at b i < 256) → (i : ℕ) → byte_at (a ++ b) i < 256
both_small [] b f g i = g i
both_small (x ∷ a) b f g zero = f 0
both_small (x ∷ a) b f g (suc i) = both_small a b (λ i. f (suc i)) g i

pub pauli_small : (P : Pauli) → Fitting P → (i : ℕ) → byte_at (pauli_bytes P) i < 256
unfolding pauli_bytes
pauli_small P fits zero = omega (arith, fits.phase)
pauli_small P fits (suc i) = both_small (bytes_of 8 P.x) (bytes_of 8 P.z) (bytes_small 8 P.x) (bytes_small 8 P.z) i

-- so that no two Paulis of one width have the same bytes
pub pauli_same : (P Q : Pauli) → Fitting P → Fitting Q → P.n ≤ 64 → P.n ≡ Q.n → pauli_bytes P ≡ pauli_bytes Q → P ≡ Q
pauli_same P Q f g narrow width e =
    sym (pauli_read P [] f narrow) ∙ ap₂ (λ (n : ℕ) (l : List ℕ). pauli_at n (l ++ [])) width e ∙ pauli_read Q [] g (omega arith)

-- ---- the field of a correction

correction_field_lem : (P : Pauli) → field_at (correction_field P) 0 ≡ some (record { tag = 5; body = pauli_bytes P; next = 20 })
unfolding correction_field field_at is_whole body_length
correction_field_lem P =
    let size = pauli_length P in
    rw (le-leb 20 (length (correction_field P)) (omega arith), take_all 17 (pauli_bytes P) (omega arith))

-- a piece, at the width of its Pauli
pub correction_piece : (caller : Caller) (n : ℕ) (P : Pauli) → P.n ≡ n → n ≤ caller.widest → step_row caller n (correction P) ≡ 0
    → Piece caller n (correction P) (correction_field P)
unfolding step_row width_after
correction_piece caller n P width within e =
    let known = width_passed widest_kernel P e in
    let c : Cursor = record { at = 0; width = n } in
    let f : Field = record { tag = 5; body = pauli_bytes P; next = 20 } in
    let size = field_length P in
    let back : pauli_at n (pauli_bytes P) ≡ P
    = ap₂ pauli_at (sym width) (sym (append-nil (pauli_bytes P))) ∙ pauli_read P [] known.0 (omega (arith, known.1)) in
    let is : Decodes n f (correction P) = subst (λ (Q : Pauli). Decodes n f (correction Q)) back (corrects refl (pauli_length P)) in
    record {
      read = read_within caller (correction_field P) c (omega arith) within ∙ ap (read_field caller c) (correction_field_lem P)
          ∙ read_decodes caller c f is e ∙ rw size;
    }

-- ---- by computation

-- Y on qubit 1 of 3, phase 1
y_bytes : pauli_bytes (record { n = 3; k = 1; x = 2; z = 2 }) ≡ 1 ∷ 2 ∷ (replicate 7 0 ++ 2 ∷ replicate 7 0)
unfolding pauli_bytes bytes_of
y_bytes = refl

-- X on qubits 0 and 9, Z on qubit 17 of 18, phase 2
xz_bytes : pauli_bytes (record { n = 18; k = 2; x = 513; z = 131072 }) ≡ 2 ∷ 1 ∷ 2 ∷ (replicate 6 0 ++ 0 ∷ 0 ∷ 2 ∷ replicate 5 0)
unfolding pauli_bytes bytes_of
xz_bytes = refl

-- X on one qubit, as the scope's run has it
x_field : correction_field (record { n = 1; k = 0; x = 1; z = 0 }) ≡ 0x05 ∷ 0x11 ∷ 0x00 ∷ 0x00 ∷ 0x01 ∷ replicate 15 0x00
unfolding correction_field pauli_bytes bytes_of
x_field = refl
