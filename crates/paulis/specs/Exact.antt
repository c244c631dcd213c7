-- A promise on what a PauliString means says all of it: two with equal meaning are equal, field by field and word by word.
use Rattle.std.specs.Prelude.{◌≡◌, List, ℕ, length}
use Rattle.std.proofs.Common.{sym, ap, ◌∙◌, ext_get_or, arith}
use Rattle.paulilaws.specs.Pauli.{Pauli}
use Rattle.masks.specs.Mask.{mask}
use Rattle.masks.specs.MaskLaws.{Small, mask_same}
use Rattle.paulis.specs.Strings.{pauli_of}
use Rattle.paulis.specs.declared.PauliString.{PauliString}

-- what the types of the fields say of the masks: four words of 64 bits
pub record Words (w : List ℕ) : Type 0 where
  pub four : length w ≡ 4
  pub small : Small w

words_exact : (v w : List ℕ) → Words v → Words w → mask v ≡ mask w → v ≡ w
words_exact v w hv hw e =
    ext_get_or 0 v w (hv.four ∙ sym hw.four) (λ i h. mask_same v hv.small w hw.small e i (omega (arith, hv.four)))

pub exact : (s t : PauliString) → Words s.x → Words s.z → Words t.x → Words t.z → pauli_of s ≡ pauli_of t → s ≡ t
exact s t sx sz tx tz e =
    let n = ap (λ (P : Pauli). P.n) e in
    let k = ap (λ (P : Pauli). P.k) e in
    let x = words_exact s.x t.x sx tx (ap (λ (P : Pauli). P.x) e) in
    let z = words_exact s.z t.z sz tz (ap (λ (P : Pauli). P.z) e) in
    λ i. record { nqubits = n i; x = x i; z = z i; phase = k i }
