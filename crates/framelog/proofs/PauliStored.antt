-- A Pauli's bytes stored one part behind the other.
use mathlib.Core.Path.{◌≡◌, sym, ap, ◌∙◌, subst}
use mathlib.Core.List.{List, ◌++◌}
use Prim.Native.Nat.{ℕ, ◌+◌, ◌≤◌}
use native.Mathlib.Numerals.{add-one}
use native.Mathlib.Omega.{arith}
use lib.ListN.{length, set, length-set}
use lib.Seq.{sets}
use Rattle.answers.specs.Stores.{sets_sets}
use Rattle.paulilaws.specs.Pauli.{Pauli}
use Rattle.runlaws.specs.NumberBytes.{bytes_of, bytes_length}
use Rattle.runlaws.specs.PauliBytes.{pauli_bytes}

-- a store keeps the buffer's length, whatever is stored
pub set_fits : {n : ℕ} (out : List ℕ) (to v : ℕ) → n ≤ length out → n ≤ length (set out to v)
set_fits {n} out to v h = subst (λ (m : ℕ). n ≤ m) (sym (length-set out to v)) h

module _ (P : Pauli) (out : List ℕ) (to : ℕ) {new : List ℕ} (first : new ≡ sets (set out to P.k) (to + 1) (bytes_of 8 P.x)) where
  pub pauli_stored : {last : List ℕ} → last ≡ sets new (to + 9) (bytes_of 8 P.z) → last ≡ sets out to (pauli_bytes P)
  unfolding pauli_bytes
  pauli_stored second =
      let xs : List ℕ = bytes_of 8 P.x in
      let zs : List ℕ = bytes_of 8 P.z in
      let ends : to + 9 ≡ to + 1 + length xs = omega (arith, bytes_length 8 P.x) in
      second ∙ ap (λ (l : List ℕ). sets l (to + 9) zs) first ∙ sets_sets (set out to P.k) (to + 1) (to + 9) xs zs ends
      ∙ ap (λ (n : ℕ). sets (set out to P.k) n (xs ++ zs)) (add-one to)
