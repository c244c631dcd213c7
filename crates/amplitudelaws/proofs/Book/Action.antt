-- A Pauli's action on a vector, entry by entry, and that its matrix acts so.
use Rattle.std.specs.Prelude.{◌≡◌, cond}
use Rattle.std.proofs.Common.{sym, ◌∙◌}
use Rattle.std.proofs.Math.Path.{ap}
use Rattle.std.proofs.Math.Bool.{false}
use Prim.Native.Nat.{ℕ, ◌^◌, ◌<◌}
use Rattle.std.specs.Int.Bits.{bit_xor}
use Rattle.std.proofs.Math.Dec.{eqb}
use borrow.Author.Tests.{eq-eqb, ne_eqb}
use Rattle.bitlaws.specs.Xor.{xor_twice, xor_lt}
use Rattle.bitlaws.specs.Parity.{overlap}
use Rattle.paulilaws.specs.Pauli.{Pauli}
use Rattle.paulilaws.specs.Fitting.{Fitting}
use Rattle.amplitudelaws.specs.Arithmetic.{Amplitude}
use Rattle.amplitudelaws.specs.Book.Ring.{Ring, mul_zero, zero_mul}
use Rattle.amplitudelaws.specs.Book.Complex.{complex, ipow, sgn}
use Rattle.amplitudelaws.specs.Book.Sum.{sum_one}
use Rattle.amplitudelaws.specs.Book.Matrix.{multiple, applied}
use Rattle.amplitudelaws.specs.Book.Operators.{pauli}
use Rattle.amplitudelaws.proofs.Book.Factors.{factors_entry}

module _ {R : Type 0} (𝓡 : Ring R) where
  open complex 𝓡 use {mul as ◌*ᶜ◌, zero as nought}

  infixl 70 ◌*ᶜ◌
  -- P sends |b> to i^k (-1)^(b.z) |b xor x>
  unfoldable pub act : Pauli → (ℕ → Amplitude R) → ℕ → Amplitude R
  act P F b = ipow 𝓡 P.k *ᶜ sgn 𝓡 (overlap (bit_xor b P.x) P.z) *ᶜ F (bit_xor b P.x)

  pub pauli_entry : (P : Pauli) → Fitting P → (a b : ℕ) → a < 2 ^ P.n → b < 2 ^ P.n
      → pauli 𝓡 P a b ≡ ipow 𝓡 P.k *ᶜ cond (eqb a (bit_xor b P.x)) (sgn 𝓡 (overlap b P.z)) nought
  unfolding pauli multiple
  pauli_entry P f a b ha hb = ap (◌*ᶜ◌ (ipow 𝓡 P.k)) (factors_entry 𝓡 P.n P.x P.z a b f.xs f.zs ha hb)

  -- row a has its one entry that is not 0 in column a xor x
  pub pauli_acts : (P : Pauli) → Fitting P → (F : ℕ → Amplitude R) (a : ℕ) → a < 2 ^ P.n → applied 𝓡 (2 ^ P.n) (pauli 𝓡 P) F a ≡ act P F a
  unfolding applied act
  pauli_acts P f F a ha =
      let phase : Amplitude R = ipow 𝓡 P.k in
      let c : ℕ = bit_xor a P.x in
      let hc : c < 2 ^ P.n = xor_lt P.n a P.x ha f.xs in
      sum_one (complex 𝓡) (2 ^ P.n) c (λ b. pauli 𝓡 P a b *ᶜ F b) hc
      (λ b hb other.
      let off : eqb a (bit_xor b P.x) ≡ false = ne_eqb a (bit_xor b P.x) (λ e. other (sym (xor_twice b P.x) ∙ ap (λ (m : ℕ). bit_xor m P.x) (sym e))) in
      rw (pauli_entry P f a b ha hb, off, mul_zero (complex 𝓡) phase) (zero_mul (complex 𝓡) (F b)))
      ∙ rw (pauli_entry P f a c ha hc, eq-eqb a (bit_xor c P.x) (sym (xor_twice a P.x)))
