-- The product of two Paulis acts as the second and then the first, and its matrix is the product of theirs.
use Rattle.std.specs.Prelude.{◌≡◌}
use Rattle.std.proofs.Math.Path.{sym, ap}
use Rattle.std.proofs.Common.{◌∙◌, arith}
use Prim.Native.Nat.{ℕ, ◌+◌, ◌*◌, ◌%◌, ◌^◌, ◌<◌}
use Rattle.std.specs.Int.Bits.{bit_xor}
use Rattle.bitlaws.specs.Xor.{xor_assoc}
use Rattle.bitlaws.specs.Parity.{overlap, overlap_comm}
use Rattle.bitlaws.proofs.Parity.{overlap_xor_l, overlap_xor_r}
use Rattle.paulilaws.specs.Pauli.{Pauli, product}
use Rattle.paulilaws.specs.Fitting.{Fitting, product_fitting}
use Rattle.amplitudelaws.specs.Arithmetic.{Amplitude}
use Rattle.amplitudelaws.specs.Book.Ring.{Ring, ring}
use Rattle.amplitudelaws.specs.Book.Complex.{complex, i, ipow, sgn}
use Rattle.amplitudelaws.specs.Book.Signs.{sign_add, sign_same, pow_add, pow_double, pow_mod}
use Rattle.amplitudelaws.specs.Book.Matrix.{ket, applied, joined, applied_same, applied_ket, joined_column}
use Rattle.amplitudelaws.specs.Book.Operators.{pauli}
use Rattle.amplitudelaws.proofs.Book.Action.{act, pauli_acts}

-- l is the overlap of o with A's Z parts, m and r those of u = o xor (B's X parts) with A's and B's Z parts, t that of A's Z parts with B's X parts
exponents : (l m r t : ℕ) → m ≡ (l + t) % 2 → (t + (m + r) % 2) % 2 ≡ (l + r) % 2
exponents l m r t e = omega arith

module _ {R : Type 0} (𝓡 : Ring R) where
  open 𝓡 use {mul}

  regroup : (a b f g q : R) → mul (mul a f) (mul (mul b g) q) ≡ mul (mul (mul a b) (mul f g)) q
  regroup a b f g q = simp ring

module _ {R : Type 0} (𝓡 : Ring R) (A B : Pauli) where
  open complex 𝓡 use {mul as ◌*ᶜ◌}

  infixl 70 ◌*ᶜ◌
  phase : (t : ℕ) → ipow 𝓡 ((A.k + B.k + 2 * t) % 4) ≡ ipow 𝓡 A.k *ᶜ ipow 𝓡 B.k *ᶜ sgn 𝓡 t
  phase t =
      pow_mod 𝓡 ((A.k + B.k + 2 * t) % 4) (A.k + B.k + 2 * t) (omega arith)
      ∙ rw (pow_add (complex 𝓡) (i 𝓡) (A.k + B.k) (2 * t), pow_add (complex 𝓡) (i 𝓡) A.k B.k, pow_double 𝓡 t)

  -- the sign in the product's phase, and those of the two actions
  signs : (o : ℕ) → let u = bit_xor o B.x in
      sgn 𝓡 (overlap A.z B.x) *ᶜ sgn 𝓡 (overlap u (bit_xor A.z B.z)) ≡ sgn 𝓡 (overlap o A.z) *ᶜ sgn 𝓡 (overlap u B.z)
  signs o =
      let u : ℕ = bit_xor o B.x in
      let t : ℕ = overlap A.z B.x in
      let met : overlap u A.z ≡ (overlap o A.z + t) % 2 = overlap_xor_l o B.x A.z ∙ rw (overlap_comm B.x A.z) in
      sym (sign_add (complex 𝓡) t (overlap u (bit_xor A.z B.z)))
      ∙ sign_same (complex 𝓡) (t + overlap u (bit_xor A.z B.z)) (overlap o A.z + overlap u B.z)
      (rw (overlap_xor_r u A.z B.z) (exponents (overlap o A.z) (overlap u A.z) (overlap u B.z) t met))
      ∙ sign_add (complex 𝓡) (overlap o A.z) (overlap u B.z)

  pub product_acts : (F : ℕ → Amplitude R) (b : ℕ) → act 𝓡 (product A B) F b ≡ act 𝓡 A (act 𝓡 B F) b
  unfolding act product
  product_acts F b =
      let o : ℕ = bit_xor b A.x in
      let u : ℕ = bit_xor o B.x in
      let t : ℕ = overlap A.z B.x in
      let z : ℕ = bit_xor A.z B.z in
      ap (λ (m : ℕ). ipow 𝓡 ((A.k + B.k + 2 * t) % 4) *ᶜ sgn 𝓡 (overlap m z) *ᶜ F m) (sym (xor_assoc b A.x B.x))
      ∙ ap (λ (q : Amplitude R). q *ᶜ sgn 𝓡 (overlap u z) *ᶜ F u) (phase t)
      ∙ ap (λ (q : Amplitude R). q *ᶜ F u) ((complex 𝓡).mul_assoc (ipow 𝓡 A.k *ᶜ ipow 𝓡 B.k) (sgn 𝓡 t) (sgn 𝓡 (overlap u z)))
      ∙ ap (λ (q : Amplitude R). ipow 𝓡 A.k *ᶜ ipow 𝓡 B.k *ᶜ q *ᶜ F u) (signs o)
      ∙ sym (regroup (complex 𝓡) (ipow 𝓡 A.k) (ipow 𝓡 B.k) (sgn 𝓡 (overlap o A.z)) (sgn 𝓡 (overlap u B.z)) (F u))

  module _ (e : A.n ≡ B.n) (f : Fitting A) (g : Fitting B) where
    -- one matrix after the other
    applied_twice : (F : ℕ → Amplitude R) (a : ℕ) → a < 2 ^ A.n
        → applied 𝓡 (2 ^ A.n) (pauli 𝓡 (product A B)) F a ≡ applied 𝓡 (2 ^ A.n) (pauli 𝓡 A) (applied 𝓡 (2 ^ A.n) (pauli 𝓡 B) F) a
    unfolding product
    applied_twice F a ha =
        pauli_acts 𝓡 (product A B) (product_fitting (sym e) f g) F a ha ∙ product_acts F a
        ∙ sym (applied_same 𝓡 (2 ^ A.n) (pauli 𝓡 A) (applied 𝓡 (2 ^ A.n) (pauli 𝓡 B) F) (act 𝓡 B F) second a ∙ pauli_acts 𝓡 A f (act 𝓡 B F) a ha)
      where
        second : (b : ℕ) → b < 2 ^ A.n → applied 𝓡 (2 ^ A.n) (pauli 𝓡 B) F b ≡ act 𝓡 B F b
        second b hb = rw e (pauli_acts 𝓡 B g F b (rw e at hb))

    pub product_is_book : (a b : ℕ) → a < 2 ^ A.n → b < 2 ^ A.n → pauli 𝓡 (product A B) a b ≡ joined 𝓡 (2 ^ A.n) (pauli 𝓡 A) (pauli 𝓡 B) a b
    product_is_book a b ha hb =
        let size : ℕ = 2 ^ A.n in
        sym (applied_ket 𝓡 size (pauli 𝓡 (product A B)) a b hb)
        ∙ applied_twice (ket 𝓡 b) a ha
        ∙ applied_same 𝓡 size (pauli 𝓡 A) (applied 𝓡 size (pauli 𝓡 B) (ket 𝓡 b)) (λ c. pauli 𝓡 B c b) (λ c l. applied_ket 𝓡 size (pauli 𝓡 B) c b hb) a
        ∙ sym (joined_column 𝓡 size (pauli 𝓡 A) (pauli 𝓡 B) a b)
