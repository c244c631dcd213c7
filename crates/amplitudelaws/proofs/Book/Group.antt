-- The Pauli group as matrices: the identity, a raised phase, what exchanging two Paulis costs, and which Paulis are their own adjoint.
use Rattle.std.specs.Prelude.{◌≡◌, Bool, true, false, cond, ◌↔◌, eqb}
use Rattle.std.proofs.Math.Path.{refl, sym, ap, ap₂}
use Rattle.std.proofs.Common.{◌∙◌, subst, pow_pos, eqb-true, eq-eqb}
use Rattle.std.proofs.Math.Logic.{⊎_elim}
use Prim.Native.Nat.{ℕ, ◌+◌, ◌*◌, ◌%◌, ◌^◌, ◌<◌}
use native.Mathlib.Omega.{arith}
use Rattle.std.specs.Int.Bits.{bit_xor, xor_zero_l, xor_zero_r}
use Rattle.std.proofs.lemmas.Bool.{eqb-false}
use Rattle.bitlaws.specs.Digit.{mod_two}
use Rattle.bitlaws.specs.Xor.{xor_comm, xor_self, xor_twice}
use Rattle.bitlaws.specs.Parity.{overlap, overlap_comm}
use Rattle.bitlaws.proofs.Parity.{overlap_zero_l, overlap_zero_r, overlap_lt}
use Rattle.paulilaws.specs.Pauli.{Pauli, product, anti, hermitian}
use Rattle.paulilaws.specs.Pauli as group
use Rattle.paulilaws.specs.Action.{Ket, on_ket}
use Rattle.paulilaws.proofs.Algebra.{hermitian_square, parity_hermitian}
use Rattle.paulilaws.specs.Fitting.{Fitting, identity_fitting, product_fitting}
use Rattle.paulilaws.specs.Frame.{raised}
use Rattle.amplitudelaws.specs.Arithmetic.{Amplitude}
use Rattle.amplitudelaws.specs.Book.Ring.{Ring, ring, cancel, mul_neg, mul_one, mul_zero, one_mul}
use Rattle.amplitudelaws.specs.Book.Complex.{complex, i, conj, pow, ipow, sgn}
use Rattle.amplitudelaws.specs.Book.Signs.{parity, sign_add, sign_even, sign_odd, pow_add, pow_mod, pow_double}
use Rattle.amplitudelaws.specs.Book.Reals.{conj_mul, conj_pow, conj_sign}
use Rattle.amplitudelaws.specs.Book.Matrix.{Matrix, identity, multiple, applied, joined, adjoint}
use Rattle.amplitudelaws.specs.Book.Operators.{factors, pauli, turned_ket}
use Rattle.amplitudelaws.proofs.Book.Action.{act, pauli_entry, pauli_acts}
use Rattle.amplitudelaws.proofs.Book.Product.{product_is_book}

module _ {R : Type 0} (𝓡 : Ring R) where
  open complex 𝓡 use {mul as ◌*ᶜ◌, neg as -ᶜ◌, add as ◌+ᶜ◌, zero as nought, one}

  infixl 60 ◌+ᶜ◌
  infixl 70 ◌*ᶜ◌
  infix 80 -ᶜ◌
  -- ---- entries

  -- the first column's entry that is not 0
  first_column : (P : Pauli) → Fitting P → pauli 𝓡 P P.x 0 ≡ ipow 𝓡 P.k
  first_column P f =
      pauli_entry 𝓡 P f P.x 0 f.xs (pow_pos P.n)
      ∙ rw (eq-eqb P.x (bit_xor 0 P.x) (sym (xor_zero_l P.x)), overlap_zero_l P.z) (unfold pow in (mul_one (complex 𝓡) (ipow 𝓡 P.k)))

  -- the first row's
  first_row : (P : Pauli) → Fitting P → pauli 𝓡 P 0 P.x ≡ ipow 𝓡 P.k *ᶜ sgn 𝓡 (overlap P.x P.z)
  first_row P f =
      pauli_entry 𝓡 P f 0 P.x (pow_pos P.n) f.xs
      ∙ ap (λ (t : Bool). ipow 𝓡 P.k *ᶜ cond t (sgn 𝓡 (overlap P.x P.z)) nought) (eq-eqb 0 (bit_xor P.x P.x) (sym (xor_self P.x)))

  real_part : one +ᶜ one ≡ nought → 𝓡.add 𝓡.one 𝓡.one ≡ 𝓡.zero
  unfolding complex
  real_part e = ap (λ (a : Amplitude R). a.re) e

  -- where a power of i is its own negative, 1 + 1 is 0
  own_negative : (k : ℕ) → ipow 𝓡 k ≡ -ᶜ ipow 𝓡 k → 𝓡.add 𝓡.one 𝓡.one ≡ 𝓡.zero
  own_negative k e =
      let back : ipow 𝓡 (3 * k) *ᶜ ipow 𝓡 k ≡ one
      = sym (pow_add (complex 𝓡) (i 𝓡) (3 * k) k) ∙ pow_mod 𝓡 (3 * k + k) 0 (fourfold k) ∙ unfold pow in refl in
      let unit : one ≡ -ᶜ one
      = sym back ∙ ap (◌*ᶜ◌ (ipow 𝓡 (3 * k))) e ∙ mul_neg (complex 𝓡) (ipow 𝓡 (3 * k)) (ipow 𝓡 k) ∙ ap -ᶜ◌ back in
      let double : one +ᶜ one ≡ nought = ap (◌+ᶜ◌ one) unit ∙ cancel (complex 𝓡) one in
      real_part double
    where
      fourfold : (k : ℕ) → (3 * k + k) % 4 ≡ 0 % 4
      fourfold k = omega arith

  -- ---- the identity, and a phase raised

  pub identity_is_book : (n a b : ℕ) → a < 2 ^ n → b < 2 ^ n → pauli 𝓡 (group.identity n) a b ≡ identity 𝓡 a b
  unfolding identity
  identity_is_book n a b ha hb =
      pauli_entry 𝓡 (group.identity n) (identity_fitting n) a b ha hb
      ∙ rw (xor_zero_r b, overlap_zero_r b) (unfold pow in (one_mul (complex 𝓡) (cond (eqb a b) one nought)))

  pub raised_phase : (k e : ℕ) → ipow 𝓡 ((k + e) % 4) ≡ ipow 𝓡 e *ᶜ ipow 𝓡 k
  raised_phase k e = pow_mod 𝓡 ((k + e) % 4) (e + k) (turns k e) ∙ pow_add (complex 𝓡) (i 𝓡) e k
    where
      turns : (k e : ℕ) → (k + e) % 4 % 4 ≡ (e + k) % 4
      turns k e = omega arith

  pub raised_is_book : (e : ℕ) (P : Pauli) (a b : ℕ) → pauli 𝓡 (raised e P) a b ≡ multiple 𝓡 (ipow 𝓡 e) (pauli 𝓡 P) a b
  unfolding pauli raised multiple
  raised_is_book e P a b =
      let l : Amplitude R = factors 𝓡 P.n P.x P.z a b in
      ap (λ (q : Amplitude R). q *ᶜ l) (raised_phase P.k e) ∙ (complex 𝓡).mul_assoc (ipow 𝓡 e) (ipow 𝓡 P.k) l

  -- ---- a basis state

  pub acts_is_book : (P : Pauli) → Fitting P → (s : Ket) (a : ℕ) → a < 2 ^ P.n
      → applied 𝓡 (2 ^ P.n) (pauli 𝓡 P) (turned_ket 𝓡 s) a ≡ turned_ket 𝓡 (on_ket P s) a
  unfolding turned_ket on_ket
  acts_is_book P f s a ha =
      pauli_acts 𝓡 P f (turned_ket 𝓡 s) a ha ∙ unfold act identity in (go (eqb o s.basis) (eqb a (bit_xor s.basis P.x)) refl refl)
    where
      o : ℕ
      o = bit_xor a P.x

      regroup : (k g p : Amplitude R) → k *ᶜ g *ᶜ (p *ᶜ one) ≡ p *ᶜ k *ᶜ g *ᶜ one
      regroup k g p = simp ring

      turns : (p k u : ℕ) → (p + k + 2 * u) % 4 % 4 ≡ (p + k + 2 * u) % 4
      turns p k u = omega arith

      go : (t u : Bool) → eqb o s.basis ≡ t → eqb a (bit_xor s.basis P.x) ≡ u
          → ipow 𝓡 P.k *ᶜ sgn 𝓡 (overlap o P.z) *ᶜ (ipow 𝓡 s.phase *ᶜ cond t one nought)
          ≡ ipow 𝓡 ((s.phase + P.k + 2 * overlap s.basis P.z) % 4) *ᶜ cond u one nought
      go true true p q =
          let v : ℕ = overlap s.basis P.z in
          ap (λ (m : ℕ). ipow 𝓡 P.k *ᶜ sgn 𝓡 (overlap m P.z) *ᶜ (ipow 𝓡 s.phase *ᶜ one)) (eqb-true o s.basis p)
          ∙ regroup (ipow 𝓡 P.k) (sgn 𝓡 v) (ipow 𝓡 s.phase)
          ∙ ap (λ (r : Amplitude R). r *ᶜ one)
          (ap₂ ◌*ᶜ◌ (sym (pow_add (complex 𝓡) (i 𝓡) s.phase P.k)) (sym (pow_double 𝓡 v))
          ∙ sym (pow_add (complex 𝓡) (i 𝓡) (s.phase + P.k) (2 * v))
          ∙ sym (pow_mod 𝓡 ((s.phase + P.k + 2 * v) % 4) (s.phase + P.k + 2 * v) (turns s.phase P.k v)))
      go true false p q = absurd (eqb-false a _ q (sym (xor_twice a P.x) ∙ ap (λ (m : ℕ). bit_xor m P.x) (eqb-true o s.basis p)))
      go false true p q = absurd (eqb-false o _ p (ap (λ (m : ℕ). bit_xor m P.x) (eqb-true a _ q) ∙ xor_twice s.basis P.x))
      go false false p q =
          ap (◌*ᶜ◌ (ipow 𝓡 P.k *ᶜ sgn 𝓡 (overlap o P.z))) (mul_zero (complex 𝓡) (ipow 𝓡 s.phase)) ∙ mul_zero (complex 𝓡) _ ∙ sym (mul_zero (complex 𝓡) _)

  -- ---- two Paulis

  -- the phase of A B is that of B A, and a sign where they anticommute
  pub swapped_phase : (A B : Pauli)
      → ipow 𝓡 ((A.k + B.k + 2 * overlap A.z B.x) % 4) ≡ sgn 𝓡 (anti A B) *ᶜ ipow 𝓡 ((B.k + A.k + 2 * overlap B.z A.x) % 4)
  unfolding anti
  swapped_phase A B =
      let t : ℕ = overlap A.z B.x in
      let u : ℕ = overlap B.z A.x in
      let s : ℕ = (overlap A.x B.z + t) % 2 in
      let k : ℕ = (B.k + A.k + 2 * u) % 4 in
      pow_mod 𝓡 ((A.k + B.k + 2 * t) % 4) (2 * s + k) (turns A.k B.k t u s (ap (λ (m : ℕ). (m + t) % 2) (overlap_comm A.x B.z)))
      ∙ pow_add (complex 𝓡) (i 𝓡) (2 * s) k
      ∙ ap (λ (q : Amplitude R). q *ᶜ ipow 𝓡 k) (pow_double 𝓡 s)
    where
      turns : (k j t u s : ℕ) → s ≡ (u + t) % 2 → (k + j + 2 * t) % 4 % 4 ≡ (2 * s + (j + k + 2 * u) % 4) % 4
      turns k j t u s e = omega arith

  module _ (A B : Pauli) (e : A.n ≡ B.n) (f : Fitting A) (g : Fitting B) where
    -- A B is B A, or - B A where they anticommute.
    swapped : (a b : ℕ) → pauli 𝓡 (product A B) a b ≡ sgn 𝓡 (anti A B) *ᶜ pauli 𝓡 (product B A) a b
    unfolding pauli multiple product
    swapped a b =
        let k : ℕ = (A.k + B.k + 2 * overlap A.z B.x) % 4 in
        let l : Amplitude R = factors 𝓡 B.n (bit_xor B.x A.x) (bit_xor B.z A.z) a b in
        ap₂ (λ (x z : ℕ). ipow 𝓡 k *ᶜ factors 𝓡 A.n x z a b) (xor_comm A.x B.x) (xor_comm A.z B.z)
        ∙ ap (λ (n : ℕ). ipow 𝓡 k *ᶜ factors 𝓡 n (bit_xor B.x A.x) (bit_xor B.z A.z) a b) e
        ∙ ap (λ (q : Amplitude R). q *ᶜ l) (swapped_phase A B)
        ∙ (complex 𝓡).mul_assoc (sgn 𝓡 (anti A B)) (ipow 𝓡 ((B.k + A.k + 2 * overlap B.z A.x) % 4)) l

    -- the two products of their matrices
    abbrev AB : Matrix R
    AB = joined 𝓡 (2 ^ A.n) (pauli 𝓡 A) (pauli 𝓡 B)

    abbrev BA : Matrix R
    BA = joined 𝓡 (2 ^ A.n) (pauli 𝓡 B) (pauli 𝓡 A)

    turned_round : (a b : ℕ) → a < 2 ^ A.n → b < 2 ^ A.n → pauli 𝓡 (product B A) a b ≡ BA a b
    turned_round a b ha hb =
        subst (λ (n : ℕ). pauli 𝓡 (product B A) a b ≡ joined 𝓡 (2 ^ n) (pauli 𝓡 B) (pauli 𝓡 A) a b) (sym e)
        (product_is_book 𝓡 B A (sym e) g f a b (rw e at ha) (rw e at hb))

    pub exchange : (a b : ℕ) → a < 2 ^ A.n → b < 2 ^ A.n → AB a b ≡ multiple 𝓡 (sgn 𝓡 (anti A B)) BA a b
    unfolding multiple
    exchange a b ha hb =
        sym (product_is_book 𝓡 A B e f g a b ha hb) ∙ swapped a b ∙ ap (◌*ᶜ◌ (sgn 𝓡 (anti A B))) (turned_round a b ha hb)

    -- So where 1 + 1 is not 0, anti is 1 exactly when A B = - B A.
    pub anticommuting : (𝓡.add 𝓡.one 𝓡.one ≡ 𝓡.zero → ⊥)
        → (anti A B ≡ 1) ↔ ((a b : ℕ) → a < 2 ^ A.n → b < 2 ^ A.n → AB a b ≡ multiple 𝓡 (-ᶜ one) BA a b)
    unfolding multiple
    anticommuting two = (
      λ odd a b ha hb. exchange a b ha hb ∙ ap (λ (q : Amplitude R). q *ᶜ BA a b) (sign_odd (complex 𝓡) (anti A B) (omega arith)),
      λ h. ⊎_elim (λ (even : anti A B % 2 ≡ 0). absurd (two (own_negative Q.k (same even h)))) (λ (odd : anti A B % 2 ≡ 1). omega (arith, small)) (parity (anti A B)),
    )
      where
        Q : Pauli
        Q = product B A

        small : anti A B < 2
        small = unfold anti in (mod_two (overlap A.x B.z + overlap A.z B.x))

        fitting : Fitting Q
        fitting = product_fitting e g f

        same : anti A B % 2 ≡ 0 → ((a b : ℕ) → a < 2 ^ A.n → b < 2 ^ A.n → AB a b ≡ (-ᶜ one) *ᶜ BA a b) → ipow 𝓡 Q.k ≡ -ᶜ ipow 𝓡 Q.k
        same even h =
            let wide : Q.x < 2 ^ A.n = unfold product in (rw e fitting.xs) in
            let at = turned_round Q.x 0 wide (pow_pos A.n) in
            let entry : BA Q.x 0 ≡ ipow 𝓡 Q.k = sym at ∙ first_column Q fitting in
            let plus : AB Q.x 0 ≡ BA Q.x 0
            = exchange Q.x 0 wide (pow_pos A.n) ∙ unfold multiple in (ap (λ (q : Amplitude R). q *ᶜ BA Q.x 0) (sign_even (complex 𝓡) (anti A B) even) ∙ one_mul (complex 𝓡) (BA Q.x 0)) in
            sym entry ∙ sym plus ∙ h Q.x 0 wide (pow_pos A.n) ∙ ap (◌*ᶜ◌ (-ᶜ one)) entry ∙ minus (ipow 𝓡 Q.k)
          where
            minus : (q : Amplitude R) → (-ᶜ one) *ᶜ q ≡ -ᶜ q
            minus q = simp ring

  -- ---- Hermitian Paulis

  pub square_is_book : (P : Pauli) → Fitting P → hermitian P ≡ true → (a b : ℕ) → a < 2 ^ P.n → b < 2 ^ P.n
      → joined 𝓡 (2 ^ P.n) (pauli 𝓡 P) (pauli 𝓡 P) a b ≡ identity 𝓡 a b
  square_is_book P f even a b ha hb =
      sym (product_is_book 𝓡 P P refl f f a b ha hb)
      ∙ ap (λ (Q : Pauli). pauli 𝓡 Q a b) ((hermitian_square P).0 even)
      ∙ identity_is_book P.n a b ha hb

  -- Where 1 + 1 is not 0, only a Hermitian Pauli is its own adjoint.
  pub adjoint_hermitian : (P : Pauli) → Fitting P → (𝓡.add 𝓡.one 𝓡.one ≡ 𝓡.zero → ⊥)
      → ((a b : ℕ) → a < 2 ^ P.n → b < 2 ^ P.n → adjoint 𝓡 (pauli 𝓡 P) a b ≡ pauli 𝓡 P a b) → hermitian P ≡ true
  unfolding adjoint
  adjoint_hermitian P f two h =
      ⊎_elim (λ (even : (P.k + o) % 2 ≡ 0). parity_hermitian P (omega (arith, overlap_lt P.x P.z)))
      (λ (odd : (P.k + o) % 2 ≡ 1). absurd (two (own_negative P.k (same odd)))) (parity (P.k + o))
    where
      o : ℕ
      o = overlap P.x P.z

      regroup : (s k g : Amplitude R) → s *ᶜ k *ᶜ g ≡ s *ᶜ g *ᶜ k
      regroup s k g = simp ring

      minus : (q : Amplitude R) → (-ᶜ one) *ᶜ q ≡ -ᶜ q
      minus q = simp ring

      same : (P.k + o) % 2 ≡ 1 → ipow 𝓡 P.k ≡ -ᶜ ipow 𝓡 P.k
      same odd =
          sym (first_column P f) ∙ sym (h P.x 0 f.xs (pow_pos P.n)) ∙ ap (conj 𝓡) (first_row P f)
          ∙ conj_mul 𝓡 (ipow 𝓡 P.k) (sgn 𝓡 o) ∙ ap₂ ◌*ᶜ◌ (conj_pow 𝓡 P.k) (conj_sign 𝓡 o)
          ∙ regroup (sgn 𝓡 P.k) (ipow 𝓡 P.k) (sgn 𝓡 o)
          ∙ ap (λ (q : Amplitude R). q *ᶜ ipow 𝓡 P.k) (sym (sign_add (complex 𝓡) P.k o) ∙ sign_odd (complex 𝓡) (P.k + o) odd)
          ∙ minus (ipow 𝓡 P.k)
