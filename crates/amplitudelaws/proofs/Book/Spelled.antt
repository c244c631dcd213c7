-- A Pauli by its letters: i to its coefficient times the tensor product of the matrices of I, X, Y and Z.
use Rattle.std.specs.Prelude.{◌≡◌, Bool}
use Rattle.std.proofs.Math.Path.{refl, sym, ap, ap₂}
use Rattle.std.proofs.Common.{◌∙◌, div-one, eqb-true}
use Rattle.std.proofs.Math.Bool.{true, false, cond}
use Prim.Native.Nat.{ℕ, zero, suc, ◌+◌, ◌*◌, ◌/◌, ◌%◌, ◌^◌, ◌<◌, min}
use native.Mathlib.Omega.{arith}
use Rattle.std.specs.Int.Bits.{bit_and, and_zero_l}
use Rattle.std.specs.Int.Count.{ones}
use Rattle.std.proofs.Math.Dec.{eqb}
use Rattle.std.proofs.lemmas.Bool.{eqb-false}
use Rattle.bitlaws.specs.Digit.{bit_of, digit, mod_two, digit_high}
use Rattle.bitlaws.specs.Parity.{ones_and, ones_zero}
use Rattle.paulilaws.specs.Pauli.{Pauli, ys, coefficient, hermitian, sign}
use Rattle.paulilaws.proofs.Algebra.{sign_coefficient}
use Rattle.paulilaws.specs.Letter.{Letter, letter_of, letter_at, with_letter, letter_set, letter_kept}
use Rattle.paulilaws.proofs.Letter.{coefficient_kept}
use Rattle.paulilaws.specs.Fitting.{Fitting, letter_fitting}
use Rattle.amplitudelaws.specs.Arithmetic.{Amplitude}
use Rattle.amplitudelaws.specs.Book.Ring.{Ring, ring}
use Rattle.amplitudelaws.specs.Book.Complex.{complex, i, pow, ipow, sgn}
use Rattle.amplitudelaws.specs.Book.Signs.{pow_add, pow_mod, pow_double}
use Rattle.amplitudelaws.specs.Book.Sum.{sum}
use Rattle.amplitudelaws.specs.Book.Matrix.{identity, multiple, joined, tensor}
use Rattle.amplitudelaws.specs.Book.Operators.{bit_flip, both_flip, phase_flip, letter_matrix, spelled, once, factor, factors, pauli}
use Rattle.amplitudelaws.proofs.Book.Factors.{as_bit_lem}

lowest : (a : ℕ) → digit 0 a ≡ a % 2
unfolding digit
lowest a = ap (λ (m : ℕ). m % 2) (div-one a)

module _ {R : Type 0} (𝓡 : Ring R) where
  open 𝓡 use {mul}

  regroup : (p q a b : R) → mul (mul p q) (mul a b) ≡ mul (mul q a) (mul p b)
  regroup p q a b = simp ring

module _ {R : Type 0} (𝓡 : Ring R) where
  open complex 𝓡 use {mul as ◌*ᶜ◌}

  infixl 70 ◌*ᶜ◌
  spelled_same : (n : ℕ) (l m : ℕ → Letter) → ((q : ℕ) → l q ≡ m q) → (a b : ℕ) → spelled 𝓡 n l a b ≡ spelled 𝓡 n m a b
  unfolding spelled tensor
  spelled_same zero l m e a b = refl
  spelled_same (suc n) l m e a b =
      ap₂ ◌*ᶜ◌ (spelled_same n (λ q. l (suc q)) (λ q. m (suc q)) (λ q. e (suc q)) (a / 2) (b / 2)) (ap (λ (t : Letter). letter_matrix 𝓡 t (a % 2) (b % 2)) (e 0))

  letter_bits : (x z a b : Bool) → letter_matrix 𝓡 (letter_of (bit_of x) (bit_of z)) (bit_of a) (bit_of b)
      ≡ ipow 𝓡 (min (bit_of x) (bit_of z)) *ᶜ factor 𝓡 (bit_of x) (bit_of z) (bit_of a) (bit_of b)
  unfolding letter_matrix both_flip factor joined sum once bit_flip phase_flip identity pow
  letter_bits false false false false = simp ring
  letter_bits false false false true = simp ring
  letter_bits false false true false = simp ring
  letter_bits false false true true = simp ring
  letter_bits false true false false = simp ring
  letter_bits false true false true = simp ring
  letter_bits false true true false = simp ring
  letter_bits false true true true = simp ring
  letter_bits true false false false = simp ring
  letter_bits true false false true = simp ring
  letter_bits true false true false = simp ring
  letter_bits true false true true = simp ring
  letter_bits true true false false = simp ring
  letter_bits true true false true = simp ring
  letter_bits true true true false = simp ring
  letter_bits true true true true = simp ring

  one_letter : (x z a b : ℕ) → x < 2 → z < 2 → a < 2 → b < 2 → letter_matrix 𝓡 (letter_of x z) a b ≡ ipow 𝓡 (min x z) *ᶜ factor 𝓡 x z a b
  one_letter x z a b p q r s = rw (as_bit_lem x p, as_bit_lem z q, as_bit_lem a r, as_bit_lem b s) (letter_bits (eqb x 1) (eqb z 1) (eqb a 1) (eqb b 1))

  -- each Y is i X Z
  spelled_letters : (n x z a b : ℕ) → x < 2 ^ n → z < 2 ^ n
      → spelled 𝓡 n (λ q. letter_of (digit q x) (digit q z)) a b ≡ ipow 𝓡 (ones (bit_and x z)) *ᶜ factors 𝓡 n x z a b
  unfolding spelled factors tensor
  spelled_letters zero x z a b hx hz =
      let x0 : x ≡ 0 = omega arith in
      let z0 : z ≡ 0 = omega arith in
      let none : ones (bit_and x z) ≡ 0 = ap₂ (λ (s t : ℕ). ones (bit_and s t)) x0 z0 ∙ ap ones (and_zero_l 0) ∙ ones_zero in
      sym (ap (λ (m : ℕ). ipow 𝓡 m *ᶜ identity 𝓡 a b) none ∙ unfold pow in ((complex 𝓡).one_mul (identity 𝓡 a b)))
  spelled_letters (suc n) x z a b hx hz =
      ap₂ ◌*ᶜ◌
      (spelled_same n (λ q. letter_of (digit (suc q) x) (digit (suc q) z)) (λ q. letter_of (digit q (x / 2)) (digit q (z / 2)))
      (λ q. ap₂ letter_of (up q x) (up q z)) (a / 2) (b / 2)
      ∙ spelled_letters n (x / 2) (z / 2) (a / 2) (b / 2) (omega arith) (omega arith))
      (ap₂ (λ (s t : ℕ). letter_matrix 𝓡 (letter_of s t) (a % 2) (b % 2)) (lowest x) (lowest z)
      ∙ one_letter (x % 2) (z % 2) (a % 2) (b % 2) (mod_two x) (mod_two z) (mod_two a) (mod_two b))
      ∙ gather
    where
      up : (q a : ℕ) → digit (suc q) a ≡ digit q (a / 2)
      up q a = let e : suc q ≡ 1 + q = omega arith in ap (λ (r : ℕ). digit r a) e ∙ digit_high 1 q a

      high : Amplitude R
      high = factors 𝓡 n (x / 2) (z / 2) (a / 2) (b / 2)

      low : Amplitude R
      low = factor 𝓡 (x % 2) (z % 2) (a % 2) (b % 2)

      y : ℕ
      y = ones (bit_and (x / 2) (z / 2))

      gather : ipow 𝓡 y *ᶜ high *ᶜ (ipow 𝓡 (min (x % 2) (z % 2)) *ᶜ low) ≡ ipow 𝓡 (ones (bit_and x z)) *ᶜ (high *ᶜ low)
      gather = sym (ap (λ (m : ℕ). ipow 𝓡 m *ᶜ (high *ᶜ low)) (ones_and x z)
          ∙ ap (λ (q : Amplitude R). q *ᶜ (high *ᶜ low)) (pow_add (complex 𝓡) (i 𝓡) (min (x % 2) (z % 2)) y)
          ∙ regroup (complex 𝓡) (ipow 𝓡 (min (x % 2) (z % 2))) (ipow 𝓡 y) high low)

  -- A Pauli is its letters, I, X, Y and Z, after i to its coefficient.
  pub pauli_spelled : (P : Pauli) → Fitting P → (a b : ℕ)
      → pauli 𝓡 P a b ≡ multiple 𝓡 (ipow 𝓡 (coefficient P)) (spelled 𝓡 P.n (λ q. letter_at q P)) a b
  unfolding pauli multiple coefficient ys letter_at
  pauli_spelled P f a b =
      let y : ℕ = ones (bit_and P.x P.z) in
      let c : ℕ = (P.k + 3 * y) % 4 in
      let l : Amplitude R = factors 𝓡 P.n P.x P.z a b in
      ap (λ (q : Amplitude R). q *ᶜ l) (pow_mod 𝓡 P.k (c + y) (turns P.k y) ∙ pow_add (complex 𝓡) (i 𝓡) c y)
      ∙ (complex 𝓡).mul_assoc (ipow 𝓡 c) (ipow 𝓡 y) l
      ∙ ap (λ (q : Amplitude R). ipow 𝓡 c *ᶜ q) (sym (spelled_letters P.n P.x P.z a b f.xs f.zs))
    where
      turns : (k y : ℕ) → k % 4 ≡ ((k + 3 * y) % 4 + y) % 4
      turns k y = omega arith

  -- A Hermitian one is its letters after its measurement sign.
  pub pauli_signed : (P : Pauli) → Fitting P → hermitian P ≡ true → (a b : ℕ)
      → pauli 𝓡 P a b ≡ multiple 𝓡 (sgn 𝓡 (sign P)) (spelled 𝓡 P.n (λ q. letter_at q P)) a b
  unfolding multiple
  pauli_signed P f even a b =
      unfold multiple in (pauli_spelled P f a b)
      ∙ ap (λ (q : Amplitude R). q *ᶜ spelled 𝓡 P.n (λ q. letter_at q P) a b) (ap (ipow 𝓡) (sign_coefficient P even) ∙ pow_double 𝓡 (sign P))

  -- A letter set stands in its place, after the same coefficient.
  pub pauli_set : (P : Pauli) → Fitting P → (q : ℕ) → q < P.n → (l : Letter) (a b : ℕ)
      → pauli 𝓡 (with_letter q l P) a b ≡ multiple 𝓡 (ipow 𝓡 (coefficient P)) (spelled 𝓡 P.n (λ r. cond (eqb r q) l (letter_at r P))) a b
  unfolding multiple
  pauli_set P f q h l a b =
      unfold multiple in (pauli_spelled (with_letter q l P) (letter_fitting q l P h f) a b)
      ∙ ap₂ ◌*ᶜ◌ (ap (ipow 𝓡) (coefficient_kept q l P))
      (unfold with_letter in (spelled_same P.n (λ r. letter_at r (with_letter q l P)) (λ r. cond (eqb r q) l (letter_at r P)) (λ r. set r (eqb r q) refl) a b))
    where
      set : (r : ℕ) (t : Bool) → eqb r q ≡ t → letter_at r (with_letter q l P) ≡ cond t l (letter_at r P)
      set r true e = ap (λ (m : ℕ). letter_at m (with_letter q l P)) (eqb-true r q e) ∙ letter_set q l P
      set r false e = letter_kept q r l P (eqb-false r q e)
