-- The algebra of Paulis: the identity is neutral, the product associates, and a Pauli is Hermitian exactly when its square is the identity.
use Rattle.std.specs.Prelude.{◌≡◌, refl, Bool, true, false, cond, ◌↔◌, ℕ, zero, suc, ◌+◌, ◌*◌, ◌/◌, ◌%◌, ◌<◌, eqb}
use Rattle.std.proofs.Common.{sym, ap, ◌∙◌, mod-lt, zero-lt-suc, arith, eqb-true, eq-eqb}
use Rattle.std.proofs.Math.Arith.{mod-mul}
use Rattle.std.specs.Int.Bits.{xor_zero_l, xor_zero_r}
use Rattle.std.proofs.lemmas.Nat.{and_comm}
use Rattle.std.specs.Int.Count.{ones}
use Rattle.std.proofs.lemmas.Bool.{eqb-false}
use Rattle.bitlaws.specs.Xor.{xor_assoc, xor_self}
use Rattle.bitlaws.specs.Parity.{parity, overlap}
use Rattle.bitlaws.proofs.Parity.{overlap_xor_l, overlap_xor_r, overlap_zero_l, overlap_zero_r}
use Rattle.paulilaws.specs.Pauli.{Pauli, identity, product, ys, coefficient, hermitian, sign, same}
use Rattle.paulilaws.specs.Action.{half_turns_within}

-- ---- the identity, on either side, for a phase in 0..3

pub identity_product : (P : Pauli) → P.k < 4 → product (identity P.n) P ≡ P
unfolding product
identity_product P h =
    let phase : (0 + P.k + 2 * overlap 0 P.x) % 4 ≡ P.k = omega (arith, overlap_zero_l P.x) in
    same refl phase (xor_zero_l P.x) (xor_zero_l P.z)

pub product_identity : (P : Pauli) → P.k < 4 → product P (identity P.n) ≡ P
unfolding product
product_identity P h =
    let phase : (P.k + 0 + 2 * overlap P.z 0) % 4 ≡ P.k = omega (arith, overlap_zero_r P.z) in
    same refl phase (xor_zero_r P.x) (xor_zero_r P.z)

-- ---- three Paulis: p, q and r are the overlaps of A with B, B with C, A with C

phases : (a b c p q r : ℕ) → ((a + b + 2 * p) % 4 + c + 2 * ((r + q) % 2)) % 4 ≡ (a + (b + c + 2 * q) % 4 + 2 * ((p + r) % 2)) % 4
phases a b c p q r =
    let first : a + (b + c + 2 * q) % 4 ≡ (b + c + 2 * q) % 4 + a = omega arith in
    let regroup : a + b + 2 * p + c + 2 * (r + q) ≡ b + c + 2 * q + a + 2 * (p + r) = omega arith in
    half_turns_within (a + b + 2 * p) c (r + q)
    ∙ ap (λ (m : ℕ). m % 4) regroup
    ∙ sym (ap (λ (m : ℕ). (m + 2 * ((p + r) % 2)) % 4) first ∙ half_turns_within (b + c + 2 * q) a (p + r))

pub product_assoc : (A B C : Pauli) → product (product A B) C ≡ product A (product B C)
unfolding product
product_assoc A B C =
    same refl
    (ap (λ (m : ℕ). ((A.k + B.k + 2 * overlap A.z B.x) % 4 + C.k + 2 * m) % 4) (overlap_xor_l A.z B.z C.x)
    ∙ phases A.k B.k C.k (overlap A.z B.x) (overlap B.z C.x) (overlap A.z C.x)
    ∙ ap (λ (m : ℕ). (A.k + (B.k + C.k + 2 * overlap B.z C.x) % 4 + 2 * m) % 4) (sym (overlap_xor_r A.z B.x C.x)))
    (xor_assoc A.x B.x C.x)
    (xor_assoc A.z B.z C.z)

-- ---- Hermitian

even_square : (k y : ℕ) → (k + 3 * y) % 4 % 2 ≡ 0 → (k + k + 2 * (y % 2)) % 4 ≡ 0
even_square k y h = omega arith

square_even : (k y : ℕ) → (k + k + 2 * (y % 2)) % 4 ≡ 0 → (k + 3 * y) % 4 % 2 ≡ 0
square_even k y h = four_two (k + 3 * y) ∙ odd_times k y ∙ halved (k + y % 2) (ap (λ (m : ℕ). m % 4) (twice k (y % 2)) ∙ h)
  where
    four_two : (a : ℕ) → a % 4 % 2 ≡ a % 2
    four_two a = omega arith

    odd_times : (k y : ℕ) → (k + 3 * y) % 2 ≡ (k + y % 2) % 2
    odd_times k y = omega arith

    twice : (k d : ℕ) → 2 * (k + d) ≡ k + k + 2 * d
    twice k d = omega arith

    halved : (a : ℕ) → 2 * a % 4 ≡ 0 → a % 2 ≡ 0
    halved a h =
        let back : 2 * a / 2 ≡ a = omega arith in
        omega (arith, mod-mul (2 * a) {m = 2} {c = 2} (zero-lt-suc 1) (zero-lt-suc 1), ap (λ (m : ℕ). m % 2) back)

own_overlap : (P : Pauli) → overlap P.z P.x ≡ ys P % 2
unfolding overlap parity ys
own_overlap P = ap (λ (m : ℕ). ones m % 2) (and_comm P.z P.x)

pub hermitian_square : (P : Pauli) → (hermitian P ≡ true) ↔ (product P P ≡ identity P.n)
unfolding hermitian coefficient product
hermitian_square P = (
  λ h. same refl
      (ap (λ (m : ℕ). (P.k + P.k + 2 * m) % 4) (own_overlap P) ∙ even_square P.k (ys P) (eqb-true ((P.k + 3 * ys P) % 4 % 2) 0 h))
      (xor_self P.x)
      (xor_self P.z),
  λ e. eq-eqb ((P.k + 3 * ys P) % 4 % 2) 0
      (square_even P.k (ys P) (sym (ap (λ (m : ℕ). (P.k + P.k + 2 * m) % 4) (own_overlap P)) ∙ ap (λ (Q : Pauli). Q.k) e)),
)

-- a Hermitian Pauli's phase has the parity of its Ys
pub hermitian_parity : (P : Pauli) → hermitian P ≡ true → P.k % 2 ≡ overlap P.x P.z
unfolding hermitian coefficient ys overlap parity
hermitian_parity P e = even P.k (ys P) (eqb-true ((P.k + 3 * ys P) % 4 % 2) 0 e)
  where
    even : (k y : ℕ) → (k + 3 * y) % 4 % 2 ≡ 0 → k % 2 ≡ y % 2
    even k y e = omega arith

-- and only a Hermitian one's has
pub parity_hermitian : (P : Pauli) → P.k % 2 ≡ overlap P.x P.z → hermitian P ≡ true
unfolding hermitian coefficient ys overlap parity
parity_hermitian P e = eq-eqb ((P.k + 3 * ys P) % 4 % 2) 0 (even P.k (ys P) e)
  where
    even : (k y : ℕ) → k % 2 ≡ y % 2 → (k + 3 * y) % 4 % 2 ≡ 0
    even k y e = omega arith

-- what stands in front of a Hermitian Pauli's letters is i^0 or i^2, by its measurement sign
pub sign_coefficient : (P : Pauli) → hermitian P ≡ true → coefficient P ≡ 2 * sign P
unfolding hermitian sign
sign_coefficient P e = go (eqb (coefficient P) 2) refl
  where
    small : coefficient P < 4
    small = unfold coefficient in (mod-lt (P.k + 3 * ys P) (zero-lt-suc 3))

    go : (t : Bool) → eqb (coefficient P) 2 ≡ t → coefficient P ≡ 2 * cond t 1 0
    go true q = eqb-true (coefficient P) 2 q
    go false q = none (coefficient P) small (eqb-true (coefficient P % 2) 0 e) (eqb-false (coefficient P) 2 q)
      where
        none : (c : ℕ) → c < 4 → c % 2 ≡ 0 → (c ≡ 2 → ⊥) → c ≡ 0
        none zero l e ne = refl
        none (suc zero) l e ne = absurd (omega arith)
        none (suc (suc zero)) l e ne = absurd (ne refl)
        none (suc (suc (suc zero))) l e ne = absurd (omega arith)
        none (suc (suc (suc (suc c)))) l e ne = absurd (omega arith)

-- A Hermitian Pauli is its letters, Y being i X Z, after its measurement sign: k is the number of Ys and twice the sign.
pub sign_phase : (P : Pauli) → P.k < 4 → hermitian P ≡ true → P.k ≡ (ys P + 2 * sign P) % 4
unfolding hermitian sign coefficient
sign_phase P h e = go ((P.k + 3 * ys P) % 4) refl (eqb-true ((P.k + 3 * ys P) % 4 % 2) 0 e)
  where
    plus : (k y : ℕ) → k < 4 → (k + 3 * y) % 4 ≡ 0 → k ≡ (y + 2 * 0) % 4
    plus k y h e = omega arith

    minus : (k y : ℕ) → k < 4 → (k + 3 * y) % 4 ≡ 2 → k ≡ (y + 2 * 1) % 4
    minus k y h e = omega arith

    small : (c a : ℕ) → a % 4 ≡ suc (suc (suc (suc c))) → ⊥
    small c a e = omega arith

    go : (c : ℕ) → (P.k + 3 * ys P) % 4 ≡ c → (P.k + 3 * ys P) % 4 % 2 ≡ 0 → P.k ≡ (ys P + 2 * cond (eqb ((P.k + 3 * ys P) % 4) 2) 1 0) % 4
    go zero q even = rw q (plus P.k (ys P) h q)
    go (suc zero) q even = absurd (omega arith)
    go (suc (suc zero)) q even = rw q (minus P.k (ys P) h q)
    go (suc (suc (suc zero))) q even = absurd (omega arith)
    go (suc (suc (suc (suc c)))) q even = absurd (small c (P.k + 3 * ys P) q)

-- the sign as a test of the coefficient
pub sign_test : (P : Pauli) → eqb (sign P) 1 ≡ eqb (coefficient P) 2
unfolding sign
sign_test P = told (eqb (coefficient P) 2)
  where
    told : (b : Bool) → eqb (cond b 1 0) 1 ≡ b
    told true = refl
    told false = refl
