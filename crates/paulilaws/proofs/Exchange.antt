-- Phases in a product: raising a factor's raises the product's, and exchanging two factors costs -1 where they anticommute.
use Rattle.std.specs.Prelude.{◌≡◌, true, ℕ, ◌+◌, ◌*◌, ◌%◌}
use Rattle.std.proofs.Math.Path.{refl}
use Rattle.std.proofs.Common.{sym, ap, ap₂, ◌∙◌}
use native.Mathlib.Omega.{arith}
use Rattle.bitlaws.specs.Parity.{overlap, overlap_comm}
use Rattle.bitlaws.proofs.Parity.{overlap_xor_l}
use Rattle.bitlaws.specs.Xor.{xor_comm}
use Rattle.paulilaws.specs.Pauli.{Pauli, product, anti, hermitian, identity, same}
use Rattle.paulilaws.proofs.Algebra.{identity_product, product_identity, product_assoc, hermitian_square}
use Rattle.paulilaws.specs.Frame.{raised}

-- ---- a raised phase

module _ (e : ℕ) (A B : Pauli) where
  pub raised_left : product (raised e A) B ≡ raised e (product A B)
  unfolding product raised
  raised_left = same refl (phase A.k B.k (overlap A.z B.x)) refl refl
    where
      phase : (a b o : ℕ) → ((a + e) % 4 + b + 2 * o) % 4 ≡ ((a + b + 2 * o) % 4 + e) % 4
      phase a b o = omega arith

  pub raised_right : product A (raised e B) ≡ raised e (product A B)
  unfolding product raised
  raised_right = same refl (phase A.k B.k (overlap A.z B.x)) refl refl
    where
      phase : (a b o : ℕ) → (a + (b + e) % 4 + 2 * o) % 4 ≡ ((a + b + 2 * o) % 4 + e) % 4
      phase a b o = omega arith

-- raised by e and then by d, f in all
pub raised_again : (d e f : ℕ) (P : Pauli) → (d + e) % 4 ≡ f % 4 → raised d (raised e P) ≡ raised f P
unfolding raised
raised_again d e f P h = same refl (phase P.k f h) refl refl
  where
    phase : (k f : ℕ) → (d + e) % 4 ≡ f % 4 → ((k + e) % 4 + d) % 4 ≡ (k + f) % 4
    phase k f h = omega arith

-- by whole turns; a product's phase is in 0..3
pub raised_whole : (e : ℕ) (A B : Pauli) → e % 4 ≡ 0 → raised e (product A B) ≡ product A B
unfolding raised product
raised_whole e A B h = same refl (phase (A.k + B.k + 2 * overlap A.z B.x)) refl refl
  where
    phase : (a : ℕ) → (a % 4 + e) % 4 ≡ a % 4
    phase a = omega arith

-- ---- an exchange

-- a product anticommutes with P where one of its factors does and the other does not
pub anti_product : (A B P : Pauli) → anti (product A B) P ≡ (anti A P + anti B P) % 2
unfolding anti product
anti_product A B P =
    ap₂ (λ (u v : ℕ). (u + v) % 2) (overlap_xor_l A.x B.x P.z) (overlap_xor_l A.z B.z P.x)
    ∙ sums (overlap A.x P.z) (overlap B.x P.z) (overlap A.z P.x) (overlap B.z P.x)
  where
    two : (u v : ℕ) → (u % 2 + v % 2) % 2 ≡ (u + v) % 2
    two u v = omega arith

    sums : (a b c d : ℕ) → ((a + b) % 2 + (c + d) % 2) % 2 ≡ ((a + c) % 2 + (b + d) % 2) % 2
    sums a b c d = two (a + b) (c + d) ∙ ap (λ (n : ℕ). n % 2) (omega arith) ∙ sym (two (a + c) (b + d))

pub anti_comm : (A B : Pauli) → anti A B ≡ anti B A
unfolding anti
anti_comm A B = rw (overlap_comm B.x A.z, overlap_comm B.z A.x) (omega arith)

-- A B = (-1)^anti B A
pub exchanged : (A B : Pauli) → A.n ≡ B.n → product A B ≡ raised (2 * anti A B) (product B A)
unfolding raised product anti
exchanged A B width =
    same width (rw (overlap_comm B.z A.x) (phase A.k B.k (overlap A.x B.z) (overlap A.z B.x))) (xor_comm A.x B.x) (xor_comm A.z B.z)
  where
    phase : (a b s t : ℕ) → (a + b + 2 * t) % 4 ≡ ((b + a + 2 * s) % 4 + 2 * ((s + t) % 2)) % 4
    phase a b s t = omega arith

-- behind a third, which gives the product its width
pub exchanged_behind : (C A B : Pauli) → product (product C A) B ≡ raised (2 * anti B A) (product (product C B) A)
exchanged_behind C A B = product_assoc C A B ∙ behind ∙ ap₂ (λ (a : ℕ) (P : Pauli). raised (2 * a) P) (anti_comm A B) (sym (product_assoc C B A))
  where
    -- A as if it had B's width
    A' : Pauli
    A' = record { n = B.n; k = A.k; x = A.x; z = A.z }

    behind : product C (product A B) ≡ raised (2 * anti A B) (product C (product B A))
    behind = unfold product anti in (ap (product C) (exchanged A' B refl) ∙ raised_right (2 * anti A' B) C (product B A'))

-- ---- a square

-- a Hermitian Pauli twice, behind a product
pub squared_behind : (A B M : Pauli) → hermitian M ≡ true → product (product (product A B) M) M ≡ product A B
squared_behind A B M real = product_assoc (product A B) M M ∙ ap (product (product A B)) ((hermitian_square M).0 real) ∙ none
  where
    none : product (product A B) (identity M.n) ≡ product A B
    none = unfold product in product_identity (product A B) (omega arith)

-- and before one
pub squared_before : (P A B : Pauli) → hermitian P ≡ true → P.n ≡ A.n → product P (product P (product A B)) ≡ product A B
squared_before P A B real width =
    sym (product_assoc P P (product A B)) ∙ ap (λ (S : Pauli). product S (product A B)) ((hermitian_square P).0 real ∙ ap identity width) ∙ none
  where
    none : product (identity A.n) (product A B) ≡ product A B
    none = unfold product in identity_product (product A B) (omega arith)
