-- Two Paulis go past a projection, B and then A, or their product at once: behind it the product is the same. What B leaves of the branch is what A finds there.
use Rattle.std.specs.Prelude.{◌≡◌, Bool, cond, ℕ, ◌+◌, ◌*◌, ◌%◌, eqb}
use Rattle.std.proofs.Math.Path.{refl, sym, ap, ap₂}
use Rattle.std.proofs.Common.{◌∙◌, zero-mul, mul-zero, eqb-true}
use Rattle.std.proofs.Math.Bool.{true, false}
use native.Mathlib.Omega.{arith}
use Rattle.std.specs.Int.Bits.{bit_xor}
use Rattle.std.specs.Float.Ieee.{unlike}
use Rattle.bitlaws.specs.Digit.{digit, digit_lt, not_one}
use Rattle.bitlaws.specs.Bitwise.{digit_xor}
use Rattle.bitlaws.specs.Parity.{digits_differ}
use Rattle.paulilaws.specs.Pauli.{Pauli, product, anti, hermitian}
use Rattle.paulilaws.proofs.Algebra.{product_assoc}
use Rattle.paulilaws.proofs.Exchange.{raised_left, raised_right, raised_again, raised_whole, anti_product, exchanged_behind, squared_behind}
use Rattle.paulilaws.specs.Frame.{raised, dropped}
use Rattle.paulilaws.proofs.Frame.{dropped_product}
use Rattle.amplitudelaws.specs.Acting.{Measurable}
use Rattle.amplitudelaws.specs.Rows.{pivot_mask}
use Rattle.framelaws.specs.Carrying.{flipped, deciding, meets, absorbed}

-- ---- signs and branches

-- flipped by B and then by A is flipped by the product
pub flipped_product : (B A P : Pauli) (flag : ℕ) → flipped A P (flipped B P flag) ≡ flipped (product B A) P flag
unfolding flipped
flipped_product B A P flag = rw (anti_product B A P) (sums flag (anti B P) (anti A P))
  where
    sums : (f b a : ℕ) → ((f + b) % 2 + a) % 2 ≡ (f + (b + a) % 2) % 2
    sums f b a = omega arith

-- ---- what is absorbed

-- v is the branch that B leaves, w the one that A leaves behind B; t and u say which of the two absorb M. Where both do it is M twice, which is 1.
module _ (M : Pauli) (v w : ℕ) (B A : Pauli) (real : hermitian M ≡ true) (branch : w ≡ (v + anti A M) % 2) where
  abbrev a : ℕ
  a = 2 * anti A M

  absorbed_product : (t u : Bool) → product (absorbed t M v B) (absorbed u M w A) ≡ absorbed (unlike t u) M w (product B A)
  unfolding absorbed
  absorbed_product false false = refl
  absorbed_product false true = raised_right (2 * w) B (product A M) ∙ ap (raised (2 * w)) (sym (product_assoc B A M))
  absorbed_product true false =
      raised_left (2 * v) (product B M) A
      ∙ ap (raised (2 * v)) (exchanged_behind B M A)
      ∙ raised_again (2 * v) a (2 * w) (product (product B A) M) (one v (anti A M) w branch)
    where
      one : (v a w : ℕ) → w ≡ (v + a) % 2 → (2 * v + 2 * a) % 4 ≡ 2 * w % 4
      one v a w h = omega arith
  absorbed_product true true =
      raised_left (2 * v) (product B M) (raised (2 * w) (product A M))
      ∙ ap (raised (2 * v)) (raised_right (2 * w) (product B M) (product A M) ∙ ap (raised (2 * w)) square ∙ raised_again (2 * w) a (2 * w + a) (product B A) refl)
      ∙ raised_again (2 * v) (2 * w + a) 0 (product B A) (none v (anti A M) w branch)
      ∙ raised_whole 0 B A refl
    where
      square : product (product B M) (product A M) ≡ raised a (product B A)
      square =
          sym (product_assoc (product B M) A M)
          ∙ ap (λ (P : Pauli). product P M) (exchanged_behind B M A)
          ∙ raised_left a (product (product B A) M) M
          ∙ ap (raised a) (squared_behind B A M real)

      none : (v a w : ℕ) → w ≡ (v + a) % 2 → (2 * v + (2 * w + 2 * a)) % 4 ≡ 0
      none v a w h = omega arith

-- the product has the deciding part at the pivot where one of the two has it and the other has not
meets_product : (M : Pauli) (p : ℕ) (B A : Pauli) → meets M p (product B A) ≡ unlike (meets M p B) (meets M p A)
unfolding meets product deciding
meets_product M p B A = by (eqb M.x 0)
  where
    digits : (a b : ℕ) → eqb (digit p (bit_xor a b)) 1 ≡ unlike (eqb (digit p a) 1) (eqb (digit p b) 1)
    digits a b = rw (digit_xor p a b) (digits_differ (digit p a) (digit p b) (digit_lt p a) (digit_lt p b))

    by : (t : Bool) → eqb (digit p (deciding t (product B A))) 1 ≡ unlike (eqb (digit p (deciding t B)) 1) (eqb (digit p (deciding t A)) 1)
    by true = digits B.z A.z
    by false = digits B.x A.x

-- ---- the pivot's qubit, dropped

-- the deciding part is gone from the pivot: absorbed, or never there
absorbed_clear : (M : Pauli) (p v : ℕ) (Q : Pauli) (t : Bool) → digit p (cond t M.z M.x) ≡ 1 → (u : Bool) → eqb (digit p (deciding t Q)) 1 ≡ u
    → digit p (deciding t (absorbed u M v Q)) ≡ 0
unfolding deciding absorbed raised product
absorbed_clear M p v Q true set true e = omega (arith, digit_xor p Q.z M.z, set, eqb-true (digit p Q.z) 1 e)
absorbed_clear M p v Q true set false e = not_one (digit p Q.z) (digit_lt p Q.z) e
absorbed_clear M p v Q false set true e = omega (arith, digit_xor p Q.x M.x, set, eqb-true (digit p Q.x) 1 e)
absorbed_clear M p v Q false set false e = not_one (digit p Q.x) (digit_lt p Q.x) e

-- so that of the first's Z part and the second's X part one is not there: t says that M has no X part, and the Z parts decide
none_there : (M : Pauli) (p v w : ℕ) (B A : Pauli) → digit p (pivot_mask M) ≡ 1 → (t : Bool) → eqb M.x 0 ≡ t
    → digit p (absorbed (meets M p B) M v B).z * digit p (absorbed (meets M p A) M w A).x ≡ 0
unfolding pivot_mask meets deciding
none_there M p v w B A has true is =
    let set : digit p (cond true M.z M.x) ≡ 1 = rw is at has in
    rw (is, absorbed_clear M p v B true set (eqb (digit p B.z) 1) refl) (zero-mul _)
none_there M p v w B A has false is =
    let set : digit p (cond false M.z M.x) ≡ 1 = rw is at has in
    rw (is, absorbed_clear M p w A false set (eqb (digit p A.x) 1) refl) (mul-zero _)

-- Nothing is asked of B and A.
pub merged_past_projection : (M : Pauli) (p v : ℕ) (B A : Pauli) → Measurable M p
    → product (dropped p (absorbed (meets M p B) M (flipped B M v) B)) (dropped p (absorbed (meets M p A) M (flipped A M (flipped B M v)) A))
    ≡ dropped p (absorbed (meets M p (product B A)) M (flipped (product B A) M v) (product B A))
merged_past_projection M p v B A ok =
    let first : ℕ = flipped B M v in
    let second : ℕ = flipped A M first in
    dropped_product p (absorbed (meets M p B) M first B) (absorbed (meets M p A) M second A) (none_there M p first second B A ok.has (eqb M.x 0) refl)
    ∙ ap (dropped p) (absorbed_product M first second B A ok.real (unfold flipped in refl) (meets M p B) (meets M p A))
    ∙ ap₂ (λ (t : Bool) (w : ℕ). dropped p (absorbed t M w (product B A))) (sym (meets_product M p B A)) (flipped_product B A M v)
