-- The highest qubit on which a Pauli is not the identity.
use Rattle.std.specs.Prelude.{◌≡◌, refl, ◌↔◌, ℕ, zero, suc, ◌<◌, max}
use Rattle.std.proofs.Common.{sym, ap₂, ◌∙◌, arith}
use Rattle.std.proofs.Math.Option.{none, some}
use Rattle.std.specs.Int.Bits.{bit_or}
use Rattle.bitlaws.specs.Digit.{digit, digit_lt}
use Rattle.bitlaws.specs.Bitwise.{digit_or}
use Rattle.bitlaws.specs.Highest.{Top}
use Rattle.bitlaws.proofs.Highest.{highest_some, highest_none, highest_top, none_set}
use Rattle.paulilaws.specs.Pauli.{Pauli}
use Rattle.paulilaws.specs.Letter.{letter_at, letter_of, I}
use Rattle.paulilaws.specs.Support.{max_support, TopLetter}

letter_clear : (q : ℕ) (P : Pauli) → digit q (bit_or P.x P.z) ≡ 0 → letter_at q P ≡ I
unfolding letter_at
letter_clear q P e =
    let both : max (digit q P.x) (digit q P.z) ≡ 0 = sym (digit_or q P.x P.z) ∙ e in
    let x : digit q P.x ≡ 0 = omega arith in
    let z : digit q P.z ≡ 0 = omega arith in
    ap₂ letter_of x z

clear_letter : (x z : ℕ) → letter_of x z ≡ I → max x z ≡ 0
clear_letter zero zero e = refl
clear_letter (suc x) zero e = absurd (let z : ◌≡◌ {A = ℕ} 0 1 = cc in omega arith)
clear_letter zero (suc z) e = absurd (let z : ◌≡◌ {A = ℕ} 0 1 = cc in omega arith)
clear_letter (suc x) (suc z) e = absurd (let z : ◌≡◌ {A = ℕ} 0 1 = cc in omega arith)

letter_set : (q : ℕ) (P : Pauli) → letter_at q P ≡ I → digit q (bit_or P.x P.z) ≡ 0
unfolding letter_at
letter_set q P e = digit_or q P.x P.z ∙ clear_letter (digit q P.x) (digit q P.z) e

pub support_some : (P : Pauli) (q : ℕ) → (max_support P ≡ some q) ↔ TopLetter P q
unfolding max_support
support_some P q = (
  λ e. let t : Top P.n (bit_or P.x P.z) q = highest_top P.n (bit_or P.x P.z) q e in
      record {
        inside = t.inside;
        letter = λ i. omega (arith, letter_set q P i, t.set);
        above = λ r l m. letter_clear r P (t.above r l m);
      },
  λ t. highest_some P.n (bit_or P.x P.z) q
      (record { inside = t.inside; set = lit t.letter; above = λ r l m. letter_set r P (t.above r l m) }),
)
  where
    lit : (letter_at q P ≡ I → ⊥) → digit q (bit_or P.x P.z) ≡ 1
    lit ne = one_of (digit q (bit_or P.x P.z)) (digit_lt q (bit_or P.x P.z)) (λ e. ne (letter_clear q P e))
      where
        one_of : (d : ℕ) → d < 2 → (d ≡ 0 → ⊥) → d ≡ 1
        one_of zero h f = absurd (f refl)
        one_of (suc zero) h f = refl
        one_of (suc (suc d)) h f = absurd (omega arith)

pub support_none : (P : Pauli) → (max_support P ≡ none) ↔ ((r : ℕ) → r < P.n → letter_at r P ≡ I)
unfolding max_support
support_none P = (
  λ e r h. letter_clear r P (none_set P.n (bit_or P.x P.z) e r h),
  λ h. highest_none P.n (bit_or P.x P.z) (λ r l. letter_set r P (h r l)),
)
