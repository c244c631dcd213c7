-- The bytes of a text, one by one.
use mathlib.Core.Path.{◌≡◌, refl, ap, ◌∙◌}
use mathlib.Core.Logic.{◌⊎◌, inl, inr}
use mathlib.Core.List.{[], ◌∷◌, ◌++◌}
use mathlib.Core.Option.{none}
use Prim.Native.Nat.{ℕ, zero, suc, ◌+◌, ◌<◌, max}
use native.Mathlib.Omega.{arith}
use borrow.Author.Tests.{ne_eqb}
use lib.ListN.{length, get_or, length-append}
use Rattle.paulilaws.specs.Pauli.{Pauli}
use Rattle.paulilaws.specs.Letter.{letter_at}
use Rattle.paulitext.specs.Laws.{letters_length, letters_at}
use Rattle.paulitext.specs.Text.{letter_of_byte, prefix, byte_of, body}

-- ---- reading: a byte that is none of the eleven

pub not_letter : (b : ℕ) → ((b ≡ 73) ⊎ ((b ≡ 95) ⊎ (b ≡ 105)) → ⊥) → ((b ≡ 88) ⊎ (b ≡ 120) → ⊥) → ((b ≡ 89) ⊎ (b ≡ 121) → ⊥) → ((b ≡ 90) ⊎ (b ≡ 122) → ⊥)
    → letter_of_byte b ≡ none
unfolding letter_of_byte
not_letter b i x y z =
    rw (
      ne_eqb b 73 (λ e. i (inl e)),
      ne_eqb b 105 (λ e. i (inr (inr e))),
      ne_eqb b 95 (λ e. i (inr (inl e))),
      ne_eqb b 88 (λ e. x (inl e)),
      ne_eqb b 120 (λ e. x (inr e)),
      ne_eqb b 89 (λ e. y (inl e)),
      ne_eqb b 121 (λ e. y (inr e)),
      ne_eqb b 90 (λ e. z (inl e)),
      ne_eqb b 122 (λ e. z (inr e)),
    )

-- ---- the coefficient

pub long_prefix : (c : ℕ) → (c ≡ 0 → ⊥) → (c ≡ 1 → ⊥) → (c ≡ 2 → ⊥) → prefix c ≡ 45 ∷ 105 ∷ 42 ∷ []
unfolding prefix
long_prefix zero a b d = absurd (a refl)
long_prefix (suc zero) a b d = absurd (b refl)
long_prefix (suc (suc zero)) a b d = absurd (d refl)
long_prefix (suc (suc (suc c))) a b d = refl

-- ---- the letters

pub body_length_lem : (n : ℕ) (P : Pauli) → length (body n P) ≡ max n 1
unfolding body
body_length_lem zero P = refl
body_length_lem (suc n) P = letters_length 0 (suc n) P ∙ omega arith

pub body_at : (n j : ℕ) (P : Pauli) → j < n → get_or (body n P) j 0 ≡ byte_of (letter_at j P)
unfolding body
body_at zero j P h = absurd (omega arith)
body_at (suc n) j P h = letters_at 0 (suc n) j P h ∙ ap (λ (m : ℕ). byte_of (letter_at m P)) (native.Mathlib.Nat.zero-add j)

-- ---- the whole text

pub text_length_lem : (c n : ℕ) (P : Pauli) → length (prefix c ++ body n P) ≡ length (prefix c) + max n 1
text_length_lem c n P = length-append (prefix c) (body n P) ∙ ap (λ (m : ℕ). length (prefix c) + m) (body_length_lem n P)
