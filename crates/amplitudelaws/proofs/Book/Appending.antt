-- Over any commutative ring the formula of promotion is the matrix that appends a qubit.
use Rattle.std.specs.Prelude.{◌≡◌}
use Rattle.std.proofs.Math.Path.{sym, ap}
use Rattle.std.proofs.Common.{◌∙◌}
use Rattle.std.proofs.Math.Logic.{⊎_elim}
use Prim.Native.Nat.{ℕ, suc, ◌+◌, ◌-◌, ◌*◌, ◌^◌, ◌≤◌, ◌<◌}
use Rattle.std.proofs.Math.Nat.{pow-suc, div-eq_of_lt, mod-eq_of_lt}
use native.Mathlib.Omega.{arith}
use Rattle.std.proofs.Math.Arith.{digits_div, digits_mod}
use Rattle.bitlaws.specs.Order.{le_or_lt}
use Rattle.amplitudelaws.specs.Arithmetic.{Amplitude}
use Rattle.amplitudelaws.specs.Promotion.{promoted, promoted_low}
use Rattle.amplitudelaws.proofs.Promotion.{promoted_high}
use Rattle.amplitudelaws.specs.Book.Ring.{Ring}
use Rattle.amplitudelaws.specs.Book.Complex.{exact, complex}
use Rattle.amplitudelaws.specs.Book.Sum.{sum_same}
use Rattle.amplitudelaws.specs.Book.Matrix.{identity, multiple, tensor, applied, applied_multiple, applied_identity}
use Rattle.amplitudelaws.specs.Book.Operators.{qubit, appending}
use Rattle.amplitudelaws.proofs.Book.Parts.{scale_is, raised_is}

module _ {R : Type 0} (𝓡 : Ring R) where
  open complex 𝓡 use {mul as ◌*ᶜ◌}

  infixl 70 ◌*ᶜ◌
  -- row t 2^n + r is row r of the identity, times number t of the qubit
  entry : (n : ℕ) (c q : R) (t r b : ℕ) → r < 2 ^ n → b < 2 ^ n → appending 𝓡 n c q (t * 2 ^ n + r) b ≡ multiple 𝓡 (qubit 𝓡 c q t 0) (identity 𝓡) r b
  unfolding appending tensor multiple complex
  entry n c q t r b l m = rw (digits_div t l, digits_mod t l, div-eq_of_lt m, mod-eq_of_lt m)

  row : (n : ℕ) (c q : R) (F : ℕ → Amplitude R) (t r : ℕ) → r < 2 ^ n → applied 𝓡 (2 ^ n) (appending 𝓡 n c q) F (t * 2 ^ n + r) ≡ qubit 𝓡 c q t 0 *ᶜ F r
  unfolding applied
  row n c q F t r l =
      let u : Amplitude R = qubit 𝓡 c q t 0 in
      sum_same (complex 𝓡) (2 ^ n) (λ b. appending 𝓡 n c q (t * 2 ^ n + r) b *ᶜ F b) (λ b. multiple 𝓡 u (identity 𝓡) r b *ᶜ F b)
      (λ b m. ap (λ (a : Amplitude R). a *ᶜ F b) (entry n c q t r b l m))
      ∙ applied_multiple 𝓡 (2 ^ n) u (identity 𝓡) F r ∙ ap (◌*ᶜ◌ u) (applied_identity 𝓡 (2 ^ n) F r l)

module _ {R : Type 0} (𝓡 : Ring R) (h : R) where
  pub promoted_appends : (n : ℕ) (c q : R) (F : ℕ → Amplitude R) (b : ℕ) → b < 2 ^ suc n
      → promoted (exact 𝓡 h) n c q F b ≡ applied 𝓡 (2 ^ n) (appending 𝓡 n c q) F b
  unfolding qubit
  promoted_appends n c q F b l = ⊎_elim
      (λ (g : 2 ^ n ≤ b).
      let r : ℕ = b - 2 ^ n in
      let same : 2 ^ n + r ≡ b = omega arith in
      let digits : 1 * 2 ^ n + r ≡ b = omega arith in
      ap (promoted (exact 𝓡 h) n c q F) (sym same) ∙ promoted_high (exact 𝓡 h) n c q F r ∙ raised_is 𝓡 h q (F r)
      ∙ sym (row 𝓡 n c q F 1 r (omega (arith, pow-suc 2 n))) ∙ ap (applied 𝓡 (2 ^ n) (appending 𝓡 n c q) F) digits)
      (λ (g : b < 2 ^ n).
      let digits : 0 * 2 ^ n + b ≡ b = omega arith in
      promoted_low (exact 𝓡 h) n c q F b g ∙ scale_is 𝓡 h c (F b) ∙ sym (row 𝓡 n c q F 0 b g) ∙ ap (applied 𝓡 (2 ^ n) (appending 𝓡 n c q) F) digits)
      (le_or_lt (2 ^ n) b)
