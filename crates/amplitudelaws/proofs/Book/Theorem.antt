-- Over any commutative ring with h h + h h = 1 the Paulis are the matrices of Nielsen and Chuang, the formulas of a step their operator, and those of a list of
-- steps the product of their operators.
use Rattle.std.specs.Prelude.{◌≡◌}
use Rattle.std.proofs.Math.Path.{sym}
use Rattle.std.proofs.Common.{◌∙◌}
use mathlib.Core.List.{List, [], ◌∷◌}
use Prim.Native.Nat.{ℕ, ◌^◌, ◌<◌}
use Rattle.amplitudelaws.specs.Arithmetic.{Amplitude}
use Rattle.amplitudelaws.specs.Step.{Step, width_after, last_width}
use Rattle.amplitudelaws.specs.Step.Step.{rotation, promotion, projection, correction, quarter_turn}
use Rattle.amplitudelaws.specs.Acting.{acts, acted, Proper, Propers}
use Rattle.amplitudelaws.specs.Book.Ring.{Ring}
use Rattle.amplitudelaws.specs.Book.Complex.{exact, real}
use Rattle.amplitudelaws.specs.Book.Matrix.{applied, applied_same, applied_identity, applied_joined}
use Rattle.amplitudelaws.specs.Book.Operators.{operator, operators}
use Rattle.amplitudelaws.proofs.Book.Spelled.{pauli_spelled, pauli_signed, pauli_set}
use Rattle.amplitudelaws.proofs.Book.Product.{product_is_book}
use Rattle.amplitudelaws.proofs.Book.Projector.{pauli_adjoint}
use Rattle.amplitudelaws.proofs.Book.Group.{identity_is_book, raised_is_book, acts_is_book, square_is_book, exchange, anticommuting, adjoint_hermitian}
use Rattle.amplitudelaws.proofs.Book.Turning.{corrected_is_book, rotated_is_book, turnings_add}
use Rattle.amplitudelaws.proofs.Book.Conjugation.{turning_flipped, turning_conjugated}
use Rattle.amplitudelaws.proofs.Book.Appending.{promoted_appends}
use Rattle.amplitudelaws.proofs.Book.Stands.{standing_eigen}
use Rattle.amplitudelaws.proofs.Book.Eigenspace.{projected_is_book, orthonormal, complete}
use Rattle.amplitudelaws.proofs.Book.Length.{probability_is_book}
use Rattle.amplitudelaws.specs.Book.Theorem.{Book}

module _ {R : Type 0} (𝓡 : Ring R) (h : R) (half : 𝓡.add (𝓡.mul h h) (𝓡.mul h h) ≡ 𝓡.one) where
  step_is_book : (n : ℕ) (t : Step R) → Proper n t → (F : ℕ → Amplitude R) (b : ℕ) → b < 2 ^ width_after n t
      → acts (exact 𝓡 h) n t F b ≡ applied 𝓡 (2 ^ n) (operator 𝓡 h n t) F b
  unfolding width_after acts operator
  step_is_book n (rotation P e c s) (width, fitting, real) F b l = rw (← width) (rotated_is_book 𝓡 h P e c s F b fitting real (rw width l))
  step_is_book n (promotion c q) ok F b l = promoted_appends 𝓡 h n c q F b l
  step_is_book n (projection M p v invnorm) (width, ok) F b l = rw (← width) (projected_is_book 𝓡 h half M p v ok invnorm F b (rw width l))
  step_is_book n (correction P) (width, fitting) F b l = rw (← width) (corrected_is_book 𝓡 h P fitting F b (rw width l))
  step_is_book n (quarter_turn P) (width, fitting, real) F b l = rw (← width) (rotated_is_book 𝓡 h P 0 h h F b fitting real (rw width l))

  run_is_book : (n : ℕ) (ts : List (Step R)) → Propers n ts → (F : ℕ → Amplitude R) (b : ℕ) → b < 2 ^ last_width n ts
      → acted (exact 𝓡 h) n ts F b ≡ applied 𝓡 (2 ^ n) (operators 𝓡 h n ts) F b
  unfolding last_width acted operators
  run_is_book n [] ok F b l = sym (applied_identity 𝓡 (2 ^ n) F b l)
  run_is_book n (t ∷ ts) (ok, oks) F b l =
      let k : ℕ = width_after n t in
      let first : ℕ → Amplitude R = acts (exact 𝓡 h) n t F in
      run_is_book k ts oks first b l
      ∙ applied_same 𝓡 (2 ^ k) (operators 𝓡 h k ts) first (applied 𝓡 (2 ^ n) (operator 𝓡 h n t) F) (step_is_book n t ok F) b
      ∙ sym (applied_joined 𝓡 (2 ^ k) (2 ^ n) (operators 𝓡 h k ts) (operator 𝓡 h n t) F b)

  -- THE BOOK: over any commutative ring with h h + h h = 1
  pub book : Book 𝓡 h
  book = record {
    letters = pauli_spelled 𝓡;
    set = pauli_set 𝓡;
    identities = identity_is_book 𝓡;
    raises = raised_is_book 𝓡;
    products = product_is_book 𝓡;
    exchanges = exchange 𝓡;
    anticommuting = anticommuting 𝓡;
    squares = square_is_book 𝓡;
    hermitians = λ P fitting even. pauli_adjoint 𝓡 P even fitting;
    hermitian_only = adjoint_hermitian 𝓡;
    signs = pauli_signed 𝓡;
    kets = acts_is_book 𝓡;
    step = step_is_book;
    run = run_is_book;
    stands = standing_eigen 𝓡;
    orthonormal = λ M p v ok a b. orthonormal 𝓡 h half M p v ok a b;
    complete = λ M p v ok a b. complete 𝓡 h half M p v ok a b;
    probability = λ M p v ok F. probability_is_book 𝓡 h half M p ok v F;
    angles = λ P e c s c' s' fitting real F b l. turnings_add 𝓡 P e c s c' s' F b fitting real l;
    flips = turning_flipped 𝓡;
    conjugates = turning_conjugated 𝓡;
  }
