-- Matrices of complex numbers over a commutative ring, by row and column. A matrix has no size of its own: sums say how far they go.
use Rattle.std.specs.Prelude.{◌≡◌, Bool, ℕ, ◌/◌, ◌%◌, ◌<◌, eqb}
use Rattle.std.proofs.Math.Path.{refl, ap}
use Rattle.std.proofs.Common.{sym, ◌∙◌, eq-eqb, ne_eqb}
use Rattle.std.proofs.Math.Bool.{cond}
use Rattle.amplitudelaws.specs.Arithmetic.{Amplitude}
use Rattle.amplitudelaws.specs.Book.Ring.{Ring, right_distrib, zero_mul, mul_zero, one_mul, mul_one}
use Rattle.amplitudelaws.specs.Book.Complex.{complex, conj}
use Rattle.amplitudelaws.specs.Book.Sum.{sum, sum_one, sum_same, sum_mul, sum_add, sum_swap}

abbrev pub Matrix : Type 0 → Type 0
Matrix R = ℕ → ℕ → Amplitude R

module _ {R : Type 0} (𝓡 : Ring R) where
  open complex 𝓡 use {add as ◌+ᶜ◌, mul as ◌*ᶜ◌, zero as nought, one}

  infixl 60 ◌+ᶜ◌
  infixl 70 ◌*ᶜ◌
  unfoldable pub identity : Matrix R
  identity a b = cond (eqb a b) one nought

  -- |b>, a column of it
  abbrev pub ket : ℕ → ℕ → Amplitude R
  ket b a = identity a b

  unfoldable pub plus : Matrix R → Matrix R → Matrix R
  plus M N a b = M a b +ᶜ N a b

  -- a number times a matrix
  unfoldable pub multiple : Amplitude R → Matrix R → Matrix R
  multiple c M a b = c *ᶜ M a b

  -- a matrix of `size` columns times a vector
  unfoldable pub applied : ℕ → Matrix R → (ℕ → Amplitude R) → ℕ → Amplitude R
  applied size M F a = sum (complex 𝓡) size (λ b. M a b *ᶜ F b)

  -- a matrix of `size` columns times a matrix of `size` rows
  unfoldable pub joined : ℕ → Matrix R → Matrix R → Matrix R
  joined size M N a b = sum (complex 𝓡) size (λ c. M a c *ᶜ N c b)

  -- the conjugate transpose
  unfoldable pub adjoint : Matrix R → Matrix R
  adjoint M a b = conj 𝓡 (M b a)

  -- the tensor product of M and a matrix N of `size` rows and columns, whose indices are the lower digits
  unfoldable pub tensor : ℕ → Matrix R → Matrix R → Matrix R
  tensor size M N a b = M (a / size) (b / size) *ᶜ N (a % size) (b % size)

  pub applied_same : (size : ℕ) (M : Matrix R) (F G : ℕ → Amplitude R) → ((b : ℕ) → b < size → F b ≡ G b) → (a : ℕ)
      → applied size M F a ≡ applied size M G a
  unfolding applied
  applied_same size M F G h a = sum_same (complex 𝓡) size (λ b. M a b *ᶜ F b) (λ b. M a b *ᶜ G b) (λ b l. ap (◌*ᶜ◌ (M a b)) (h b l))

  pub applied_plus : (size : ℕ) (M N : Matrix R) (F : ℕ → Amplitude R) (a : ℕ) → applied size (plus M N) F a ≡ applied size M F a +ᶜ applied size N F a
  unfolding applied plus
  applied_plus size M N F a =
      sum_same (complex 𝓡) size (λ b. (M a b +ᶜ N a b) *ᶜ F b) (λ b. M a b *ᶜ F b +ᶜ N a b *ᶜ F b) (λ b l. right_distrib (complex 𝓡) (M a b) (N a b) (F b))
      ∙ sum_add (complex 𝓡) size (λ b. M a b *ᶜ F b) (λ b. N a b *ᶜ F b)

  pub applied_multiple : (size : ℕ) (c : Amplitude R) (M : Matrix R) (F : ℕ → Amplitude R) (a : ℕ) → applied size (multiple c M) F a ≡ c *ᶜ applied size M F a
  unfolding applied multiple
  applied_multiple size c M F a =
      sum_same (complex 𝓡) size (λ b. c *ᶜ M a b *ᶜ F b) (λ b. c *ᶜ (M a b *ᶜ F b)) (λ b l. (complex 𝓡).mul_assoc c (M a b) (F b))
      ∙ sum_mul (complex 𝓡) c size (λ b. M a b *ᶜ F b)

  pub applied_identity : (size : ℕ) (F : ℕ → Amplitude R) (a : ℕ) → a < size → applied size identity F a ≡ F a
  unfolding applied identity
  applied_identity size F a l =
      sum_one (complex 𝓡) size a (λ b. cond (eqb a b) one nought *ᶜ F b) l
      (λ b m ne. ap (λ (t : Bool). cond t one nought *ᶜ F b) (ne_eqb a b (λ e. ne (sym e))) ∙ zero_mul (complex 𝓡) (F b))
      ∙ ap (λ (t : Bool). cond t one nought *ᶜ F a) (eq-eqb a a refl) ∙ one_mul (complex 𝓡) (F a)

  -- a matrix takes |b> to its column b
  pub applied_ket : (size : ℕ) (M : Matrix R) (a b : ℕ) → b < size → applied size M (ket b) a ≡ M a b
  unfolding applied identity
  applied_ket size M a b l =
      sum_one (complex 𝓡) size b (λ c. M a c *ᶜ cond (eqb c b) one nought) l
      (λ c m ne. ap (λ (t : Bool). M a c *ᶜ cond t one nought) (ne_eqb c b ne) ∙ mul_zero (complex 𝓡) (M a c))
      ∙ ap (λ (t : Bool). M a b *ᶜ cond t one nought) (eq-eqb b b refl) ∙ mul_one (complex 𝓡) (M a b)

  -- a product's column is the left matrix applied to the right one's column
  pub joined_column : (size : ℕ) (M N : Matrix R) (a b : ℕ) → joined size M N a b ≡ applied size M (λ c. N c b) a
  unfolding joined applied
  joined_column size M N a b = refl

  -- the product of matrices is composition
  pub applied_joined : (m n : ℕ) (M N : Matrix R) (F : ℕ → Amplitude R) (a : ℕ) → applied n (joined m M N) F a ≡ applied m M (applied n N F) a
  unfolding applied joined
  applied_joined m n M N F a =
      sum_same (complex 𝓡) n (λ b. joined m M N a b *ᶜ F b) (λ b. sum (complex 𝓡) m (λ c. M a c *ᶜ (N c b *ᶜ F b))) (λ b l. inside b)
      ∙ sum_swap (complex 𝓡) n m (λ b c. M a c *ᶜ (N c b *ᶜ F b))
      ∙ sum_same (complex 𝓡) m (λ c. sum (complex 𝓡) n (λ b. M a c *ᶜ (N c b *ᶜ F b))) (λ c. M a c *ᶜ applied n N F c)
      (λ c l. sum_mul (complex 𝓡) (M a c) n (λ b. N c b *ᶜ F b))
    where
      turned : (p q r : Amplitude R) → r *ᶜ (p *ᶜ q) ≡ p *ᶜ (q *ᶜ r)
      turned p q r = (complex 𝓡).mul_comm r (p *ᶜ q) ∙ (complex 𝓡).mul_assoc p q r

      inside : (b : ℕ) → sum (complex 𝓡) m (λ c. M a c *ᶜ N c b) *ᶜ F b ≡ sum (complex 𝓡) m (λ c. M a c *ᶜ (N c b *ᶜ F b))
      inside b =
          (complex 𝓡).mul_comm (sum (complex 𝓡) m (λ c. M a c *ᶜ N c b)) (F b) ∙ sym (sum_mul (complex 𝓡) (F b) m (λ c. M a c *ᶜ N c b))
          ∙ sum_same (complex 𝓡) m (λ c. F b *ᶜ (M a c *ᶜ N c b)) (λ c. M a c *ᶜ (N c b *ᶜ F b)) (λ c l. turned (M a c) (N c b) (F b))
