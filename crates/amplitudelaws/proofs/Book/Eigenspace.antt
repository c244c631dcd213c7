-- The columns of eigenvectors are an orthonormal basis of a branch's eigenspace, and a projection's formula is the projector, read in it.
use Rattle.std.specs.Prelude.{◌≡◌, Bool}
use Rattle.std.proofs.Math.Path.{refl, sym, ap, ap₂}
use Rattle.std.proofs.Common.{◌∙◌, subst, arith}
use Rattle.std.proofs.Math.Bool.{true, false, cond}
use Prim.Native.Nat.{ℕ, suc, ◌+◌, ◌-◌, ◌%◌, ◌^◌, ◌≤◌, ◌<◌}
use Rattle.std.specs.Int.Bits.{bit_xor}
use Rattle.std.proofs.Math.Dec.{eqb}
use borrow.Author.Tests.{eqb-true, eqb-false, eq-eqb, ne_eqb}
use Rattle.bitlaws.specs.Digit.{digit}
use Rattle.bitlaws.specs.Bitwise.{digit_xor}
use Rattle.bitlaws.specs.Xor.{xor_lt}
use Rattle.bitlaws.specs.Opening.{open_bit, drop_bit}
use Rattle.bitlaws.proofs.Opening.{open_clear, drop_open, open_lt}
use Rattle.bitlaws.specs.Parity.{overlap}
use Rattle.bitlaws.proofs.Source.{source_drop, source_lt}
use Rattle.paulilaws.specs.Pauli.{Pauli}
use Rattle.amplitudelaws.specs.Arithmetic.{Amplitude}
use Rattle.amplitudelaws.specs.Projection.{minus, remaining, projected}
use Rattle.amplitudelaws.specs.Rows.{pivot_mask}
use Rattle.amplitudelaws.specs.Acting.{Measurable}
use Rattle.amplitudelaws.specs.Book.Ring.{Ring, ring, mul_zero}
use Rattle.amplitudelaws.specs.Book.Complex.{exact, complex, real, conj, ipow, sgn}
use Rattle.amplitudelaws.specs.Book.Reals.{conj_mul, real_add, real_mul, real_one}
use Rattle.amplitudelaws.proofs.Book.Parts.{scaled_is}
use Rattle.amplitudelaws.specs.Book.Sum.{sum, sum_same, sum_mul}
use Rattle.amplitudelaws.specs.Book.Matrix.{Matrix, identity, ket, applied, joined, adjoint, applied_same, applied_multiple, applied_joined}
use Rattle.amplitudelaws.specs.Book.Operators.{projector, stretch, eigenvectors, measuring}
use Rattle.amplitudelaws.proofs.Book.Standing.{basis_read, standing_read}
use Rattle.amplitudelaws.proofs.Book.Action.{act}
use Rattle.amplitudelaws.proofs.Book.Part.{part, part_again, half_complex}
use Rattle.amplitudelaws.proofs.Book.Diagonal.{part_outside}
use Rattle.amplitudelaws.proofs.Book.Paired.{paired}
use Rattle.amplitudelaws.proofs.Book.Remaining.{source_inside, remaining_part}
use Rattle.amplitudelaws.proofs.Book.Projector.{conj_real, projector_part, projector_ket, projector_conj, projector_square}
use Rattle.amplitudelaws.proofs.Book.Halves.{halves}

module _ {R : Type 0} (𝓡 : Ring R) where
  open 𝓡 use {add as ◌+ᶜ◌, mul as ◌*ᶜ◌, zero as nought, one}

  infixl 60 ◌+ᶜ◌
  infixl 70 ◌*ᶜ◌
  factored : (t x y : R) → t *ᶜ x *ᶜ (t *ᶜ y) ≡ t *ᶜ t *ᶜ (x *ᶜ y)
  factored t x y = simp ring

  -- (h + h) (h + h) h h is 1
  whole : (h q : R) → h *ᶜ h +ᶜ h *ᶜ h ≡ one → (h +ᶜ h) *ᶜ (h +ᶜ h) *ᶜ (h *ᶜ h *ᶜ (q +ᶜ nought)) ≡ q
  whole h q e = moved ∙ ap (λ (r : R). r *ᶜ (r *ᶜ q)) e ∙ 𝓡.one_mul (one *ᶜ q) ∙ 𝓡.one_mul q
    where
      moved : (h +ᶜ h) *ᶜ (h +ᶜ h) *ᶜ (h *ᶜ h *ᶜ (q +ᶜ nought)) ≡ (h *ᶜ h +ᶜ h *ᶜ h) *ᶜ ((h *ᶜ h +ᶜ h *ᶜ h) *ᶜ q)
      moved = simp ring

  ones : (q : R) → one *ᶜ one *ᶜ q ≡ q
  ones q = simp ring

-- ---- the basis states that stand for coordinates

module _ (M : Pauli) (p v : ℕ) where
  read_drop : (d : Bool) (j : ℕ) → drop_bit p (basis_read d M p v j) ≡ j
  unfolding basis_read
  read_drop true j = source_drop p M.z (minus M.k + v) j
  read_drop false j = drop_open p j

  read_under : (n : ℕ) → p ≤ n → (d : Bool) (j : ℕ) → j < 2 ^ n → basis_read d M p v j < 2 ^ suc n
  unfolding basis_read
  read_under n fits true j l = source_lt p M.z (minus M.k + v) j n fits l
  read_under n fits false j l = open_lt p n fits j l

  read_lt : p < M.n → (d : Bool) (j : ℕ) → j < 2 ^ (M.n - 1) → basis_read d M p v j < 2 ^ M.n
  read_lt inside d j l =
      let width : suc (M.n - 1) ≡ M.n = omega arith in
      subst (λ (n : ℕ). basis_read d M p v j < 2 ^ n) width (read_under (M.n - 1) (omega arith) d j l)

module _ {R : Type 0} (𝓡 : Ring R) (h : R) (half : 𝓡.add (𝓡.mul h h) (𝓡.mul h h) ≡ 𝓡.one) (M : Pauli) (p v : ℕ) (ok : Measurable M p) where
  open complex 𝓡 use {add as ◌+ᶜ◌, mul as ◌*ᶜ◌, zero as nought, one}

  infixl 60 ◌+ᶜ◌
  infixl 70 ◌*ᶜ◌
  abbrev size : ℕ
  size = 2 ^ M.n

  abbrev coordinates : ℕ
  coordinates = 2 ^ (M.n - 1)

  abbrev s : ℕ → ℕ
  s j = basis_read (eqb M.x 0) M p v j

  abbrev t : Amplitude R
  t = real 𝓡 (stretch 𝓡 h (eqb M.x 0))

  abbrev P : Matrix R
  P = projector 𝓡 h M v

  abbrev E : Matrix R
  E = eigenvectors 𝓡 h M p v

  s_lt : (j : ℕ) → j < coordinates → s j < size
  s_lt j l = read_lt M p v ok.inside (eqb M.x 0) j l

  -- column j is the projector's column at j's basis state, stretched
  column : (a j : ℕ) → E a j ≡ t *ᶜ P a (s j)
  unfolding eigenvectors
  column a j = ap (λ (b : ℕ). t *ᶜ P a b) (standing_read M p v ok.fitting ok.real j)

  -- row j of the adjoint is the projector's row at j's basis state
  row : (j a : ℕ) → j < coordinates → a < size → adjoint 𝓡 E j a ≡ t *ᶜ P (s j) a
  unfolding adjoint
  row j a lj la =
      ap (conj 𝓡) (column a j)
      ∙ conj_mul 𝓡 t (P a (s j))
      ∙ ap₂ ◌*ᶜ◌ (conj_real 𝓡 (stretch 𝓡 h (eqb M.x 0))) (projector_conj 𝓡 h M v ok.fitting ok.real (s j) a (s_lt j lj) la)

  -- coordinate j of a vector's part
  coordinate : (F : ℕ → Amplitude R) (j : ℕ) → j < coordinates → applied 𝓡 size (adjoint 𝓡 E) F j ≡ t *ᶜ part 𝓡 h M v F (s j)
  unfolding applied
  coordinate F j l =
      sum_same (complex 𝓡) size (λ a. adjoint 𝓡 E j a *ᶜ F a) (λ a. t *ᶜ (P (s j) a *ᶜ F a))
      (λ a la. ap (λ (q : Amplitude R). q *ᶜ F a) (row j a l la) ∙ (complex 𝓡).mul_assoc t (P (s j) a) (F a))
      ∙ sum_mul (complex 𝓡) t size (λ a. P (s j) a *ᶜ F a)
      ∙ ap (λ (q : Amplitude R). t *ᶜ q) (unfold applied in (projector_part 𝓡 h M v ok.fitting F (s j) (s_lt j l)))

  -- ---- the formula

  pub projected_is_book : (invnorm : R) (F : ℕ → Amplitude R) (j : ℕ) → j < 2 ^ (M.n - 1)
      → projected (exact 𝓡 h) M p v invnorm F j ≡ applied 𝓡 (2 ^ M.n) (measuring 𝓡 h M p v invnorm) F j
  unfolding projected measuring
  projected_is_book invnorm F j l =
      scaled_is 𝓡 h invnorm (remaining (exact 𝓡 h) M p v F j)
      ∙ ap (λ (q : Amplitude R). real 𝓡 invnorm *ᶜ q) (remaining_part 𝓡 h half M p v ok F j ∙ sym book)
      ∙ sym (applied_multiple 𝓡 size (real 𝓡 invnorm) (joined 𝓡 size (adjoint 𝓡 E) P) F j)
    where
      book : applied 𝓡 size (joined 𝓡 size (adjoint 𝓡 E) P) F j ≡ t *ᶜ part 𝓡 h M v F (s j)
      book =
          applied_joined 𝓡 size size (adjoint 𝓡 E) P F j
          ∙ applied_same 𝓡 size (adjoint 𝓡 E) (applied 𝓡 size P F) (part 𝓡 h M v F) (λ a la. projector_part 𝓡 h M v ok.fitting F a la) j
          ∙ coordinate (part 𝓡 h M v F) j l
          ∙ ap (λ (q : Amplitude R). t *ᶜ q) (part_again 𝓡 M ok.real h v F (s j) half)

  -- ---- the basis

  -- a sum of products of two columns, or of two rows
  apart : (n : ℕ) (f g : ℕ → Amplitude R) → sum (complex 𝓡) n (λ c. t *ᶜ f c *ᶜ (t *ᶜ g c)) ≡ t *ᶜ t *ᶜ sum (complex 𝓡) n (λ c. f c *ᶜ g c)
  apart n f g =
      sum_same (complex 𝓡) n (λ c. t *ᶜ f c *ᶜ (t *ᶜ g c)) (λ c. t *ᶜ t *ᶜ (f c *ᶜ g c)) (λ c l. factored (complex 𝓡) t (f c) (g c))
      ∙ sum_mul (complex 𝓡) (t *ᶜ t) n (λ c. f c *ᶜ g c)

  -- where M has an X part at the pivot, it sends no basis state whose pivot is 0 to such a one
  clear : digit p M.x ≡ 1 → (a b : ℕ) → digit p a ≡ 0 → digit p b ≡ 0 → act 𝓡 M (ket 𝓡 b) a ≡ nought
  unfolding act identity
  clear set a b da db =
      ap (λ (q : Bool). ipow 𝓡 M.k *ᶜ sgn 𝓡 (overlap (bit_xor a M.x) M.z) *ᶜ cond q one nought)
      (ne_eqb (bit_xor a M.x) b (λ e. omega (arith, digit_xor p a M.x, ap (digit p) e)))
      ∙ mul_zero (complex 𝓡) _

  -- so the projections of two basis states that stand for coordinates meet as the states themselves do, the stretch undoing the projection's h h
  met : (d : Bool) → eqb M.x 0 ≡ d → digit p (cond d M.z M.x) ≡ 1 → (a b : ℕ)
      → real 𝓡 (stretch 𝓡 h d) *ᶜ real 𝓡 (stretch 𝓡 h d) *ᶜ part 𝓡 h M v (ket 𝓡 (basis_read d M p v b)) (basis_read d M p v a)
      ≡ ket 𝓡 (basis_read d M p v b) (basis_read d M p v a)
  unfolding stretch basis_read
  met true x set a b =
      ap (λ (q : Amplitude R). q *ᶜ q *ᶜ part 𝓡 h M v (ket 𝓡 (basis_read true M p v b)) (basis_read true M p v a)) (real_one 𝓡)
      ∙ ones (complex 𝓡) _
      ∙ source_inside 𝓡 h half M p v ok (ket 𝓡 (basis_read true M p v b)) a (eqb-true M.x 0 x) set
  met false x set a b =
      ap₂ (λ (q r : Amplitude R). q *ᶜ q *ᶜ r) (real_add 𝓡 h h) parted ∙ whole (complex 𝓡) (real 𝓡 h) q (half_complex 𝓡 h half)
    where
      q : Amplitude R
      q = ket 𝓡 (open_bit p b) (open_bit p a)

      parted : part 𝓡 h M v (ket 𝓡 (open_bit p b)) (open_bit p a) ≡ real 𝓡 h *ᶜ real 𝓡 h *ᶜ (q +ᶜ nought)
      parted = unfold part in (ap₂ (λ (r w : Amplitude R). r *ᶜ (q +ᶜ w)) (real_mul 𝓡 h h)
          (ap (λ (w : Amplitude R). sgn 𝓡 v *ᶜ w) (clear set (open_bit p a) (open_bit p b) (open_clear p a) (open_clear p b))
          ∙ mul_zero (complex 𝓡) (sgn 𝓡 v)))

  -- no two coordinates have one basis state
  distinct : (a b : ℕ) → ket 𝓡 (s b) (s a) ≡ identity 𝓡 a b
  unfolding identity
  distinct a b = ap (λ (q : Bool). cond q one nought) (go (eqb a b) refl)
    where
      go : (q : Bool) → eqb a b ≡ q → eqb (s a) (s b) ≡ q
      go true e = eq-eqb (s a) (s b) (ap s (eqb-true a b e))
      go false e = ne_eqb (s a) (s b) (λ m. eqb-false a b e (sym (back a) ∙ ap (drop_bit p) m ∙ back b))
        where
          back : (j : ℕ) → drop_bit p (s j) ≡ j
          back = read_drop M p v (eqb M.x 0)

  pub orthonormal : (a b : ℕ) → a < 2 ^ (M.n - 1) → b < 2 ^ (M.n - 1)
      → joined 𝓡 (2 ^ M.n) (adjoint 𝓡 (eigenvectors 𝓡 h M p v)) (eigenvectors 𝓡 h M p v) a b ≡ identity 𝓡 a b
  unfolding joined
  orthonormal a b la lb =
      sum_same (complex 𝓡) size (λ c. adjoint 𝓡 E a c *ᶜ E c b) (λ c. t *ᶜ P (s a) c *ᶜ (t *ᶜ P c (s b)))
      (λ c l. ap₂ ◌*ᶜ◌ (row a c la l) (column c b))
      ∙ apart size (λ c. P (s a) c) (λ c. P c (s b))
      ∙ ap (λ (q : Amplitude R). t *ᶜ t *ᶜ q)
      (unfold joined in (projector_square 𝓡 h M v ok.fitting ok.real (s a) (s b) (s_lt a la) (s_lt b lb) half)
      ∙ projector_ket 𝓡 h M v ok.fitting (s a) (s b) (s_lt a la) (s_lt b lb))
      ∙ met (eqb M.x 0) refl (unfold pivot_mask in ok.has) a b
      ∙ distinct a b

  -- what is summed over all basis states, by those that stand for coordinates
  inward : (f : ℕ → Amplitude R)
      → (eqb M.x 0 ≡ true → (c : ℕ) → c < size → (minus M.k + v + overlap c M.z) % 2 ≡ 1 → f c ≡ nought)
      → (eqb M.x 0 ≡ false → (c : ℕ) → c < size → f (bit_xor c M.x) ≡ f c)
      → t *ᶜ t *ᶜ sum (complex 𝓡) coordinates (λ j. f (s j)) ≡ sum (complex 𝓡) size f
  inward f none same =
      sym (halves (complex 𝓡) (real 𝓡 h) (half_complex 𝓡 h half) M p ok v f none same
      ∙ ap (λ (q : Amplitude R). q *ᶜ q *ᶜ sum (complex 𝓡) coordinates (λ j. f (s j))) (stretched (eqb M.x 0)))
    where
      stretched : (d : Bool) → stretch (complex 𝓡) (real 𝓡 h) d ≡ real 𝓡 (stretch 𝓡 h d)
      stretched true = unfold stretch in (sym (real_one 𝓡))
      stretched false = unfold stretch in (sym (real_add 𝓡 h h))

  pub complete : (a b : ℕ) → a < 2 ^ M.n → b < 2 ^ M.n
      → joined 𝓡 (2 ^ (M.n - 1)) (eigenvectors 𝓡 h M p v) (adjoint 𝓡 (eigenvectors 𝓡 h M p v)) a b ≡ projector 𝓡 h M v a b
  unfolding joined
  complete a b la lb =
      sum_same (complex 𝓡) coordinates (λ j. E a j *ᶜ adjoint 𝓡 E j b) (λ j. t *ᶜ P a (s j) *ᶜ (t *ᶜ P (s j) b))
      (λ j l. ap₂ ◌*ᶜ◌ (column a j) (row j b l lb))
      ∙ apart coordinates (λ j. P a (s j)) (λ j. P (s j) b)
      ∙ inward (λ c. P a c *ᶜ P c b) none same
      ∙ unfold joined in (projector_square 𝓡 h M v ok.fitting ok.real a b la lb half)
    where
      G : ℕ → Amplitude R
      G = part 𝓡 h M v (ket 𝓡 a)

      H : ℕ → Amplitude R
      H = part 𝓡 h M v (ket 𝓡 b)

      left : (c : ℕ) → c < size → P a c ≡ conj 𝓡 (G c)
      left c l = sym (projector_conj 𝓡 h M v ok.fitting ok.real a c la l) ∙ ap (conj 𝓡) (projector_ket 𝓡 h M v ok.fitting c a l la)

      right : (c : ℕ) → c < size → P c b ≡ H c
      right c l = projector_ket 𝓡 h M v ok.fitting c b l lb

      none : eqb M.x 0 ≡ true → (c : ℕ) → c < size → (minus M.k + v + overlap c M.z) % 2 ≡ 1 → P a c *ᶜ P c b ≡ nought
      none x c l odd =
          ap (λ (q : Amplitude R). P a c *ᶜ q) (right c l ∙ part_outside 𝓡 h M ok.fitting ok.real (eqb-true M.x 0 x) v (ket 𝓡 b) c odd) ∙ mul_zero (complex 𝓡) (P a c)

      same : eqb M.x 0 ≡ false → (c : ℕ) → c < size → P a (bit_xor c M.x) *ᶜ P (bit_xor c M.x) b ≡ P a c *ᶜ P c b
      same x c l =
          let o : ℕ = bit_xor c M.x in
          let lo : o < size = xor_lt M.n c M.x l ok.fitting.xs in
          ap₂ ◌*ᶜ◌ (left o lo) (right o lo) ∙ paired 𝓡 M ok.real h v (ket 𝓡 a) (ket 𝓡 b) c ∙ sym (ap₂ ◌*ᶜ◌ (left c l) (right c l))
