-- The part of a vector in a branch of a Hermitian Pauli, entry by entry: M multiplies it by (-1)^v, and it is its own part.
use Rattle.std.specs.Prelude.{◌≡◌, true}
use Rattle.std.proofs.Math.Path.{refl, sym, ap, ap₂}
use Rattle.std.proofs.Common.{◌∙◌, arith}
use Prim.Native.Nat.{ℕ, ◌+◌}
use Rattle.std.specs.Int.Bits.{bit_xor}
use Rattle.bitlaws.specs.Xor.{xor_twice}
use Rattle.bitlaws.specs.Parity.{overlap}
use Rattle.bitlaws.proofs.Parity.{overlap_xor_l}
use Rattle.paulilaws.specs.Pauli.{Pauli, hermitian}
use Rattle.paulilaws.proofs.Algebra.{hermitian_parity}
use Rattle.amplitudelaws.specs.Arithmetic.{Amplitude}
use Rattle.amplitudelaws.specs.Book.Ring.{Ring, ring}
use Rattle.amplitudelaws.specs.Book.Complex.{complex, real, i, ipow, sgn}
use Rattle.amplitudelaws.specs.Book.Signs.{sign_add, sign_even, sign_square, pow_add, pow_double}
use Rattle.amplitudelaws.specs.Book.Reals.{real_add, real_mul, real_one}
use Rattle.amplitudelaws.proofs.Book.Action.{act}

module _ {R : Type 0} (𝓡 : Ring R) where
  open 𝓡 use {add as ◌+ᶜ◌, mul as ◌*ᶜ◌, one}

  infixl 60 ◌+ᶜ◌
  infixl 70 ◌*ᶜ◌
  -- two phases, two signs
  paired : (a f g q : R) → a *ᶜ f *ᶜ (a *ᶜ g *ᶜ q) ≡ a *ᶜ a *ᶜ (f *ᶜ g) *ᶜ q
  paired a f g q = simp ring

  spread : (k g t f s a : R) → k *ᶜ g *ᶜ (t *ᶜ (f +ᶜ s *ᶜ a)) ≡ t *ᶜ (k *ᶜ g *ᶜ f +ᶜ s *ᶜ (k *ᶜ g *ᶜ a))
  spread k g t f s a = simp ring

  turned : (t s f a : R) → s *ᶜ s ≡ one → t *ᶜ (a +ᶜ s *ᶜ f) ≡ s *ᶜ (t *ᶜ (f +ᶜ s *ᶜ a))
  turned t s f a e = sym (ap (λ (q : R). t *ᶜ (q *ᶜ a +ᶜ s *ᶜ f)) e ∙ ap (λ (q : R). t *ᶜ (q +ᶜ s *ᶜ f)) (𝓡.one_mul a)) ∙ moved
    where
      moved : t *ᶜ (s *ᶜ s *ᶜ a +ᶜ s *ᶜ f) ≡ s *ᶜ (t *ᶜ (f +ᶜ s *ᶜ a))
      moved = simp ring

  doubled : (t s a : R) → s *ᶜ s ≡ one → t +ᶜ t ≡ one → t *ᶜ (a +ᶜ s *ᶜ (s *ᶜ a)) ≡ a
  doubled t s a p q = moved ∙ ap (λ (r : R). t *ᶜ (a +ᶜ r *ᶜ a)) p ∙ again ∙ ap (λ (r : R). r *ᶜ a) q ∙ 𝓡.one_mul a
    where
      moved : t *ᶜ (a +ᶜ s *ᶜ (s *ᶜ a)) ≡ t *ᶜ (a +ᶜ s *ᶜ s *ᶜ a)
      moved = simp ring

      again : t *ᶜ (a +ᶜ one *ᶜ a) ≡ (t +ᶜ t) *ᶜ a
      again = simp ring

module _ {R : Type 0} (𝓡 : Ring R) where
  open complex 𝓡 use {add as ◌+ᶜ◌, mul as ◌*ᶜ◌, one}

  infixl 60 ◌+ᶜ◌
  infixl 70 ◌*ᶜ◌
  -- (1 + (-1)^v M) / 2 of a vector, where h h is 1/2
  unfoldable pub part : R → Pauli → ℕ → (ℕ → Amplitude R) → ℕ → Amplitude R
  part h M v F b = real 𝓡 (𝓡.mul h h) *ᶜ (F b +ᶜ sgn 𝓡 v *ᶜ act 𝓡 M F b)

  pub pow_square : (k : ℕ) → ipow 𝓡 k *ᶜ ipow 𝓡 k ≡ sgn 𝓡 k
  pow_square k = sym (pow_add (complex 𝓡) (i 𝓡) k k) ∙ ap (ipow 𝓡) (omega arith) ∙ pow_double 𝓡 k

  -- the same half among the complex numbers
  module _ (h : R) (half : 𝓡.add (𝓡.mul h h) (𝓡.mul h h) ≡ 𝓡.one) where
    pub half_real : real 𝓡 (𝓡.mul h h) +ᶜ real 𝓡 (𝓡.mul h h) ≡ one
    half_real = sym (real_add 𝓡 (𝓡.mul h h) (𝓡.mul h h)) ∙ ap (real 𝓡) half ∙ real_one 𝓡

    pub half_complex : real 𝓡 h *ᶜ real 𝓡 h +ᶜ real 𝓡 h *ᶜ real 𝓡 h ≡ one
    half_complex = ap₂ ◌+ᶜ◌ (sym (real_mul 𝓡 h h)) (sym (real_mul 𝓡 h h)) ∙ half_real

  module _ (M : Pauli) (even : hermitian M ≡ true) where
    -- M M = 1
    pub act_square : (F : ℕ → Amplitude R) (b : ℕ) → act 𝓡 M (act 𝓡 M F) b ≡ F b
    unfolding act
    act_square F b =
        let o : ℕ = bit_xor b M.x in
        let u : ℕ = bit_xor o M.x in
        let s : ℕ = overlap o M.z + overlap u M.z in
        let f : sgn 𝓡 M.k *ᶜ (sgn 𝓡 (overlap o M.z) *ᶜ sgn 𝓡 (overlap u M.z)) ≡ one
        = ap (λ (q : Amplitude R). sgn 𝓡 M.k *ᶜ q) (sym (sign_add (complex 𝓡) (overlap o M.z) (overlap u M.z)))
        ∙ sym (sign_add (complex 𝓡) M.k s)
        ∙ sign_even (complex 𝓡) (M.k + s) (omega (arith, overlap_xor_l o M.x M.z, hermitian_parity M even)) in
        paired (complex 𝓡) (ipow 𝓡 M.k) (sgn 𝓡 (overlap o M.z)) (sgn 𝓡 (overlap u M.z)) (F u)
        ∙ ap (λ (q : Amplitude R). q *ᶜ (sgn 𝓡 (overlap o M.z) *ᶜ sgn 𝓡 (overlap u M.z)) *ᶜ F u) (pow_square M.k)
        ∙ ap₂ ◌*ᶜ◌ f (ap F (xor_twice b M.x)) ∙ (complex 𝓡).one_mul (F b)

    module _ (h : R) (v : ℕ) (F : ℕ → Amplitude R) (b : ℕ) where
      abbrev t : Amplitude R
      t = real 𝓡 (𝓡.mul h h)

      -- M of the part is (-1)^v times it
      pub part_eigen : act 𝓡 M (part h M v F) b ≡ sgn 𝓡 v *ᶜ part h M v F b
      unfolding part
      part_eigen =
          linear ∙ ap (λ (q : Amplitude R). t *ᶜ (act 𝓡 M F b +ᶜ sgn 𝓡 v *ᶜ q)) (act_square F b)
          ∙ turned (complex 𝓡) t (sgn 𝓡 v) (F b) (act 𝓡 M F b) (sign_square (complex 𝓡) v)
        where
          linear : act 𝓡 M (part h M v F) b ≡ t *ᶜ (act 𝓡 M F b +ᶜ sgn 𝓡 v *ᶜ act 𝓡 M (act 𝓡 M F) b)
          linear = unfold act in (spread (complex 𝓡) (ipow 𝓡 M.k) (sgn 𝓡 (overlap (bit_xor b M.x) M.z)) t (F (bit_xor b M.x)) (sgn 𝓡 v) (act 𝓡 M F (bit_xor b M.x)))

      -- and its part is itself
      pub part_again : 𝓡.add (𝓡.mul h h) (𝓡.mul h h) ≡ 𝓡.one → part h M v (part h M v F) b ≡ part h M v F b
      part_again half =
          opened ∙ ap (λ (q : Amplitude R). t *ᶜ (part h M v F b +ᶜ sgn 𝓡 v *ᶜ q)) part_eigen
          ∙ doubled (complex 𝓡) t (sgn 𝓡 v) (part h M v F b) (sign_square (complex 𝓡) v) (half_real h half)
        where
          opened : part h M v (part h M v F) b ≡ t *ᶜ (part h M v F b +ᶜ sgn 𝓡 v *ᶜ act 𝓡 M (part h M v F) b)
          opened = unfold part in refl
