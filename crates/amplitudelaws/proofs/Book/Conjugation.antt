-- A Pauli Q and a rotation of P, as matrices: what stands on either side where the two change places. Q stays, and the rotation's sign is flipped
-- where they anticommute; or, where c = s, the rotation stays and Q becomes another. That is the book's conjugation, U Q = (U Q U^-1) U (10.5.2).
use Rattle.std.specs.Prelude.{◌≡◌, true}
use Rattle.std.proofs.Common.{sym, ◌∙◌}
use Rattle.std.proofs.Math.Path.{ap, ap₂}
use Prim.Native.Nat.{ℕ, ◌+◌, ◌*◌, ◌%◌, ◌^◌, ◌<◌}
use Rattle.std.specs.Int.Bits.{bit_xor}
use Rattle.bitlaws.specs.Parity.{overlap}
use Rattle.bitlaws.specs.Xor.{xor_comm}
use Rattle.paulilaws.specs.Pauli.{Pauli, product, anti, hermitian}
use Rattle.paulilaws.specs.Fitting.{Fitting, product_fitting}
use Rattle.paulilaws.specs.Frame.{raised, raised_fitting}
use Rattle.amplitudelaws.specs.Arithmetic.{Amplitude}
use Rattle.amplitudelaws.specs.Book.Ring.{Ring, ring, neg_mul}
use Rattle.amplitudelaws.specs.Book.Complex.{complex, real, i, pow, ipow, sgn}
use Rattle.amplitudelaws.specs.Book.Signs.{sign_add, sign_odd, sign_square, i_square}
use Rattle.amplitudelaws.specs.Book.Matrix.{applied, applied_same}
use Rattle.amplitudelaws.specs.Book.Operators.{pauli, turning}
use Rattle.amplitudelaws.proofs.Book.Action.{act, pauli_acts}
use Rattle.amplitudelaws.proofs.Book.Product.{product_acts}
use Rattle.amplitudelaws.proofs.Book.Part.{act_square}
use Rattle.amplitudelaws.proofs.Book.Turning.{slope, turning_acts, act_linear}
use Rattle.amplitudelaws.proofs.Book.Group.{raised_phase, swapped_phase}

-- ---- rearrangements

module _ {R : Type 0} (𝓡 : Ring R) where
  open 𝓡 use {add as ◌+ᶜ◌, mul as ◌*ᶜ◌, neg as -ᶜ◌, one}

  infixl 60 ◌+ᶜ◌
  infixl 70 ◌*ᶜ◌
  infix 80 -ᶜ◌
  regroup : (d k g q : R) → d *ᶜ k *ᶜ g *ᶜ q ≡ d *ᶜ (k *ᶜ g *ᶜ q)
  regroup d k g q = simp ring

  -- the sign d of a rotation and the sign g of an exchange
  signs : (j s d g a : R) → -ᶜ (j *ᶜ s *ᶜ (d *ᶜ g)) *ᶜ (g *ᶜ a) ≡ -ᶜ (j *ᶜ s *ᶜ d *ᶜ (g *ᶜ g)) *ᶜ a
  signs j s d g a = simp ring

  whole : (t a : R) → -ᶜ (t *ᶜ one) *ᶜ a ≡ -ᶜ t *ᶜ a
  whole t a = simp ring

  -- - j times (u - j u P) on the other side, where exchanging costs a sign
  turned : (j u a b : R) → -ᶜ j *ᶜ (u *ᶜ a +ᶜ -ᶜ (j *ᶜ u *ᶜ one) *ᶜ (-ᶜ one *ᶜ b)) ≡ -ᶜ (j *ᶜ j) *ᶜ u *ᶜ b +ᶜ -ᶜ (j *ᶜ u *ᶜ one) *ᶜ a
  turned j u a b = simp ring

  back : (u b : R) → -ᶜ (-ᶜ one) *ᶜ u *ᶜ b ≡ u *ᶜ b
  back u b = simp ring

  cube : (j : R) → j *ᶜ (j *ᶜ (j *ᶜ one)) ≡ j *ᶜ j *ᶜ j
  cube j = simp ring

module _ {R : Type 0} (𝓡 : Ring R) where
  open complex 𝓡 use {add as ◌+ᶜ◌, mul as ◌*ᶜ◌, neg as -ᶜ◌, one}

  infixl 60 ◌+ᶜ◌
  infixl 70 ◌*ᶜ◌
  infix 80 -ᶜ◌
  -- ---- Paulis on amplitudes

  act_raised : (e : ℕ) (P : Pauli) (F : ℕ → Amplitude R) (b : ℕ) → act 𝓡 (raised e P) F b ≡ ipow 𝓡 e *ᶜ act 𝓡 P F b
  unfolding act raised
  act_raised e P F b =
      let o : ℕ = bit_xor b P.x in
      let g : Amplitude R = sgn 𝓡 (overlap o P.z) in
      ap (λ (q : Amplitude R). q *ᶜ g *ᶜ F o) (raised_phase 𝓡 P.k e)
      ∙ regroup (complex 𝓡) (ipow 𝓡 e) (ipow 𝓡 P.k) g (F o)

  -- A B is B A, or - B A where they anticommute
  act_swapped : (A B : Pauli) (F : ℕ → Amplitude R) (b : ℕ) → act 𝓡 (product A B) F b ≡ sgn 𝓡 (anti A B) *ᶜ act 𝓡 (product B A) F b
  unfolding act product
  act_swapped A B F b =
      let o : ℕ = bit_xor b (bit_xor B.x A.x) in
      let k : ℕ = (A.k + B.k + 2 * overlap A.z B.x) % 4 in
      let g : Amplitude R = sgn 𝓡 (overlap o (bit_xor B.z A.z)) in
      ap₂ (λ (x z : ℕ). ipow 𝓡 k *ᶜ sgn 𝓡 (overlap (bit_xor b x) z) *ᶜ F (bit_xor b x)) (xor_comm A.x B.x) (xor_comm A.z B.z)
      ∙ ap (λ (q : Amplitude R). q *ᶜ g *ᶜ F o) (swapped_phase 𝓡 A B)
      ∙ regroup (complex 𝓡) (sgn 𝓡 (anti A B)) (ipow 𝓡 ((B.k + A.k + 2 * overlap B.z A.x) % 4)) g (F o)

  -- ---- past a rotation

  module _ (P Q : Pauli) (width : Q.n ≡ P.n) (fitting : Fitting P) (other : Fitting Q) where
    abbrev size : ℕ
    size = 2 ^ P.n

    Q_acts : (F : ℕ → Amplitude R) (b : ℕ) → b < size → applied 𝓡 size (pauli 𝓡 Q) F b ≡ act 𝓡 Q F b
    Q_acts F b l = rw (← width) (pauli_acts 𝓡 Q other F b (rw width l))

    -- the rotation behind Q
    behind : (e : ℕ) (c s : R) (F : ℕ → Amplitude R) (b : ℕ) → b < size
        → applied 𝓡 size (turning 𝓡 P e c s) (applied 𝓡 size (pauli 𝓡 Q) F) b ≡ real 𝓡 c *ᶜ act 𝓡 Q F b +ᶜ slope 𝓡 e s *ᶜ act 𝓡 (product P Q) F b
    behind e c s F b l =
        applied_same 𝓡 size (turning 𝓡 P e c s) (applied 𝓡 size (pauli 𝓡 Q) F) (act 𝓡 Q F) (Q_acts F) b
        ∙ turning_acts 𝓡 P e c s (act 𝓡 Q F) b fitting l
        ∙ ap (λ (q : Amplitude R). real 𝓡 c *ᶜ act 𝓡 Q F b +ᶜ slope 𝓡 e s *ᶜ q) (sym (product_acts 𝓡 P Q F b))

    -- Q goes past a rotation by turning-flipped its sign where they anticommute
    pub turning_flipped : (e : ℕ) (c s : R) (F : ℕ → Amplitude R) (b : ℕ) → b < size
        → applied 𝓡 size (turning 𝓡 P e c s) (applied 𝓡 size (pauli 𝓡 Q) F) b
        ≡ applied 𝓡 size (pauli 𝓡 Q) (applied 𝓡 size (turning 𝓡 P (e + anti Q P) c s) F) b
    turning_flipped e c s F b l =
        let u : Amplitude R = real 𝓡 c in
        let t : Amplitude R = i 𝓡 *ᶜ real 𝓡 s *ᶜ sgn 𝓡 e in
        let g : Amplitude R = sgn 𝓡 (anti Q P) in
        let w : Amplitude R = slope 𝓡 (e + anti Q P) s in
        let a : Amplitude R = act 𝓡 (product P Q) F b in
        let second : w *ᶜ act 𝓡 Q (act 𝓡 P F) b ≡ slope 𝓡 e s *ᶜ a
        = ap₂ (λ (d q : Amplitude R). -ᶜ (i 𝓡 *ᶜ real 𝓡 s *ᶜ d) *ᶜ q) (sign_add (complex 𝓡) e (anti Q P)) (sym (product_acts 𝓡 Q P F b) ∙ act_swapped Q P F b)
        ∙ signs (complex 𝓡) (i 𝓡) (real 𝓡 s) (sgn 𝓡 e) g a
        ∙ ap (λ (d : Amplitude R). -ᶜ (t *ᶜ d) *ᶜ a) (sign_square (complex 𝓡) (anti Q P))
        ∙ whole (complex 𝓡) t a in
        behind e c s F b l
        ∙ sym (applied_same 𝓡 size (pauli 𝓡 Q) (applied 𝓡 size (turning 𝓡 P (e + anti Q P) c s) F) (λ r. u *ᶜ F r +ᶜ w *ᶜ act 𝓡 P F r)
        (λ r k. turning_acts 𝓡 P (e + anti Q P) c s F r fitting k) b
        ∙ Q_acts (λ r. u *ᶜ F r +ᶜ w *ᶜ act 𝓡 P F r) b l
        ∙ act_linear 𝓡 Q u w F (act 𝓡 P F) b
        ∙ ap (◌+ᶜ◌ (u *ᶜ act 𝓡 Q F b)) second)

    -- and past a quarter turn, c and s being the same, by becoming P Q with i^3
    pub turning_conjugated : hermitian P ≡ true → anti Q P ≡ 1 → (c : R) (F : ℕ → Amplitude R) (b : ℕ) → b < size
        → applied 𝓡 size (turning 𝓡 P 0 c c) (applied 𝓡 size (pauli 𝓡 Q) F) b
        ≡ applied 𝓡 size (pauli 𝓡 (raised 3 (product P Q))) (applied 𝓡 size (turning 𝓡 P 0 c c) F) b
    turning_conjugated even odd c F b l =
        let j : Amplitude R = i 𝓡 in
        let u : Amplitude R = real 𝓡 c in
        let w : Amplitude R = slope 𝓡 0 c in
        let G : ℕ → Amplitude R = λ r. u *ᶜ F r +ᶜ w *ᶜ act 𝓡 P F r in
        let a : Amplitude R = act 𝓡 (product P Q) F b in
        let f : Amplitude R = act 𝓡 Q F b in
        let minus_one : sgn 𝓡 (anti Q P) ≡ -ᶜ one = sign_odd (complex 𝓡) (anti Q P) (ap (λ (n : ℕ). n % 2) odd) in
        behind 0 c c F b l
        ∙ sym (applied_same 𝓡 size (pauli 𝓡 (raised 3 (product P Q))) (applied 𝓡 size (turning 𝓡 P 0 c c) F) G (λ r k. turning_acts 𝓡 P 0 c c F r fitting k) b
        ∙ acting G
        ∙ act_raised 3 (product P Q) G b
        ∙ ap₂ ◌*ᶜ◌ third (act_linear 𝓡 (product P Q) u w F (act 𝓡 P F) b ∙ ap (λ (q : Amplitude R). u *ᶜ a +ᶜ w *ᶜ q) (exchanged ∙ ap (λ (q : Amplitude R). q *ᶜ f) minus_one))
        ∙ unfold pow in (turned (complex 𝓡) j u a f)
        ∙ ap (λ (q : Amplitude R). -ᶜ q *ᶜ u *ᶜ f +ᶜ w *ᶜ a) (i_square 𝓡)
        ∙ ap (λ (q : Amplitude R). q +ᶜ w *ᶜ a) (back (complex 𝓡) u f))
      where
        third : ipow 𝓡 3 ≡ -ᶜ i 𝓡
        third = unfold pow in (cube (complex 𝓡) (i 𝓡)) ∙ ap (λ (q : Amplitude R). q *ᶜ i 𝓡) (i_square 𝓡) ∙ neg_mul (complex 𝓡) one (i 𝓡) ∙ ap -ᶜ◌ ((complex 𝓡).one_mul (i 𝓡))

        acting : (G : ℕ → Amplitude R) → applied 𝓡 size (pauli 𝓡 (raised 3 (product P Q))) G b ≡ act 𝓡 (raised 3 (product P Q)) G b
        acting G = unfold raised product in (pauli_acts 𝓡 (raised 3 (product P Q)) (raised_fitting 3 (product_fitting width fitting other)) G b l)

        -- P P is 1
        undone : act 𝓡 Q (act 𝓡 P (act 𝓡 P F)) b ≡ act 𝓡 Q F b
        undone =
            let o : ℕ = bit_xor b Q.x in
            unfold act in (ap (◌*ᶜ◌ (ipow 𝓡 Q.k *ᶜ sgn 𝓡 (overlap o Q.z))) (act_square 𝓡 P even F o))

        exchanged : act 𝓡 (product P Q) (act 𝓡 P F) b ≡ sgn 𝓡 (anti Q P) *ᶜ act 𝓡 Q F b
        exchanged =
            let g : Amplitude R = sgn 𝓡 (anti Q P) in
            let G : ℕ → Amplitude R = act 𝓡 P F in
            let k : Amplitude R = act 𝓡 (product P Q) G b in
            sym (ap (λ (q : Amplitude R). q *ᶜ k) (sign_square (complex 𝓡) (anti Q P)) ∙ (complex 𝓡).one_mul k)
            ∙ (complex 𝓡).mul_assoc g g k
            ∙ ap (◌*ᶜ◌ g) (sym (act_swapped Q P G b) ∙ product_acts 𝓡 Q P G b ∙ undone)
