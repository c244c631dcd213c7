-- A sum over all basis states, by those that stand for a branch's coordinates.
use Rattle.std.specs.Prelude.{◌≡◌, ◌⊎◌, Bool, true, false, cond, eqb}
use Rattle.std.proofs.Math.Path.{refl}
use Rattle.std.proofs.Common.{sym, ap, ap₂, ◌∙◌, subst, inl, inr, ⊎_elim, arith, eq-eqb, ne_eqb}
use Prim.Native.Nat.{ℕ, suc, ◌+◌, ◌-◌, ◌%◌, ◌^◌, ◌≤◌, ◌<◌}
use Rattle.std.specs.Int.Bits.{bit_xor}
use Rattle.bitlaws.specs.Order.{le_or_lt}
use Rattle.bitlaws.specs.Digit.{digit, digit_lt}
use Rattle.bitlaws.specs.Bitwise.{digit_xor}
use Rattle.bitlaws.specs.Xor.{xor_lt, xor_twice}
use Rattle.bitlaws.specs.Parity.{overlap}
use Rattle.bitlaws.proofs.Parity.{overlap_lt}
use Rattle.bitlaws.specs.Opening.{open_bit, drop_bit}
use Rattle.bitlaws.proofs.Opening.{open_clear, drop_open, open_drop_clear, open_lt, drop_lt}
use Rattle.bitlaws.specs.Source.{source}
use Rattle.bitlaws.proofs.Source.{source_drop, source_only, source_lt}
use Rattle.paulilaws.specs.Pauli.{Pauli}
use Rattle.amplitudelaws.specs.Projection.{minus}
use Rattle.amplitudelaws.specs.Rows.{pivot_mask}
use Rattle.amplitudelaws.specs.Acting.{Measurable}
use Rattle.amplitudelaws.specs.Book.Ring.{Ring, ring, add_zero}
use Rattle.amplitudelaws.specs.Book.Signs.{parity}
use Rattle.amplitudelaws.specs.Book.Sum.{sum, sum_none, sum_one, sum_same, sum_add, sum_swap}
use Rattle.amplitudelaws.specs.Book.Operators.{stretch}
use Rattle.amplitudelaws.proofs.Book.Standing.{basis_read}

made : (e o : ℕ) → o < 2 → (e + o) % 2 ≡ 0 → o ≡ e % 2
made e o l q = omega arith

module _ {R : Type 0} (𝓡 : Ring R) where
  open 𝓡 use {add, mul, one}

  unit : (a : R) → a ≡ mul (mul one one) a
  unit a = simp ring

  -- two is the square of sqrt 2
  twice : (h a : R) → add (mul h h) (mul h h) ≡ one → add a a ≡ mul (mul (add h h) (add h h)) a
  twice h a half = ap₂ add (once a) (once a) ∙ moved
    where
      once : (a : R) → a ≡ mul (add (mul h h) (mul h h)) a
      once a = sym (ap (λ (q : R). mul q a) half ∙ 𝓡.one_mul a)

      moved : add (mul (add (mul h h) (mul h h)) a) (mul (add (mul h h) (mul h h)) a) ≡ mul (mul (add h h) (add h h)) a
      moved = simp ring

module _ {R : Type 0} (𝓡 : Ring R) where
  open 𝓡 use {add, mul, zero as nought, one}

  -- The same terms, counted otherwise, and those left out that are 0: `to` sends m numbers among n, `back` undoes it where f is not 0.
  sum_through : (m n : ℕ) (to back : ℕ → ℕ) (f : ℕ → R) → ((j : ℕ) → j < m → (to j < n) × (back (to j) ≡ j))
      → ((b : ℕ) → b < n → (f b ≡ nought) ⊎ ((back b < m) × (to (back b) ≡ b))) → sum 𝓡 n f ≡ sum 𝓡 m (λ j. f (to j))
  sum_through m n to back f there here =
      sum_same 𝓡 n f (λ b. sum 𝓡 m (λ j. at j b)) (λ b l. sym (⊎_elim
      (λ e. sum_none 𝓡 m (λ j. at j b) (λ j k. none b e (eqb b (to j))) ∙ sym e)
      (λ q. sum_one 𝓡 m (back b) (λ j. at j b) q.0 (λ j k ne. other j b (λ e. ne (sym (there j k).1 ∙ ap back (sym e)))) ∙ same (back b) b (sym q.1))
      (here b l)))
      ∙ sym (sum_swap 𝓡 m n at)
      ∙ sum_same 𝓡 m (λ j. sum 𝓡 n (at j)) (λ j. f (to j)) (λ j k. sum_one 𝓡 n (to j) (at j) (there j k).0 (λ b l ne. other j b ne) ∙ same j (to j) refl)
    where
      at : ℕ → ℕ → R
      at j b = cond (eqb b (to j)) (f b) nought

      none : (b : ℕ) → f b ≡ nought → (t : Bool) → cond t (f b) nought ≡ nought
      none b e true = e
      none b e false = refl

      same : (j b : ℕ) → b ≡ to j → at j b ≡ f b
      same j b e = ap (λ (t : Bool). cond t (f b) nought) (eq-eqb b (to j) e)

      other : (j b : ℕ) → (b ≡ to j → ⊥) → at j b ≡ nought
      other j b ne = ap (λ (t : Bool). cond t (f b) nought) (ne_eqb b (to j) ne)

  sum_xor : (n x : ℕ) (f : ℕ → R) → x < 2 ^ n → sum 𝓡 (2 ^ n) (λ b. f (bit_xor b x)) ≡ sum 𝓡 (2 ^ n) f
  sum_xor n x f hx = sym (sum_through (2 ^ n) (2 ^ n) (λ b. bit_xor b x) (λ b. bit_xor b x) f paired (λ b l. inr (paired b l)))
    where
      paired : (b : ℕ) → b < 2 ^ n → (bit_xor b x < 2 ^ n) × (bit_xor (bit_xor b x) x ≡ b)
      paired b l = (xor_lt n b x l hx, xor_twice b x)

  -- Halves of all basis states of n qubits and the pivot p. Where z has the pivot: those whose parity with z is e's, if f is 0 at the others.
  sum_source : (n p z e : ℕ) (f : ℕ → R) → p ≤ n → digit p z ≡ 1 → ((b : ℕ) → b < 2 ^ suc n → (e + overlap b z) % 2 ≡ 1 → f b ≡ nought)
      → sum 𝓡 (2 ^ suc n) f ≡ sum 𝓡 (2 ^ n) (λ j. f (source p z e j))
  sum_source n p z e f fits set none =
      sum_through (2 ^ n) (2 ^ suc n) (source p z e) (drop_bit p) f (λ j k. (source_lt p z e j n fits k, source_drop p z e j))
      (λ b l. ⊎_elim
      (λ q. inr (drop_lt p n fits b l, sym (source_only p z e (drop_bit p b) b set refl (made e (overlap b z) (overlap_lt b z) q))))
      (λ q. inl (none b l q))
      (parity (e + overlap b z)))

  -- Where x has the pivot: those whose pivot is 0, if f is the same at b and b xor x.
  sum_open : (n p x : ℕ) (f : ℕ → R) → p ≤ n → x < 2 ^ suc n → digit p x ≡ 1 → ((b : ℕ) → b < 2 ^ suc n → f (bit_xor b x) ≡ f b)
      → sum 𝓡 (2 ^ suc n) f ≡ add (sum 𝓡 (2 ^ n) (λ j. f (open_bit p j))) (sum 𝓡 (2 ^ n) (λ j. f (open_bit p j)))
  sum_open n p x f fits hx set same =
      sum_same 𝓡 (2 ^ suc n) f (λ b. add (low b) (low (bit_xor b x))) (λ b l. ⊎_elim (clear b) (full b l) (either b))
      ∙ sum_add 𝓡 (2 ^ suc n) low (λ b. low (bit_xor b x))
      ∙ ap₂ add lower (sum_xor (suc n) x low hx ∙ lower)
    where
      -- f where the pivot is 0
      low : ℕ → R
      low b = cond (eqb (digit p b) 0) (f b) nought

      either : (b : ℕ) → (digit p b ≡ 0) ⊎ (digit p b ≡ 1)
      either b = ⊎_elim (λ l. inl (omega arith)) (λ l. inr (omega (arith, digit_lt p b))) (le_or_lt (digit p b) 0)

      flip : (b : ℕ) → digit p (bit_xor b x) ≡ (digit p b + 1) % 2
      flip b = digit_xor p b x ∙ ap (λ (m : ℕ). (digit p b + m) % 2) set

      clear : (b : ℕ) → digit p b ≡ 0 → f b ≡ add (low b) (low (bit_xor b x))
      clear b e = rw (flip b, e) (sym (add_zero 𝓡 (f b)))

      full : (b : ℕ) → b < 2 ^ suc n → digit p b ≡ 1 → f b ≡ add (low b) (low (bit_xor b x))
      full b l e = rw (flip b, e) (sym (𝓡.zero_add (f (bit_xor b x)) ∙ same b l))

      lower : sum 𝓡 (2 ^ suc n) low ≡ sum 𝓡 (2 ^ n) (λ j. f (open_bit p j))
      lower =
          sum_through (2 ^ n) (2 ^ suc n) (open_bit p) (drop_bit p) low (λ j k. (open_lt p n fits j k, drop_open p j))
          (λ b l. ⊎_elim (λ e. inr (drop_lt p n fits b l, open_drop_clear p b e)) (λ e. inl (rw e)) (either b))
          ∙ sum_same 𝓡 (2 ^ n) (λ j. low (open_bit p j)) (λ j. f (open_bit p j)) (λ j k. rw (open_clear p j))

  module _ (h : R) (half : add (mul h h) (mul h h) ≡ one) (M : Pauli) (p : ℕ) (proper : Measurable M p) where
    -- if f is 0 outside the branch where M is diagonal, else the same at b and b xor x
    pub halves : (v : ℕ) (f : ℕ → R)
        → (eqb M.x 0 ≡ true → (b : ℕ) → b < 2 ^ M.n → (minus M.k + v + overlap b M.z) % 2 ≡ 1 → f b ≡ nought)
        → (eqb M.x 0 ≡ false → (b : ℕ) → b < 2 ^ M.n → f (bit_xor b M.x) ≡ f b)
        → let d = eqb M.x 0 in sum 𝓡 (2 ^ M.n) f ≡ mul (mul (stretch 𝓡 h d) (stretch 𝓡 h d)) (sum 𝓡 (2 ^ (M.n - 1)) (λ j. f (basis_read d M p v j)))
    unfolding pivot_mask basis_read stretch
    halves v f none same = go (eqb M.x 0) refl proper.has
      where
        m : ℕ
        m = M.n - 1

        width : M.n ≡ suc m
        width = omega (arith, proper.inside)

        fits : p ≤ m
        fits = omega (arith, proper.inside)

        under : (b : ℕ) → b < 2 ^ suc m → b < 2 ^ M.n
        under b = subst (λ (n : ℕ). b < 2 ^ n) (sym width)

        go : (d : Bool) → eqb M.x 0 ≡ d → digit p (cond d M.z M.x) ≡ 1
            → sum 𝓡 (2 ^ M.n) f ≡ mul (mul (stretch 𝓡 h d) (stretch 𝓡 h d)) (sum 𝓡 (2 ^ m) (λ j. f (basis_read d M p v j)))
        go true e set =
            ap (λ (n : ℕ). sum 𝓡 (2 ^ n) f) width
            ∙ sum_source m p M.z (minus M.k + v) f fits set (λ b l. none e b (under b l))
            ∙ unit 𝓡 (sum 𝓡 (2 ^ m) (λ j. f (source p M.z (minus M.k + v) j)))
        go false e set =
            ap (λ (n : ℕ). sum 𝓡 (2 ^ n) f) width
            ∙ sum_open m p M.x f fits (subst (λ (n : ℕ). M.x < 2 ^ n) width proper.fitting.xs) set (λ b l. same e b (under b l))
            ∙ twice 𝓡 h (sum 𝓡 (2 ^ m) (λ j. f (open_bit p j))) half
