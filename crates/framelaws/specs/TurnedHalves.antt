-- The formulas of a quarter turn of P, a rotation whose c and s are both 1 / sqrt 2: the three are one where the amplitude of the partner is
-- finite. Each amplitude is the sum of two, scaled alike by 1 / sqrt 2, the second turned.
use Rattle.std.specs.Prelude.{◌≡◌, refl, Bool, eqb, Float}
use Rattle.std.proofs.Common.{sym, ◌∙◌, arith, eqb→eq}
use Rattle.std.proofs.Math.Path.{ap}
use Rattle.std.proofs.Math.Bool.{true, false}
use Prim.Native.Nat.{ℕ, zero, suc, ◌+◌, ◌*◌, ◌%◌, ◌≤◌}
use Rattle.std.specs.Int.Bits.{bit_xor, xor_zero_r}
use Rattle.std.proofs.Math.Dec.{T}
use Rattle.std.specs.Float.{binary64}
use Rattle.std.specs.Float.Ieee.{of_bits, neg, add, sub, mul, fits}
use Rattle.std.specs.Float.Ieee.Fits.{mul-fits}
use Rattle.std.specs.Float.Ieee.Scale.{finite}
use Rattle.bitlaws.specs.Digit.{by_digit, mod_two}
use Rattle.bitlaws.specs.Parity.{overlap}
use Rattle.bitlaws.proofs.Parity.{overlap_zero_l, overlap_zero_r}
use Rattle.floatlaws.specs.Same.{Same, same, same_sym, is_zero}
use Rattle.floatlaws.proofs.Sum.{zero_neg, same_add, same_sub}
use Rattle.floatlaws.proofs.Product.{same_mul, mul_zero_left}
use Rattle.floatlaws.proofs.Fit.{add_none_right}
use Rattle.paulilaws.specs.Pauli.{Pauli}
use Rattle.amplitudelaws.specs.Arithmetic.{power, times, direction, negated, scale, mixed}
use Rattle.amplitudelaws.specs.Binary.{Point, binary}
use Rattle.amplitudelaws.specs.Rotation.{rotation_coefficient, rotated_alone, rotated_with, rotated_by, rotated}
use Rattle.framelaws.specs.Alike.{Alike, alike_trans, alike_eq, Finite}
use Rattle.framelaws.specs.Turns.{turns, turns_add, turns_mod, alike_turns}
use Rattle.framelaws.specs.Halves.{root, direction_turns, halves, mixed_halves}

-- ---- the coefficient is 1 / sqrt 2, turned

abbrev coefficient : ℕ → Point
coefficient k = rotation_coefficient binary k binary.h

coefficient_turns : (k : ℕ) → k ≤ 3 → Alike (coefficient k) (turns (3 + k) root)
unfolding rotation_coefficient times power mul add sub neg of_bits
coefficient_turns zero h = record { res = record { plainly = refl }; ims = record { plainly = refl } }
coefficient_turns (suc zero) h = record { res = record { plainly = refl }; ims = record { plainly = refl } }
coefficient_turns (suc (suc zero)) h = record { res = record { plainly = refl }; ims = record { plainly = refl } }
coefficient_turns (suc (suc (suc zero))) h = record { res = record { plainly = refl }; ims = record { plainly = refl } }
coefficient_turns (suc (suc (suc (suc k)))) h = absurd (omega arith)

-- imaginary for a phase that is even
coefficient_imaginary : (k : ℕ) → k ≤ 3 → k % 2 ≡ 0 → T (is_zero (coefficient k).re)
unfolding rotation_coefficient times power mul add sub neg of_bits
coefficient_imaginary zero h e = tt
coefficient_imaginary (suc zero) h e = absurd (omega arith)
coefficient_imaginary (suc (suc zero)) h e = tt
coefficient_imaginary (suc (suc (suc zero))) h e = absurd (omega arith)
coefficient_imaginary (suc (suc (suc (suc k)))) h e = absurd (omega arith)

coefficient_fits : (k : ℕ) → k ≤ 3 → T (fits binary64 (coefficient k).re) × T (fits binary64 (coefficient k).im)
unfolding rotation_coefficient times power mul add sub neg of_bits fits
coefficient_fits zero h = (tt, tt)
coefficient_fits (suc zero) h = (tt, tt)
coefficient_fits (suc (suc zero)) h = (tt, tt)
coefficient_fits (suc (suc (suc zero))) h = (tt, tt)
coefficient_fits (suc (suc (suc (suc k)))) h = absurd (omega arith)

-- with a sign that is -1 where a is odd, in either way of giving it one
signed_turns : (a k : ℕ) {u : Point} → k ≤ 3 → Alike u (turns (2 * a) (coefficient k)) → Alike u (turns (2 * a + (3 + k)) root)
signed_turns a k h e =
    alike_trans e (alike_trans (alike_turns (2 * a) (coefficient_turns k h)) (alike_eq (sym (turns_add (2 * a) (3 + k) root))))

scaled_turns : (a k : ℕ) → k ≤ 3 → Alike (scale binary (direction binary a) (coefficient k)) (turns (2 * a + (3 + k)) root)
scaled_turns a k h = signed_turns a k h (direction_turns a (coefficient k) (coefficient_fits k h).0 (coefficient_fits k h).1)

negated_turns : (a k : ℕ) → k ≤ 3 → Alike (negated binary (eqb (a % 2) 1) (coefficient k)) (turns (2 * a + (3 + k)) root)
unfolding negated
negated_turns a k h = signed_turns a k h (alike_eq (negated_is a (coefficient k)))
  where
    negated_is : (a : ℕ) (u : Point) → negated binary (eqb (a % 2) 1) u ≡ turns (2 * a) u
    negated_is a u =
        by_digit (λ d. negated binary (eqb d 1) u ≡ turns (2 * d) u) refl refl (a % 2) (mod_two a)
        ∙ turns_mod (2 * (a % 2)) (2 * a) u (omega arith)

negated_imaginary : (t : Bool) (u : Point) → T (is_zero u.re) → T (is_zero (negated binary t u).re)
unfolding negated
negated_imaginary true u h = zero_neg u.re h
negated_imaginary false u h = h

-- ---- the formulas of a Pauli without an X part, and of one without a Z part, where the coefficient t is imaginary

-- the terms with its real part are zeros
with_mixed : (c : Float) (t p q : Point) → T (is_zero t.re) → Finite q → Alike (rotated_with binary c t p q) (mixed binary c t p q)
unfolding rotated_with mixed
with_mixed c t p q z f = record {
  res = same_sub binary64 (same_sym (unchanged p.re q.re f.0)) same;
  ims = same_add binary64 (same_sym (unchanged p.im q.im f.1)) same;
}
  where
    unchanged : (x y : Float) → T (finite y)
        → Same (add binary64 (mul binary64 c x) (mul binary64 t.re y)) (mul binary64 c x)
    unchanged x y h = add_none_right binary64 (mul binary64 c x) (mul binary64 t.re y) (mul-fits binary64 c x) (mul_zero_left binary64 t.re y z h)

alone_with : (c : Float) (t p : Point) → T (fits binary64 c) → T (is_zero t.re) → Alike (rotated_alone binary c t p) (rotated_with binary c t p p)
unfolding rotated_alone rotated_with
alone_with c t p h z =
    let plus : Same (add binary64 c t.re) c = add_none_right binary64 c t.re h z in
    record {
      res = same_sub binary64 (same_mul binary64 plus same) same;
      ims = same_add binary64 (same_mul binary64 plus same) same;
    }

root_fits : T (fits binary64 binary.h)
unfolding of_bits fits
root_fits = tt

-- ---- the three formulas

module _ (P : Pauli) (phase : P.k ≤ 3) (even : P.k % 2 ≡ overlap P.x P.z) (F : ℕ → Point) (b : ℕ) where
  abbrev m : Point
  m = coefficient P.k

  abbrev o : ℕ
  o = bit_xor b P.x

  -- the exponent of i in front of the partner
  abbrev partner_exponent : ℕ
  partner_exponent = 2 * overlap o P.z + (3 + P.k)

  by_masks : (t u : Bool) → (T t → P.x ≡ 0) → (T u → P.z ≡ 0) → Finite (F o)
      → Alike (rotated_by binary t u P.x P.z 0 binary.h m F b) (halves (F b) (turns partner_exponent (F o)))
  unfolding rotated_by
  by_masks true u flat h f =
      let a : ℕ = 0 + overlap b P.z in
      let v : Point = negated binary (eqb (a % 2) 1) m in
      let here : o ≡ b = ap (bit_xor b) (flat tt) ∙ xor_zero_r b in
      let even-phase : P.k % 2 ≡ 0 = even ∙ ap (λ (x : ℕ). overlap x P.z) (flat tt) ∙ overlap_zero_l P.z in
      let z : T (is_zero v.re) = negated_imaginary (eqb (a % 2) 1) m (coefficient_imaginary P.k phase even-phase) in
      let g : Finite (F b) = rw here at f in
      rw here
      (alike_trans (alone_with binary.h v (F b) root_fits z)
      (alike_trans (with_mixed binary.h v (F b) (F b) z g)
      (alike_trans (mixed_halves (2 * a + (3 + P.k)) v (F b) (F b) (negated_turns a P.k phase) g)
      (alike_eq (ap (λ (n : ℕ). halves (F b) (turns (2 * n + (3 + P.k)) (F b))) (omega arith))))))
  by_masks false true h flat f =
      let v : Point = negated binary (eqb (0 % 2) 1) m in
      let even-phase : P.k % 2 ≡ 0 = even ∙ ap (overlap P.x) (flat tt) ∙ overlap_zero_r P.x in
      let z : T (is_zero v.re) = negated_imaginary (eqb (0 % 2) 1) m (coefficient_imaginary P.k phase even-phase) in
      let none : overlap o P.z ≡ 0 = ap (overlap o) (flat tt) ∙ overlap_zero_r o in
      rw none
      (alike_trans (with_mixed binary.h v (F b) (F o) z f)
      (mixed_halves (2 * 0 + (3 + P.k)) v (F b) (F o) (negated_turns 0 P.k phase) f))
  by_masks false false h k f =
      let a : ℕ = 0 + overlap o P.z in
      alike_trans (mixed_halves (2 * a + (3 + P.k)) (scale binary (direction binary a) m) (F b) (F o) (scaled_turns a P.k phase) f)
      (alike_eq (ap (λ (n : ℕ). halves (F b) (turns (2 * n + (3 + P.k)) (F o))) (omega arith)))

  pub quarter_turn_halves : Finite (F o) → Alike (rotated binary P 0 binary.h binary.h F b) (halves (F b) (turns partner_exponent (F o)))
  unfolding rotated
  quarter_turn_halves f = by_masks (eqb P.x 0) (eqb P.z 0) (eqb→eq P.x 0) (eqb→eq P.z 0) f
