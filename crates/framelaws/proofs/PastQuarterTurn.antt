-- A frame goes past a quarter turn of P: where Q and P anticommute, Q becomes P times Q and i^3, else it stays. As in a projection with an X
-- part the two halves of an amplitude change places, and the proof asks that both are finite, whatever P is. Where P has no X or no Z part the
-- formulas multiply no zero with the partner's amplitude, and no case was seen that needs it; that is not proved.
use Rattle.std.specs.Prelude.{◌≡◌, Bool}
use Rattle.std.proofs.Math.Path.{refl, sym, ap}
use Rattle.std.proofs.Common.{◌∙◌, eqb-true}
use Rattle.std.proofs.Math.Bool.{true, false}
use Prim.Native.Nat.{ℕ, ◌+◌, ◌*◌, ◌%◌, ◌^◌, ◌<◌}
use native.Mathlib.Omega.{arith}
use Rattle.std.specs.Int.Bits.{bit_xor}
use Rattle.std.proofs.Math.Dec.{eqb}
use Rattle.bitlaws.specs.Digit.{mod_two, not_one}
use Rattle.bitlaws.specs.Parity.{overlap, overlap_comm}
use Rattle.bitlaws.proofs.Parity.{overlap_xor_l, overlap_xor_r}
use Rattle.bitlaws.specs.Xor.{xor_lt, xor_assoc, xor_twice, xor_swap}
use Rattle.paulilaws.specs.Pauli.{Pauli, product, anti, hermitian}
use Rattle.paulilaws.proofs.Algebra.{hermitian_parity}
use Rattle.paulilaws.specs.Fitting.{Fitting}
use Rattle.paulilaws.specs.Frame.{raised}
use Rattle.amplitudelaws.specs.Binary.{Point, binary}
use Rattle.amplitudelaws.specs.Rotation.{rotated}
use Rattle.framelaws.specs.Carrying.{flipped, turned_by, turned_past}
use Rattle.framelaws.specs.Alike.{Alike, alike_sym, alike_trans, Finite, finite_alike}
use Rattle.framelaws.specs.Turns.{turns, alike_turns, finite_turns}
use Rattle.framelaws.specs.Halves.{halves_exchange}
use Rattle.framelaws.specs.Phases.{turned_exponent, turned_first, turned_second}
use Rattle.framelaws.specs.Framed.{Framed}
use Rattle.framelaws.proofs.Past.{past_rotation}
use Rattle.framelaws.specs.TurnedHalves.{quarter_turn_halves}

module _ (n : ℕ) (Q P : Pauli) {F G : ℕ → Point} (fitting : Fitting P) (width : P.n ≡ n) (real : hermitian P ≡ true)
    (finite : (b : ℕ) → b < 2 ^ n → Finite (G b)) (w : Framed n Q F G) where
  -- the formula
  abbrev turned : (ℕ → Point) → ℕ → Point
  turned = rotated binary P 0 binary.h binary.h

  xs : P.x < 2 ^ n
  xs = rw width at fitting.xs

  even : P.k % 2 ≡ overlap P.x P.z
  even = hermitian_parity P real

  -- the parity of Q's X parts against P's Z parts
  abbrev s : ℕ
  s = overlap Q.x P.z

  -- The new frame takes what is turned of F at d to what is turned of G at b. Its halves are F's amplitudes at d and at d's partner, which the old
  -- frame takes to G's at b's partner o and at b.
  frame_turned : anti Q P ≡ 1 → Framed n (turned_by true P Q) (turned F) (turned G)
  unfolding turned_by raised product anti
  frame_turned odd = record {
    at = λ b hb.
        let o : ℕ = bit_xor b P.x in
        let d : ℕ = bit_xor b (bit_xor P.x Q.x) in
        let ho : o < 2 ^ n = xor_lt n b P.x hb xs in
        let there : d ≡ bit_xor o Q.x = sym (xor_assoc b P.x Q.x) in
        let back : bit_xor d P.x ≡ bit_xor b Q.x
        = ap (λ (m : ℕ). bit_xor m P.x) (there ∙ xor_swap b P.x Q.x) ∙ xor_twice (bit_xor b Q.x) P.x in
        let g : ℕ = Q.k + 2 * overlap o Q.z in
        let h : ℕ = Q.k + 2 * overlap b Q.z in
        let first : Alike (F d) (turns g (G o)) = rw there (w.at o ho) in
        let second : Alike (F (bit_xor d P.x)) (turns h (G b)) = rw back (w.at b hb) in
        let u : ℕ = overlap b (bit_xor P.z Q.z) in
        let e : ℕ = turned_exponent P.k Q.k (overlap P.z Q.x) u in
        let t : ℕ = 2 * overlap (bit_xor d P.x) P.z + (3 + P.k) in
        let t' : ℕ = 2 * overlap o P.z + (3 + P.k) in
        let sum : u ≡ (overlap b Q.z + overlap b P.z) % 2 = overlap_xor_r b P.z Q.z ∙ omega arith in
        let moved : overlap (bit_xor d P.x) P.z ≡ (overlap b P.z + s) % 2 = rw back (overlap_xor_l b Q.x P.z) in
        let one : (t + h) % 4 ≡ e % 4
        = rw (overlap_comm P.z Q.x)
        (turned_second P.k Q.k s u (overlap b Q.z) (overlap b P.z) (overlap (bit_xor d P.x) P.z) moved sum) in
        let two : g % 4 ≡ (e + t') % 4
        = rw (overlap_comm P.z Q.x)
        (turned_first P.k Q.k s (overlap P.x Q.z) (overlap P.x P.z) u
        (overlap b Q.z) (overlap b P.z) (overlap o Q.z) (overlap o P.z) even (rw (overlap_comm P.x Q.z) odd) (overlap_xor_l b P.x Q.z) (overlap_xor_l b P.x P.z) sum) in
        alike_trans (quarter_turn_halves P fitting.phase even F d (finite_alike second (finite_turns h (G b) (finite b hb))))
        (alike_trans (halves_exchange t t' h g e (G b) (G o) first second one two)
        (alike_turns e (alike_sym (quarter_turn_halves P fitting.phase even G b (finite o ho)))));
  }

  -- a rotation whose sign stays 0
  frame_kept : anti Q P ≡ 0 → Framed n (turned_by false P Q) (turned F) (turned G)
  unfolding turned_by
  frame_kept none = rw (kept none) at (past_rotation n Q P 0 binary.h binary.h xs w)
    where
      kept : anti Q P ≡ 0 → flipped Q P 0 ≡ 0
      kept none = unfold flipped in rw none

  pub past_quarter_turn : Framed n (turned_past Q P) (turned F) (turned G)
  unfolding turned_past
  past_quarter_turn = go (eqb (anti Q P) 1) refl
    where
      go : (t : Bool) → eqb (anti Q P) 1 ≡ t → Framed n (turned_by t P Q) (turned F) (turned G)
      go true e = frame_turned (eqb-true (anti Q P) 1 e)
      go false e = frame_kept (not_one (anti Q P) (unfold anti in mod_two _) e)
