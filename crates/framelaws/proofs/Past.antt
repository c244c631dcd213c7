-- A frame goes past a correction, a rotation and a promotion, and what a correction has to do with a frame. Nothing need be finite.
use Rattle.std.specs.Prelude.{◌≡◌, Bool, T, eqb, Float}
use Rattle.std.proofs.Math.Path.{ap}
use Rattle.std.proofs.Common.{◌∙◌, ⊎_elim, add-zero, pow-suc, arith, eqb→eq}
use Rattle.std.proofs.Math.Bool.{true, false}
use Prim.Native.Nat.{ℕ, suc, ◌+◌, ◌-◌, ◌*◌, ◌%◌, ◌^◌, ◌≤◌, ◌<◌}
use Rattle.std.specs.Int.Bits.{bit_xor}
use Rattle.bitlaws.specs.Order.{le_or_lt}
use Rattle.bitlaws.specs.Parity.{overlap, overlap_comm}
use Rattle.bitlaws.proofs.Parity.{overlap_zero_r, overlap_xor_l}
use Rattle.bitlaws.proofs.Pivot.{xor_upper, overlap_upper}
use Rattle.bitlaws.specs.Xor.{xor_lt, xor_swap, xor_twice}
use Rattle.paulilaws.specs.Pauli.{Pauli, anti}
use Rattle.paulilaws.specs.Frame.{raised}
use Rattle.amplitudelaws.specs.Arithmetic.{negated}
use Rattle.amplitudelaws.specs.Binary.{Point, binary}
use Rattle.amplitudelaws.specs.Rotation.{rotation_coefficient, rotated_by, rotated}
use Rattle.amplitudelaws.specs.Promotion.{promoted, promoted_low}
use Rattle.amplitudelaws.proofs.Promotion.{promoted_high}
use Rattle.amplitudelaws.specs.Correction.{corrected}
use Rattle.framelaws.specs.Carrying.{flipped, widened}
use Rattle.framelaws.specs.Alike.{Alike, alike_trans, alike_eq}
use Rattle.framelaws.specs.Turns.{turns, turns_turns, times_power_turns, alike_turns}
use Rattle.framelaws.specs.Turning.{steady, paired, scale_steady, raised_steady, rotated_alone_steady, rotated_with_pairing, mixed_pairing}
use Rattle.framelaws.specs.Framed.{Framed}

pub corrected_turns : (P : Pauli) (F : ℕ → Point) (b : ℕ)
    → corrected binary P F b ≡ turns (P.k + 2 * overlap (bit_xor b P.x) P.z) (F (bit_xor b P.x))
unfolding corrected
corrected_turns P F b = times_power_turns (P.k + 2 * overlap (bit_xor b P.x) P.z) (F (bit_xor b P.x))

-- ---- Q fired as a correction is the frame Q

pub framed_corrected : (n : ℕ) (Q : Pauli) (G : ℕ → Point) → Framed n Q (corrected binary Q G) G
framed_corrected n Q G = record {
  at = λ b hb. alike_eq (corrected_turns Q G (bit_xor b Q.x) ∙ rw (xor_twice b Q.x));
}

pub corrected_framed : (n : ℕ) (Q : Pauli) {F G : ℕ → Point} → Q.x < 2 ^ n → Framed n Q F G → (b : ℕ) → b < 2 ^ n → Alike (F b) (corrected binary Q G b)
corrected_framed n Q {F} {G} hx w b hb = rw (corrected_turns Q G b) (rw (xor_twice b Q.x) at (w.at (bit_xor b Q.x) (xor_lt n b Q.x hb hx)))

-- ---- past the steps

-- where the frame takes the partner of b
pub partner : (n : ℕ) (Q : Pauli) {F G : ℕ → Point} → Framed n Q F G → (x b : ℕ) → x < 2 ^ n → b < 2 ^ n
    → Alike (F (bit_xor (bit_xor b Q.x) x)) (turns (Q.k + 2 * overlap (bit_xor b x) Q.z) (G (bit_xor b x)))
partner n Q w x b hx hb = rw (xor_swap b Q.x x) (w.at (bit_xor b x) (xor_lt n b x hb hx))

-- the parity at a partner in the frame: the partner's, and the frame's
partner_parity : (b q x z : ℕ) → overlap (bit_xor (bit_xor b q) x) z ≡ (overlap (bit_xor b x) z + overlap q z) % 2
partner_parity b q x z = rw (xor_swap b q x) (overlap_xor_l (bit_xor b x) q z)

-- the exponents of i on either side of a correction by P: u and v are the overlaps of Q's and P's Z parts with a basis, s that of Q's X part
-- with P's Z part, t that of P's X part with Q's Z part
exchanged : (k q u v s t : ℕ) → (k + 2 * ((v + s) % 2) + (q + 2 * ((u + t) % 2))) % 4 ≡ ((q + 2 * ((s + t) % 2)) % 4 + 2 * u + (k + 2 * v)) % 4
exchanged k q u v s t = omega arith

pub past_correction : (n : ℕ) (Q P : Pauli) {F G : ℕ → Point} → P.x < 2 ^ n → Framed n Q F G
    → Framed n (raised (2 * anti Q P) Q) (corrected binary P F) (corrected binary P G)
unfolding raised anti
past_correction n Q P {F} {G} hx w = record {
  at = λ b hb.
      let o : ℕ = bit_xor b P.x in
      let e : ℕ = P.k + 2 * overlap (bit_xor (bit_xor b Q.x) P.x) P.z in
      rw (corrected_turns P F (bit_xor b Q.x), corrected_turns P G b)
      (alike_trans (alike_turns e (partner n Q w P.x b hx hb))
      (alike_eq (turns_turns e (Q.k + 2 * overlap o Q.z) ((Q.k + 2 * anti Q P) % 4 + 2 * overlap b Q.z) (P.k + 2 * overlap o P.z) (G o)
      (rw (partner_parity b Q.x P.x P.z, overlap_xor_l b P.x Q.z, overlap_comm Q.z P.x)
      (exchanged P.k Q.k (overlap b Q.z) (overlap o P.z) (overlap Q.x P.z) (overlap P.x Q.z))))));
}

-- and the signs on either side of a rotation
flips_sign : (sign v s t : ℕ) → (sign + (v + s) % 2 + t) % 2 ≡ ((sign + (s + t) % 2) % 2 + v) % 2
flips_sign sign v s t = omega arith

module _ (n : ℕ) (Q P : Pauli) (sign : ℕ) (c : Float) (m : Point) {F G : ℕ → Point} (hx : P.x < 2 ^ n) (w : Framed n Q F G) where
  -- the three cases of a rotation
  by_masks : (t u : Bool) → (T t → P.x ≡ 0) → (T u → P.z ≡ 0)
      → Framed n Q (rotated_by binary t u P.x P.z sign c m F) (rotated_by binary t u P.x P.z (flipped Q P sign) c m G)
  unfolding rotated_by flipped anti
  by_masks true u flat h = record {
    at = λ b hb.
        let v : ℕ = overlap b P.z in
        let s : ℕ = overlap Q.x P.z in
        let signs : (sign + overlap (bit_xor b Q.x) P.z) % 2 ≡ (flipped Q P sign + v) % 2
        = rw (overlap_xor_l b Q.x P.z, flat tt, overlap_zero_r Q.z) (rw (add-zero (sign + (v + s) % 2)) at (flips_sign sign v s 0)) in
        rw signs (steady (rotated_alone_steady c (negated binary (eqb ((flipped Q P sign + v) % 2) 1) m)) (Q.k + 2 * overlap b Q.z) (G b) (w.at b hb));
  }
  by_masks false true h flat = record {
    at = λ b hb.
        let o : ℕ = bit_xor b P.x in
        paired (rotated_with_pairing c m) (Q.k + 2 * overlap b Q.z) (Q.k + 2 * overlap o Q.z) (overlap P.x Q.z) sign (flipped Q P sign)
        (G b) (G o) (w.at b hb) (partner n Q w P.x b hx hb)
        (omega (arith, overlap_xor_l b P.x Q.z))
        (omega (arith, overlap_comm Q.z P.x, ap (overlap Q.x) (flat tt) ∙ overlap_zero_r Q.x));
  }
  by_masks false false h k = record {
    at = λ b hb.
        let o : ℕ = bit_xor b P.x in
        paired (mixed_pairing c m) (Q.k + 2 * overlap b Q.z) (Q.k + 2 * overlap o Q.z) (overlap P.x Q.z)
        (sign + overlap (bit_xor (bit_xor b Q.x) P.x) P.z) (flipped Q P sign + overlap o P.z)
        (G b) (G o) (w.at b hb) (partner n Q w P.x b hx hb)
        (omega (arith, overlap_xor_l b P.x Q.z))
        (rw (partner_parity b Q.x P.x P.z, overlap_comm Q.z P.x)
        (flips_sign sign (overlap o P.z) (overlap Q.x P.z) (overlap P.x Q.z)));
  }

pub past_rotation : (n : ℕ) (Q P : Pauli) (sign : ℕ) (c s : Float) {F G : ℕ → Point} → P.x < 2 ^ n → Framed n Q F G
    → Framed n Q (rotated binary P sign c s F) (rotated binary P (flipped Q P sign) c s G)
unfolding rotated
past_rotation n Q P sign c s hx w =
    by_masks n Q P sign c (rotation_coefficient binary P.k s) hx w (eqb P.x 0) (eqb P.z 0) (eqb→eq P.x 0) (eqb→eq P.z 0)

pub past_promotion : (n : ℕ) (Q : Pauli) (c q : Float) {F G : ℕ → Point} → Q.x < 2 ^ n → Q.z < 2 ^ n → Framed n Q F G
    → Framed (suc n) (widened Q) (promoted binary n c q F) (promoted binary n c q G)
unfolding widened
past_promotion n Q c q {F} {G} hx hz w = record {
  at = λ b hb. ⊎_elim
      (λ (h : 2 ^ n ≤ b).
      let r : ℕ = b - 2 ^ n in
      let hr : r < 2 ^ n = omega (arith, pow-suc 2 n) in
      let e : b ≡ 2 ^ n + r = omega arith in
      rw (e, xor_upper n r Q.x hr hx, overlap_upper n r Q.z hr hz, promoted_high binary n c q F (bit_xor r Q.x), promoted_high binary n c q G r)
      (steady (raised_steady q) (Q.k + 2 * overlap r Q.z) (G r) (w.at r hr)))
      (λ (h : b < 2 ^ n).
      rw (promoted_low binary n c q F (bit_xor b Q.x) (xor_lt n b Q.x h hx), promoted_low binary n c q G b h)
      (steady (scale_steady c) (Q.k + 2 * overlap b Q.z) (G b) (w.at b h)))
      (le_or_lt (2 ^ n) b);
}
