-- A Pauli goes past a projection with an X part, before invnorm.
use Rattle.std.specs.Prelude.{◌≡◌, false, eqb}
use Rattle.std.proofs.Math.Path.{refl, sym, ap}
use Rattle.std.proofs.Common.{◌∙◌, arith}
use Prim.Native.Nat.{ℕ, suc, ◌+◌, ◌*◌, ◌%◌, ◌^◌, ◌≤◌, ◌<◌}
use Rattle.std.specs.Int.Bits.{bit_xor}
use Rattle.bitlaws.specs.Digit.{digit}
use Rattle.bitlaws.specs.Bitwise.{digit_xor}
use Rattle.bitlaws.specs.Xor.{xor_assoc, xor_lt, xor_twice}
use Rattle.bitlaws.specs.Opening.{open_bit, drop_bit}
use Rattle.bitlaws.proofs.Opening.{open_lt}
use Rattle.bitlaws.specs.Parity.{overlap, overlap_comm}
use Rattle.bitlaws.proofs.Parity.{overlap_xor_l, overlap_xor_r}
use Rattle.bitlaws.proofs.Pivot.{overlap_open}
use Rattle.paulilaws.specs.Pauli.{Pauli, product, anti}
use Rattle.paulilaws.specs.Frame.{raised, dropped}
use Rattle.amplitudelaws.specs.Binary.{Point, binary}
use Rattle.amplitudelaws.specs.Projection.{projection_coefficient, remaining, remaining_by}
use Rattle.framelaws.specs.Carrying.{flipped}
use Rattle.framelaws.specs.Alike.{Finite}
use Rattle.framelaws.specs.Turning.{paired, mixed_pairing}
use Rattle.framelaws.specs.Framed.{Framed}
use Rattle.framelaws.proofs.Past.{partner}
use Rattle.framelaws.specs.Halves.{mixture, mixture_exchange}
use Rattle.framelaws.specs.Phases.{exponent, branch_parity, kept_sign, first_phase, second_phase}
use Rattle.framelaws.specs.Basis.{open_moves}

module _ (m p : ℕ) (Q M : Pauli) (v : ℕ) {F G : ℕ → Point} (fits : p ≤ m) (has-x : eqb M.x 0 ≡ false) (xs : M.x < 2 ^ suc m) (framed : Framed (suc m) Q F G) where
  -- the branch that Q leaves
  abbrev branch : ℕ
  branch = flipped Q M v

  -- the parities of Q's Z parts against M's X parts, and of its X parts against M's Z parts
  abbrev x : ℕ
  x = overlap Q.z M.x

  abbrev y : ℕ
  y = overlap Q.x M.z

  -- two amplitudes are read
  both : (v : ℕ) (F : ℕ → Point) (j : ℕ) → remaining binary M p v F j ≡ mixture M.k (v + overlap (open_bit p j) M.z) (F (open_bit p j)) (F (bit_xor (open_bit p j) M.x))
  unfolding remaining remaining_by
  both v F j = rw has-x

  branch_signs : (branch + x) % 2 ≡ (v + y) % 2
  unfolding flipped anti
  branch_signs = branch_parity v branch x y refl

  pub mixed_kept : digit p Q.x ≡ 0 → Framed m (dropped p Q) (remaining binary M p v F) (remaining binary M p branch G)
  unfolding dropped
  mixed_kept clear = record {
    at = λ j h.
        let b : ℕ = open_bit p j in
        let c : ℕ = bit_xor b M.x in
        let hb : b < 2 ^ suc m = open_lt p m fits j h in
        rw (both v F (bit_xor j (drop_bit p Q.x)), both branch G j, open_moves p j Q.x clear, ← overlap_open p j Q.z)
        (paired (mixed_pairing binary.h (projection_coefficient binary M.k)) (Q.k + 2 * overlap b Q.z) (Q.k + 2 * overlap c Q.z) (overlap M.x Q.z)
        (v + overlap (bit_xor b Q.x) M.z) (branch + overlap b M.z) (G b) (G c) (framed.at b hb) (partner (suc m) Q framed M.x b xs hb)
        (omega (arith, overlap_xor_l b M.x Q.z))
        (rw (overlap_comm M.x Q.z)
        (kept_sign v branch x y (overlap b M.z) (overlap (bit_xor b Q.x) M.z) branch_signs (overlap_xor_l b Q.x M.z))));
  }

  pub mixed_absorbed : M.k ≤ 3 → M.k % 2 ≡ overlap M.x M.z → digit p M.x ≡ 1 → ((b : ℕ) → b < 2 ^ suc m → Finite (G b)) → digit p Q.x ≡ 1
      → Framed m (dropped p (raised (2 * branch) (product Q M))) (remaining binary M p v F) (remaining binary M p branch G)
  unfolding dropped raised product
  mixed_absorbed phase even set finite meets = record {
    at = λ j h.
        let b : ℕ = open_bit p j in
        let c : ℕ = bit_xor b M.x in
        let d : ℕ = bit_xor (bit_xor b Q.x) M.x in
        let hb : b < 2 ^ suc m = open_lt p m fits j h in
        let hc : c < 2 ^ suc m = xor_lt (suc m) b M.x hb xs in
        let clear : digit p (bit_xor Q.x M.x) ≡ 0 = omega (arith, digit_xor p Q.x M.x) in
        let opened : open_bit p (bit_xor j (drop_bit p (bit_xor Q.x M.x))) ≡ d
        = open_moves p j (bit_xor Q.x M.x) clear ∙ sym (xor_assoc b Q.x M.x) in
        let u : ℕ = overlap j (drop_bit p (bit_xor Q.z M.z)) in
        let sum : u ≡ (overlap b Q.z + overlap b M.z) % 2 = sym (overlap_open p j (bit_xor Q.z M.z)) ∙ overlap_xor_r b Q.z M.z in
        let moved : (overlap d M.z + M.k) % 2 ≡ (overlap b M.z + y) % 2
        = omega (arith, even, overlap_xor_l (bit_xor b Q.x) M.x M.z, overlap_xor_l b Q.x M.z) in
        let other : overlap c Q.z ≡ (overlap b Q.z + x) % 2
        = overlap_xor_l b M.x Q.z ∙ ap (λ (n : ℕ). (overlap b Q.z + n) % 2) (overlap_comm M.x Q.z) in
        rw (both v F (bit_xor j (drop_bit p (bit_xor Q.x M.x))), both branch G j, opened)
        (mixture_exchange M.k (v + overlap d M.z) (branch + overlap b M.z) (Q.k + 2 * overlap b Q.z) (Q.k + 2 * overlap c Q.z) (exponent Q.k M.k x branch u)
        (G b) (G c) phase (finite b hb) (finite c hc) (partner (suc m) Q framed M.x b xs hb) (rw (xor_twice (bit_xor b Q.x) M.x) (framed.at b hb))
        (second_phase Q.k M.k v branch x y u (overlap b Q.z) (overlap b M.z) (overlap d M.z) moved branch_signs sum)
        (first_phase Q.k M.k branch x u (overlap b Q.z) (overlap b M.z) (overlap c Q.z) other sum));
  }
