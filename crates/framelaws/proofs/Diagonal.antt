-- A Pauli goes past a projection without an X part, before invnorm.
use Rattle.std.specs.Prelude.{◌≡◌, refl}
use Rattle.std.proofs.Math.Path.{sym, ap}
use Rattle.std.proofs.Common.{◌∙◌, arith, eq-eqb}
use Prim.Native.Nat.{ℕ, zero, suc, ◌+◌, ◌*◌, ◌%◌, ◌^◌, ◌≤◌, ◌<◌}
use Rattle.std.specs.Int.Bits.{bit_xor, xor_zero_r}
use Rattle.bitlaws.specs.Digit.{digit}
use Rattle.bitlaws.specs.Bitwise.{digit_xor}
use Rattle.bitlaws.specs.Opening.{drop_bit}
use Rattle.bitlaws.specs.Parity.{overlap}
use Rattle.bitlaws.proofs.Parity.{overlap_xor_r, overlap_zero_l, overlap_zero_r}
use Rattle.bitlaws.specs.Source.{source}
use Rattle.bitlaws.proofs.Source.{source_parity, source_lt}
use Rattle.paulilaws.specs.Pauli.{Pauli, product, anti}
use Rattle.paulilaws.specs.Frame.{raised, dropped}
use Rattle.amplitudelaws.specs.Binary.{Point, binary}
use Rattle.amplitudelaws.specs.Projection.{minus, remaining, remaining_by}
use Rattle.framelaws.specs.Carrying.{flipped}
use Rattle.framelaws.specs.Alike.{Alike, alike_trans, alike_eq}
use Rattle.framelaws.specs.Turns.{turns, turns_mod}
use Rattle.framelaws.specs.Framed.{Framed}
use Rattle.framelaws.specs.Phases.{exponent, diagonal_phase}
use Rattle.framelaws.specs.Basis.{source_clear, source_moves}

-- the phase of a Hermitian Pauli without an X part is 0 or 2
minus_phase : (k : ℕ) → k ≤ 3 → k % 2 ≡ 0 → 2 * minus k ≡ k
unfolding minus
minus_phase zero h e = refl
minus_phase (suc zero) h e = absurd (omega arith)
minus_phase (suc (suc zero)) h e = refl
minus_phase (suc (suc (suc zero))) h e = absurd (omega arith)
minus_phase (suc (suc (suc (suc k)))) h e = absurd (omega arith)

module _ (m p : ℕ) (Q M : Pauli) (v : ℕ) {F G : ℕ → Point} (fits : p ≤ m) (no-x : M.x ≡ 0) (set : digit p M.z ≡ 1) (framed : Framed (suc m) Q F G) where
  -- the branch that Q leaves, and the basis read there
  abbrev branch : ℕ
  branch = flipped Q M v

  abbrev passing : ℕ → ℕ
  passing j = source p M.z (minus M.k + branch) j

  -- one amplitude is read
  alone : (v : ℕ) (F : ℕ → Point) (j : ℕ) → remaining binary M p v F j ≡ F (source p M.z (minus M.k + v) j)
  unfolding remaining remaining_by
  alone v F j = rw (eq-eqb M.x 0 no-x)

  no_parity : overlap Q.z M.x ≡ 0
  no_parity = ap (overlap Q.z) no-x ∙ overlap_zero_r Q.z

  branch_parity : (minus M.k + v + overlap Q.x M.z) % 2 ≡ (minus M.k + branch) % 2
  unfolding flipped anti
  branch_parity = omega (arith, no_parity)

  reads : (j : ℕ) → j < 2 ^ m
      → Alike (remaining binary M p v F (bit_xor j (drop_bit p Q.x))) (turns (Q.k + 2 * overlap (passing j) Q.z) (remaining binary M p branch G j))
  reads j h =
      rw (alone v F (bit_xor j (drop_bit p Q.x)), alone branch G j, source_moves p M.z (minus M.k + v) (minus M.k + branch) j Q.x set branch_parity)
      (framed.at (passing j) (source_lt p M.z (minus M.k + branch) j m fits h))

  pub diagonal_kept : digit p Q.z ≡ 0 → Framed m (dropped p Q) (remaining binary M p v F) (remaining binary M p branch G)
  unfolding dropped
  diagonal_kept clear = record { at = λ j h. rw (source_clear p M.z (minus M.k + branch) j Q.z clear) at (reads j h) }

  pub diagonal_absorbed : M.k ≤ 3 → M.k % 2 ≡ overlap M.x M.z → digit p Q.z ≡ 1
      → Framed m (dropped p (raised (2 * branch) (product Q M))) (remaining binary M p v F) (remaining binary M p branch G)
  unfolding dropped raised product
  diagonal_absorbed phase even meets = record {
    at = λ j h.
        let b : ℕ = passing j in
        let y : ℕ = bit_xor Q.z M.z in
        let same-x : bit_xor Q.x M.x ≡ Q.x = ap (bit_xor Q.x) no-x ∙ xor_zero_r Q.x in
        let clear : digit p y ≡ 0 = omega (arith, digit_xor p Q.z M.z) in
        let two : 2 * minus M.k ≡ M.k = minus_phase M.k phase (even ∙ ap (λ (x : ℕ). overlap x M.z) no-x ∙ overlap_zero_l M.z) in
        let sum : overlap j (drop_bit p y) ≡ (overlap b Q.z + overlap b M.z) % 2
        = sym (source_clear p M.z (minus M.k + branch) j y clear) ∙ overlap_xor_r b Q.z M.z in
        rw same-x
        (alike_trans (reads j h)
        (alike_eq (turns_mod (Q.k + 2 * overlap b Q.z) (exponent Q.k M.k (overlap Q.z M.x) branch (overlap j (drop_bit p y))) (remaining binary M p branch G j)
        (diagonal_phase Q.k M.k (overlap Q.z M.x) branch (overlap j (drop_bit p y)) (overlap b Q.z) (overlap b M.z) (minus M.k)
        two no_parity (source_parity p M.z (minus M.k + branch) j set) sum))));
  }
