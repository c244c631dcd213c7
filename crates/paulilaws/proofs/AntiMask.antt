-- The qubits on which two Paulis anticommute, as a mask: exactly those, each judged by its two letters alone, and an odd number of them exactly where the Paulis anticommute.
use Rattle.std.specs.Prelude.{◌≡◌, refl}
use Rattle.std.proofs.Math.Path.{sym, ap₂}
use Rattle.std.proofs.Common.{ap, ◌∙◌, mod-eq_of_lt, arith}
use Prim.Native.Nat.{ℕ, ◌+◌, ◌-◌, ◌%◌, ◌^◌, ◌<◌, min}
use Rattle.std.specs.Int.Bits.{bit_and, bit_xor}
use Rattle.std.proofs.lemmas.Nat.{and_mask, and_le_l}
use Rattle.std.specs.Int.Count.{ones}
use Rattle.bitlaws.specs.Digit.{digit, put, digit_lt, by_digit}
use Rattle.bitlaws.specs.Bitwise.{digit_xor, digit_and}
use Rattle.bitlaws.specs.Parity.{parity, overlap}
use Rattle.bitlaws.proofs.Parity.{overlap_xor_l}
use Rattle.bitlaws.specs.Xor.{xor_lt}
use Rattle.paulilaws.specs.Pauli.{Pauli, anti}
use Rattle.paulilaws.specs.Letter.{Letter, x_part, z_part, letter_of, letter_at, with_letter}
use Rattle.paulilaws.specs.Letter.Letter.{I, X, Z, Y}
use Rattle.paulilaws.specs.AntiMask.{anti_mask, letters_anti, alone, AntiMask}

-- ---- one qubit

letters_alone : (a b : Letter) → letters_anti a b ≡ anti (alone a) (alone b)
unfolding anti alone with_letter put overlap parity ones
letters_alone I I = refl
letters_alone I X = refl
letters_alone I Z = refl
letters_alone I Y = refl
letters_alone X I = refl
letters_alone X X = refl
letters_alone X Z = refl
letters_alone X Y = refl
letters_alone Z I = refl
letters_alone Z X = refl
letters_alone Z Z = refl
letters_alone Z Y = refl
letters_alone Y I = refl
letters_alone Y X = refl
letters_alone Y Z = refl
letters_alone Y Y = refl

-- the parts of a letter that is made of two digits
x_part_lem : (x z : ℕ) → x < 2 → z < 2 → x_part (letter_of x z) ≡ x
x_part_lem x z h k = by_digit (λ x. x_part (letter_of x z) ≡ x) (by_digit (λ z. x_part (letter_of 0 z) ≡ 0) refl refl z k) (by_digit (λ z. x_part (letter_of 1 z) ≡ 1) refl refl z k) x h

z_part_lem : (x z : ℕ) → x < 2 → z < 2 → z_part (letter_of x z) ≡ z
z_part_lem x z h k = by_digit (λ x. z_part (letter_of x z) ≡ z) (by_digit (λ z. z_part (letter_of 0 z) ≡ z) refl refl z k) (by_digit (λ z. z_part (letter_of 1 z) ≡ z) refl refl z k) x h

parts_anti : (a b : Letter) → (min (x_part a) (z_part b) + min (z_part a) (x_part b)) % 2 ≡ letters_anti a b
parts_anti I I = refl
parts_anti I X = refl
parts_anti I Z = refl
parts_anti I Y = refl
parts_anti X I = refl
parts_anti X X = refl
parts_anti X Z = refl
parts_anti X Y = refl
parts_anti Z I = refl
parts_anti Z X = refl
parts_anti Z Z = refl
parts_anti Z Y = refl
parts_anti Y I = refl
parts_anti Y X = refl
parts_anti Y Z = refl
parts_anti Y Y = refl

module _ (Q P : Pauli) where
  mask_letters : (q : ℕ) → digit q (anti_mask Q P) ≡ letters_anti (letter_at q Q) (letter_at q P)
  unfolding anti_mask letter_at
  mask_letters q =
      let a = digit_lt q Q.x in
      let b = digit_lt q Q.z in
      let c = digit_lt q P.x in
      let d = digit_lt q P.z in
      digit_xor q (bit_and Q.x P.z) (bit_and Q.z P.x)
      ∙ ap₂ (λ (u v : ℕ). (u + v) % 2)
      (digit_and q Q.x P.z ∙ sym (ap₂ min (x_part_lem _ _ a b) (z_part_lem _ _ c d)))
      (digit_and q Q.z P.x ∙ sym (ap₂ min (z_part_lem _ _ a b) (x_part_lem _ _ c d)))
      ∙ parts_anti (letter_of (digit q Q.x) (digit q Q.z)) (letter_of (digit q P.x) (digit q P.z))

-- ---- how many

-- the parity of a mask, as its overlap with all of n qubits
parity_whole : (n a : ℕ) → a < 2 ^ n → overlap a (2 ^ n - 1) ≡ parity a
unfolding overlap
parity_whole n a h = ap parity (and_mask a n ∙ mod-eq_of_lt h)

xor_parity : (n a b : ℕ) → a < 2 ^ n → b < 2 ^ n → parity (bit_xor a b) ≡ (parity a + parity b) % 2
xor_parity n a b ha hb =
    sym (parity_whole n (bit_xor a b) (xor_lt n a b ha hb))
    ∙ overlap_xor_l a b (2 ^ n - 1)
    ∙ ap₂ (λ (u v : ℕ). (u + v) % 2) (parity_whole n a ha) (parity_whole n b hb)

module _ (n : ℕ) (Q P : Pauli) (hx : Q.x < 2 ^ n) (hz : Q.z < 2 ^ n) where
  small : (a b : ℕ) → a < 2 ^ n → bit_and a b < 2 ^ n
  small a b h = omega (arith, and_le_l a b, h)

  -- no qubit at or above the width
  pub mask_lt : anti_mask Q P < 2 ^ n
  unfolding anti_mask
  mask_lt = xor_lt n (bit_and Q.x P.z) (bit_and Q.z P.x) (small Q.x P.z hx) (small Q.z P.x hz)

  pub anti_mask_lem : AntiMask Q P (anti_mask Q P)
  unfolding anti anti_mask parity overlap
  anti_mask_lem = record {
    letters = mask_letters Q P;
    qubit = λ q. mask_letters Q P q ∙ letters_alone (letter_at q Q) (letter_at q P);
    odd = xor_parity n (bit_and Q.x P.z) (bit_and Q.z P.x) (small Q.x P.z hx) (small Q.z P.x hz);
  }
