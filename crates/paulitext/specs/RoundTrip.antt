-- The text of a Pauli whose coefficient is 1, read again, is that Pauli, where it has a qubit.
use Rattle.std.specs.Prelude.{◌≡◌, refl, List, ◌++◌, ℕ, zero, suc, ◌+◌, ◌*◌, ◌%◌, ◌^◌, ◌≤◌, ◌<◌, length}
use Rattle.std.proofs.Common.{sym, ap, ap₂, ◌∙◌, subst, zero-add, arith, le-ltb}
use Rattle.std.proofs.Math.Option.{Option, some}
use Rattle.std.specs.Int.Bits.{bit_and}
use Rattle.std.specs.Int.Count.{ones}
use Rattle.answers.specs.Answer.{refuse}
use Rattle.answers.specs.Answer.Answer.{accepted, refused_at}
use Rattle.bitlaws.specs.Digit.{digit, digit_lt, digits_same}
use Rattle.paulilaws.specs.Pauli.{Pauli, identity, coefficient, ys, same}
use Rattle.paulilaws.specs.Letter.{Letter, x_part, z_part, letter_of, letter_at, with_letter}
use Rattle.paulilaws.specs.Fitting.{Fitting, Admitted, identity_fitting, letter_fitting}
use Rattle.paulitext.specs.Text.{letter_of_byte, on_letter, reading, prefix, byte_of, letters_from, body, shown}
use Rattle.paulitext.specs.Calls.{read_call}
use Rattle.paulitext.specs.Laws.{letters_length, letters_at, Text, read_text}

-- ---- bytes and letters

pub byte_letter : (l : Letter) → letter_of_byte (byte_of l) ≡ some l
unfolding letter_of_byte
byte_letter Letter.I = refl
byte_letter Letter.X = refl
byte_letter Letter.Z = refl
byte_letter Letter.Y = refl

-- ---- the letters of P, read into any R, are accepted, and what is read fits

pub record Taken (q count : ℕ) (P R : Pauli) : Type 0 where
  pub read : Pauli
  pub is : reading q (letters_from q count P) R ≡ accepted read
  pub fitting : Fitting read

pub taken : (q count : ℕ) (P R : Pauli) → q + count ≤ R.n → Fitting R → Taken q count P R
unfolding reading letters_from with_letter
taken q zero P R h f = record { read = R; is = refl; fitting = f }
taken q (suc count) P R h f =
    let l : Letter = letter_at q P in
    let t : Taken (suc q) count P (with_letter q l R) = taken (suc q) count P (with_letter q l R) (omega arith) (letter_fitting q l R (omega arith) f) in
    record {
      read = t.read;
      is = ap (λ (o : Option Letter). on_letter o (refused_at 2 q) (λ m. reading (suc q) (letters_from (suc q) count P) (with_letter q m R))) (byte_letter l) ∙ t.is;
      fitting = t.fitting;
    }

-- ---- a Pauli is its letters and its coefficient

x_of : (a b : ℕ) → a < 2 → x_part (letter_of a b) ≡ a
x_of zero zero h = refl
x_of zero (suc b) h = refl
x_of (suc zero) zero h = refl
x_of (suc zero) (suc b) h = refl
x_of (suc (suc a)) zero h = absurd (omega arith)
x_of (suc (suc a)) (suc b) h = absurd (omega arith)

z_of : (a b : ℕ) → b < 2 → z_part (letter_of a b) ≡ b
z_of zero zero h = refl
z_of (suc a) zero h = refl
z_of zero (suc zero) h = refl
z_of (suc a) (suc zero) h = refl
z_of zero (suc (suc b)) h = absurd (omega arith)
z_of (suc a) (suc (suc b)) h = absurd (omega arith)

phases_same : (k l y : ℕ) → k ≤ 3 → l ≤ 3 → (k + 3 * y) % 4 ≡ (l + 3 * y) % 4 → k ≡ l
phases_same k l y hk hl e = omega arith

pub letters_same : (P R : Pauli) → Fitting P → Fitting R → P.n ≡ R.n → coefficient P ≡ coefficient R
    → ((i : ℕ) → i < P.n → letter_at i P ≡ letter_at i R) → P ≡ R
unfolding letter_at coefficient ys
letters_same P R fp fr n c e =
    let x : P.x ≡ R.x
    = digits_same P.n P.x R.x fp.xs (subst (λ (m : ℕ). R.x < 2 ^ m) (sym n) fr.xs)
    (λ i h. sym (x_of (digit i P.x) (digit i P.z) (digit_lt i P.x)) ∙ ap x_part (e i h) ∙ x_of (digit i R.x) (digit i R.z) (digit_lt i R.x)) in
    let z : P.z ≡ R.z
    = digits_same P.n P.z R.z fp.zs (subst (λ (m : ℕ). R.z < 2 ^ m) (sym n) fr.zs)
    (λ i h. sym (z_of (digit i P.x) (digit i P.z) (digit_lt i P.z)) ∙ ap z_part (e i h) ∙ z_of (digit i R.x) (digit i R.z) (digit_lt i R.z)) in
    let ones-same : ones (bit_and P.x P.z) ≡ ones (bit_and R.x R.z) = ap₂ (λ (a b : ℕ). ones (bit_and a b)) x z in
    let phase : (P.k + 3 * ones (bit_and P.x P.z)) % 4 ≡ (R.k + 3 * ones (bit_and P.x P.z)) % 4 = c ∙ ap (λ (m : ℕ). (R.k + 3 * m) % 4) (sym ones-same) in
    same n (phases_same P.k R.k (ones (bit_and P.x P.z)) fp.phase fr.phase phase) x z

-- ---- the round trip

pub some_same : {l m : Letter} → some l ≡ some m → l ≡ m
some_same e = cc

pub spelled_out : (n : ℕ) (P : Pauli) → 0 < n → body n P ≡ letters_from 0 n P
unfolding body
spelled_out zero P h = absurd (omega arith)
spelled_out (suc n) P h = refl

plain_text : (P : Pauli) → 0 < P.n → coefficient P ≡ 0 → shown P ≡ letters_from 0 P.n P
unfolding shown prefix
plain_text P h e = ap (λ (c : ℕ). prefix c ++ body P.n P) e ∙ spelled_out P.n P h

pub round_trip : (P : Pauli) → Admitted P → 0 < P.n → coefficient P ≡ 0 → read_call (shown P) ≡ accepted P
unfolding read_call refuse
round_trip P a h e =
    let s : List ℕ = letters_from 0 P.n P in
    let len : length s ≡ P.n = letters_length 0 P.n P in
    let t : Taken 0 P.n P (identity (length s)) = taken 0 P.n P (identity (length s)) (omega (arith, len)) (identity_fitting (length s)) in
    let call : read_call s ≡ accepted t.read = rw (le-ltb 256 (length s) (omega (arith, len, a.width))) t.is in
    let r : Text s t.read = read_text s t.read call in
    let letters : (i : ℕ) → i < P.n → letter_at i P ≡ letter_at i t.read
    = λ i l. some_same (sym (ap letter_of_byte (letters_at 0 P.n i P l) ∙ byte_letter (letter_at (0 + i) P) ∙ ap (λ (m : ℕ). some (letter_at m P)) (zero-add i))
    ∙ r.letters i (omega (arith, len))) in
    ap read_call (plain_text P h e) ∙ call
    ∙ ap accepted (sym (letters_same P t.read a.fitting t.fitting (sym (r.width ∙ len)) (e ∙ sym r.one) letters))
