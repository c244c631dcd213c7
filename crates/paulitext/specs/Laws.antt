-- What a text that is shown and one that is read mean: one qubit to a byte, that byte's letter on it, and the coefficient 1.
use Rattle.std.specs.Prelude.{◌≡◌, refl, Bool, true, false, List, [], ◌∷◌, ℕ, zero, suc, ◌+◌, ◌≤◌, ◌<◌, ltb, length, get_or}
use Rattle.std.proofs.Common.{sym, ap, ◌∙◌, subst, add-zero, zero-add, arith, ltb-false}
use Rattle.std.proofs.Math.Option.{Option, none, some}
use Rattle.std.specs.Int.Bits.{and_zero_l}
use Rattle.std.specs.Int.Count.{ones}
use Rattle.answers.specs.Answer.{refuse}
use Rattle.answers.specs.Answer.Answer.{accepted, refused, refused_at}
use Rattle.bitlaws.specs.Parity.{ones_zero}
use Rattle.paulilaws.specs.Pauli.{Pauli, identity, coefficient, ys}
use Rattle.paulilaws.specs.Letter.{Letter, letter_at, with_letter, letter_set, letter_kept}
use Rattle.paulilaws.proofs.Letter.{coefficient_kept}
use Rattle.paulitext.specs.Text.{letter_of_byte, on_letter, reading, byte_of, letters_from}
use Rattle.paulitext.specs.Calls.{read_call}

-- ---- the letters that are shown

pub letters_length : (q count : ℕ) (P : Pauli) → length (letters_from q count P) ≡ count
unfolding letters_from
letters_length q zero P = refl
letters_length q (suc count) P = ap suc (letters_length (suc q) count P)

pub letters_at : (q count j : ℕ) (P : Pauli) → j < count → get_or (letters_from q count P) j 0 ≡ byte_of (letter_at (q + j) P)
unfolding letters_from
letters_at q zero j P h = absurd (omega arith)
letters_at q (suc count) zero P h = ap (λ (n : ℕ). byte_of (letter_at n P)) (sym (add-zero q))
letters_at q (suc count) (suc j) P h =
    let place : suc q + j ≡ q + suc j = omega arith in
    letters_at (suc q) count j P (omega arith) ∙ ap (λ (n : ℕ). byte_of (letter_at n P)) place

-- ---- what is read

-- R is P with the letters of bs set from qubit q on
pub record Spelled (q : ℕ) (bs : List ℕ) (P R : Pauli) : Type 0 where
  pub width : R.n ≡ P.n
  pub same : coefficient R ≡ coefficient P
  pub before : (i : ℕ) → i < q → letter_at i R ≡ letter_at i P
  pub letters : (i : ℕ) → i < length bs → letter_of_byte (get_or bs i 0) ≡ some (letter_at (q + i) R)

never : {n i : ℕ} {R : Pauli} → refused_at n i ≡ accepted R → ⊥
never e = let z : ◌≡◌ {A = ℕ} 0 1 = cc in omega arith

pub spelled : (q : ℕ) (bs : List ℕ) (P R : Pauli) → reading q bs P ≡ accepted R → Spelled q bs P R
unfolding reading with_letter
spelled q [] P R e =
    let r : R ≡ P = cc in
    subst (λ (S : Pauli). Spelled q [] P S) (sym r) (record { width = refl; same = refl; before = λ i h. refl; letters = λ i h. absurd (omega arith) })
spelled q (b ∷ bs) P R e =
    go (letter_of_byte b) refl (λ l f. spelled (suc q) bs (with_letter q l P) R f) e
  where
    go : (o : Option Letter) → letter_of_byte b ≡ o
        → ((l : Letter) → reading (suc q) bs (with_letter q l P) ≡ accepted R → Spelled (suc q) bs (with_letter q l P) R)
        → on_letter o (refused_at 2 q) (λ l. reading (suc q) bs (with_letter q l P)) ≡ accepted R → Spelled q (b ∷ bs) P R
    go none is next f = absurd (never f)
    go (some l) is next f =
        let s : Spelled (suc q) bs (with_letter q l P) R = next l f in
        let here : letter_at q R ≡ l = s.before q (omega arith) ∙ letter_set q l P in
        record {
          width = s.width;
          same = s.same ∙ coefficient_kept q l P;
          before = λ i h. s.before i (omega arith) ∙ letter_kept q i l P (λ d. omega arith);
          letters = λ i h. at i h s here;
        }
      where
        at : (i : ℕ) → i < length (b ∷ bs) → Spelled (suc q) bs (with_letter q l P) R → letter_at q R ≡ l → letter_of_byte (get_or (b ∷ bs) i 0) ≡ some (letter_at (q + i) R)
        at zero h s here = is ∙ ap (λ (m : Letter). some m) (sym here) ∙ ap (λ (n : ℕ). some (letter_at n R)) (sym (add-zero q))
        at (suc i) h s here =
            let place : suc q + i ≡ q + suc i = omega arith in
            s.letters i (omega arith) ∙ ap (λ (n : ℕ). some (letter_at n R)) place

pub blank : (n : ℕ) → coefficient (identity n) ≡ 0
unfolding coefficient ys
blank n = omega (arith, ap ones (and_zero_l 0), ones_zero)

-- an accepted text of at most 256 bytes
pub record Text (s : List ℕ) (P : Pauli) : Type 0 where
  pub short : length s ≤ 256
  pub width : P.n ≡ length s
  pub letters : (i : ℕ) → i < length s → letter_of_byte (get_or s i 0) ≡ some (letter_at i P)
  pub one : coefficient P ≡ 0

pub read_text : (s : List ℕ) (P : Pauli) → read_call s ≡ accepted P → Text s P
unfolding read_call refuse
read_text s P e = go (ltb 256 (length s)) refl
  where
    long : {R : Pauli} → refused 1 ≡ accepted R → ⊥
    long f = let z : ◌≡◌ {A = ℕ} 0 1 = cc in omega arith

    plain : coefficient (identity (length s)) ≡ 0
    plain = blank (length s)

    go : (b : Bool) → ltb 256 (length s) ≡ b → Text s P
    go true t = absurd (long (sym (rw t) ∙ e))
    go false t =
        let r : Spelled 0 s (identity (length s)) P = spelled 0 s (identity (length s)) P (rw t at e) in
        record {
          short = ltb-false 256 (length s) t;
          width = r.width;
          letters = λ i h. r.letters i h ∙ ap (λ (n : ℕ). some (letter_at n P)) (zero-add i);
          one = r.same ∙ plain;
        }
