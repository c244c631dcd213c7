-- A text read letter by letter into a Pauli, and what the calls on Paulis answer.
use mathlib.Core.Path.{◌≡◌, refl, sym, ap, ◌∙◌}
use mathlib.Core.Bool.{true}
use mathlib.Core.List.{List}
use mathlib.Core.Option.{Option, none, some}
use Prim.Native.Nat.{ℕ, suc, ◌+◌, ◌≤◌, ◌<◌}
use native.Mathlib.Numerals.{add-one}
use native.Mathlib.Omega.{arith}
use lib.ListN.{length, get_or, drop, drop_of_length-le}
use lib.Seq.{drop-cons}
use borrow.Author.Tests.{le-ltb, ltb-false}
use Rattle.answers.specs.Answer.{refuse}
use Rattle.answers.specs.Answer.Answer.{accepted, refused, refused_at}
use Rattle.paulilaws.specs.Pauli.{Pauli, fits, identity, most_qubits}
use Rattle.paulilaws.specs.Letter.{Letter, letter_at, with_letter}
use Rattle.paulilaws.specs.Fitting.{Admitted, identity_fitting, letter_fitting}
use Rattle.paulilaws.proofs.Fitting.{admitted_fits}
use Rattle.answers.specs.Row.{row}
use Rattle.refusals.specs.declared.Row.{Row}
use Rattle.refusals.specs.Refusal.{number_of}
use lib.Dec.{ltb}
use Rattle.paulis.proofs.Told.{row_passes, refuse_some, refuse_none}
use Rattle.paulis.specs.Calls.{identity_call, set_call, get_call}
use Rattle.paulis.specs.Rows.{a_qubit}
use Rattle.std.specs.Prelude as code
use Rattle.paulis.specs.declared.Pauli.{Pauli as Single}
use Rattle.paulis.specs.Strings.{pauli_letter_of}
use Rattle.paulitext.specs.Text.{letter_of_byte, letter_read, on_letter, reading}
use Rattle.paulitext.specs.Calls.{read_call}

-- ---- what reading a byte tells

module _ (o : code.Option Single) (b : ℕ) (e : letter_read o ≡ letter_of_byte b) where
  pub letter_some : {l : Single} → o ≡ code.Some l → letter_of_byte b ≡ some (pauli_letter_of l)
  letter_some is = sym e ∙ ap letter_read is

  pub letter_none : o ≡ code.None → letter_of_byte b ≡ none
  letter_none is = sym e ∙ ap letter_read is

-- where the reading of s has come to: at q, with P read so far
pub record Reached (s : List ℕ) (q : ℕ) (P : Pauli) : Type 0 where
  pub inside : q ≤ length s
  pub width : P.n ≡ length s
  pub admitted : Admitted P
  pub rest : reading q (drop q s) P ≡ reading 0 s (identity (length s))

module _ (s : List ℕ) (q : ℕ) (P : Pauli) (r : Reached s q P) where
  pub reached_end : length s ≤ q → reading 0 s (identity (length s)) ≡ accepted P
  unfolding reading
  reached_end h = sym r.rest ∙ ap (λ (t : List ℕ). reading q t P) (drop_of_length-le s h)

  module _ (h : q < length s) where
    pub reached_none : letter_of_byte (get_or s q 0) ≡ none → reading 0 s (identity (length s)) ≡ refused_at 2 q
    unfolding reading
    reached_none e =
        sym r.rest ∙ ap (λ (t : List ℕ). reading q t P) (drop-cons s q 0 h)
        ∙ ap (λ (o : Option Letter). on_letter o (refused_at 2 q) (λ l. reading (suc q) (drop (suc q) s) (with_letter q l P))) e

    pub reached_next : (l : Letter) → letter_of_byte (get_or s q 0) ≡ some l → Reached s (q + 1) (with_letter q l P)
    unfolding reading with_letter
    reached_next l e = record {
      inside = omega arith;
      width = r.width;
      admitted = record { fitting = letter_fitting q l P (omega (arith, r.width)) r.admitted.fitting; width = r.admitted.width };
      rest = ap (λ (m : ℕ). reading m (drop m s) (with_letter q l P)) (add-one q)
          ∙ sym (sym r.rest ∙ ap (λ (t : List ℕ). reading q t P) (drop-cons s q 0 h)
          ∙ ap (λ (o : Option Letter). on_letter o (refused_at 2 q) (λ m. reading (suc q) (drop (suc q) s) (with_letter q m P))) e);
    }

pub reached_start : (s : List ℕ) → length s ≤ most_qubits → Reached s 0 (identity (length s))
reached_start s short = record { inside = omega arith; width = refl; admitted = record { fitting = identity_fitting (length s); width = short }; rest = refl }

-- ---- the length, looked at first

module _ (s : List ℕ) where
  pub read_long : (r : Row) → number_of r ≡ row (ltb 256 (length s)) 1 0 → read_call s ≡ refused (number_of r)
  unfolding read_call
  read_long r e = refuse_some (ltb 256 (length s)) 1 (reading 0 s (identity (length s))) r e

  pub read_short : 0 ≡ row (ltb 256 (length s)) 1 0 → read_call s ≡ reading 0 s (identity (length s))
  unfolding read_call
  read_short e = refuse_none (ltb 256 (length s)) 1 (reading 0 s (identity (length s))) (omega arith) e

  pub short : 0 ≡ row (ltb 256 (length s)) 1 0 → length s ≤ 256
  short e = ltb-false 256 (length s) (row_passes (ltb 256 (length s)) 1 (omega arith) e)

-- ---- what the calls on Paulis answer where no row refuses them

pub started : (n : ℕ) → n ≤ 256 → identity_call n ≡ accepted (identity n)
unfolding identity_call refuse
started n h = rw (le-ltb 256 n h)

pub lettered : (P : Pauli) (q : ℕ) (l : Letter) → Admitted P → q < P.n → set_call P q l ≡ accepted (with_letter q l P)
unfolding set_call
lettered P q l a h = a_qubit P q (accepted (with_letter q l P)) {t = true} (sym (admitted_fits P a)) refl h

pub got_letter : (P : Pauli) (q : ℕ) → fits P ≡ true → q < P.n → get_call P q ≡ accepted (letter_at q P)
unfolding get_call
got_letter P q f h = a_qubit P q (accepted (letter_at q P)) {t = true} (sym f) refl h
