-- What showing a Pauli answers and leaves, from the tests that the code makes.
use mathlib.Core.Path.{◌≡◌, sym, ap, ◌∙◌}
use mathlib.Core.Bool.{true, false}
use mathlib.Core.List.{List, ◌++◌}
use Prim.Native.Nat.{ℕ, ◌+◌, ◌≤◌, ◌<◌, max}
use native.Mathlib.Omega.{arith}
use borrow.Author.Tests.{lt-ltb, le-ltb}
use lib.ListN.{length, drop}
use Rattle.answers.specs.Answer.{refuse}
use Rattle.answers.specs.Answer.Answer.{accepted, refused}
use Rattle.paulilaws.specs.Pauli.{Pauli, fits, coefficient}
use Rattle.paulis.specs.Calls.{on_pauli, get_call}
use Rattle.paulitext.specs.Text.{prefix, byte_of, body, shown}
use Rattle.paulitext.specs.Calls.{Shown, show_call, buffer_after}
use Rattle.std.specs.Prelude.{Result, Ok, Err}
use Rattle.refusals.specs.declared.Row.{Row}
use Rattle.refusals.specs.Refusal.{answer_of}
use Rattle.std.specs.Result.{result_unwrap_or}
use Rattle.std.proofs.Math.Seq.{paste}
use Rattle.std.proofs.lemmas.List.Edits.{paste_all, paste-paste}
use Rattle.std.proofs.Common.{refl, ap₂, zero-add, take, length-append, ⊎_elim, eq-zero-or-pos, get_or}
use Rattle.answers.specs.Row.{refused_accepted, accepted_same}
use Rattle.paulilaws.specs.Letter.{letter_at}
use Rattle.paulis.specs.declared.Pauli.{Pauli as Single}
use Rattle.paulis.specs.declared.Pauli.TheVariants as single
use Rattle.paulis.specs.Strings.{pauli_letter_of}
use Rattle.paulis.specs.Rows.{no_qubit}
use Rattle.paulitext.proofs.Walk.{got_letter}
use Rattle.paulitext.proofs.Bytes.{text_length_lem, body_at}

-- two texts behind one another at the front of a buffer
pub written : (pre s old base now : List ℕ) (at m : ℕ) → at ≡ length pre → base ≡ take (length pre) pre ++ drop (length pre) old → m ≡ length s → now ≡ paste base at s m
    → now ≡ (pre ++ s) ++ drop (length (pre ++ s)) old
written pre s old base now at m ea eb em e =
    let n : ℕ = length pre in
    let first : base ≡ paste old 0 pre n = eb ∙ ap (λ (k : ℕ). take n pre ++ drop k old) (sym (zero-add n)) in
    let place : at ≡ 0 + n = ea ∙ sym (zero-add n) in
    let whole : 0 + (n + m) ≡ length (pre ++ s) = zero-add (n + m) ∙ ap (λ (k : ℕ). n + k) em ∙ sym (length-append pre s) in
    e ∙ ap₂ (λ (b : List ℕ) (k : ℕ). paste b k s m) first place
    ∙ paste-paste old 0 pre s n m refl em (omega arith)
    ∙ paste_all old 0 (pre ++ s) (n + m) (sym (zero-add (n + m)) ∙ whole)
    ∙ ap (λ (k : ℕ). (pre ++ s) ++ drop k old) whole

-- the letter of a qubit, or the `I` of no qubits, where `get` refuses
module _ (P : Pauli) (q : ℕ) (f : fits P ≡ true) (h : q < max P.n 1) where
  none_shown : P.n ≡ 0 → (x : Result Single Row) → answer_of pauli_letter_of x ≡ get_call P q → get_or (body P.n P) q 0 ≡ byte_of (pauli_letter_of (result_unwrap_or x single.I))
  unfolding body get_call
  none_shown e (Ok l) a = absurd (refused_accepted (sym (a ∙ no_qubit P q (accepted (letter_at q P)) {t = true} (sym f) refl (omega arith))))
  none_shown e (Err r) a = let first : q ≡ 0 = omega arith in rw (e, first)

  some_shown : q < P.n → (x : Result Single Row) → answer_of pauli_letter_of x ≡ get_call P q → get_or (body P.n P) q 0 ≡ byte_of (pauli_letter_of (result_unwrap_or x single.I))
  some_shown l (Ok m) a = body_at P.n q P l ∙ ap byte_of (sym (accepted_same (a ∙ got_letter P q f l)))
  some_shown l (Err r) a = absurd (refused_accepted (a ∙ got_letter P q f l))

  pub letter_shown : (x : Result Single Row) → answer_of pauli_letter_of x ≡ get_call P q → get_or (body P.n P) q 0 ≡ byte_of (pauli_letter_of (result_unwrap_or x single.I))
  letter_shown x a = ⊎_elim (λ (e : P.n ≡ 0). none_shown e x a) (λ (l : 0 < P.n). some_shown (omega arith) x a) (eq-zero-or-pos P.n)

module _ (P : Pauli) (out : List ℕ) (x : Result ℕ Row) where
  pub shown_no_pauli : fits P ≡ false → answer_of (λ n. n) x ≡ refused 3 → Shown P out x out
  unfolding show_call on_pauli refuse buffer_after
  shown_no_pauli f e =
      let call : show_call P out ≡ refused 3 = rw f in
      record { told = e ∙ sym call; buffer = rw call }

  module _ (f : fits P ≡ true) (c len : ℕ) (is : c ≡ coefficient P) (l : len ≡ length (prefix c) + max P.n 1) where
    whole : prefix c ++ body P.n P ≡ shown P
    unfolding shown
    whole = ap (λ (n : ℕ). prefix n ++ body P.n P) is

    size : len ≡ length (shown P)
    size = l ∙ sym (text_length_lem c P.n P) ∙ ap length whole

    pub shown_short : length out < len → answer_of (λ n. n) x ≡ refused 16 → Shown P out x out
    unfolding show_call on_pauli refuse buffer_after
    shown_short h e =
        let call : show_call P out ≡ refused 16 = rw (f, lt-ltb (length out) (length (shown P)) (omega (arith, size))) in
        record { told = e ∙ sym call; buffer = rw call }

    pub shown_all : len ≤ length out → (left : List ℕ) → left ≡ (prefix c ++ body P.n P) ++ drop (length (prefix c ++ body P.n P)) out → Shown P out (Ok len) left
    unfolding show_call on_pauli refuse buffer_after
    shown_all h left w =
        let call : show_call P out ≡ accepted (length (shown P)) = rw (f, le-ltb (length out) (length (shown P)) (omega (arith, size))) in
        record {
          told = ap accepted size ∙ sym call;
          buffer = rw call (w ∙ ap (λ (s : List ℕ). s ++ drop (length s) out) whole);
        }
