-- `number`: the bytes from the index on are left to read behind the value.
use Rattle.std.proofs.Common.{◌≡◌, ◌==◌, ℕ, suc, ◌≤◌, ◌<◌, Bool, true, false, not, List, [], ◌∷◌, length, get_or, drop, refl, sym, ap, ◌∙◌, arith, add-one, drop-cons, drop_of_length-le}
use borrow.Author.Tests.{not-true, not-false}
use Rattle.std.proofs.lemmas.Bool.{eqb-true, false≢true}
use Rattle.std.specs.Char.{is_ascii_digit}
use Rattle.reports.specs.Input.{is_digit, grown, no_step, number_from, number}
use Rattle.reports.proofs.input.number.Goals as goal

digit : {t : Bool} (d : ℕ) → t ≡ is_ascii_digit d → is_digit d ≡ t
unfolding is_digit
digit d e = sym e

none : (text : List ℕ) → true ≡ (length text == 0) → no_step ≡ number text
unfolding number
none [] e = refl
none (d ∷ text) e = absurd (omega (arith, eqb-true (length (d ∷ text)) 0 (sym e)))

some : (text : List ℕ) → false ≡ (length text == 0) → number_from 0 text ≡ number text
unfolding number
some [] e = absurd (false≢true e)
some (d ∷ text) e = refl

module _ (text : List ℕ) (i v : ℕ) where
  digit_next : i < length text → is_digit (get_or text i 0) ≡ true → number_from v (drop i text) ≡ number_from (grown v (get_or text i 0)) (drop (suc i) text)
  unfolding number_from
  digit_next h e = ap (number_from v) (drop-cons text i 0 h) ∙ rw e

  digit_none : i < length text → is_digit (get_or text i 0) ≡ false → number_from v (drop i text) ≡ no_step
  unfolding number_from
  digit_none h e = ap (number_from v) (drop-cons text i 0 h) ∙ rw e

  digits_end : length text ≤ i → number_from v (drop i text) ≡ v
  unfolding number_from
  digits_end h = ap (number_from v) (drop_of_length-le text {i = i} h)

pub returns-then-is_empty : goal.returns-then-is_empty
returns-then-is_empty c = none _ c.if-is_empty.ensures

pub loop-byte-init : goal.loop-byte-init
loop-byte-init c = (omega arith, some _ c.if-is_empty.ensures)

pub returns-then-not-is_ascii_digit : goal.returns-then-not-is_ascii_digit
returns-then-not-is_ascii_digit c =
    let at = c.loop-byte in
    let text = c.args.text.now in
    sym (digit_none text at.byte-index at.value c.loop-byte-test.true (digit _ c.is_ascii_digit.ensures.value ∙ not-true _ (ap not c.if-not-is_ascii_digit.true))) ∙ at.invariant.1

pub grow-value-requires : goal.grow-value-requires
grow-value-requires c = (c.loop-byte.invariant.0, digit _ c.is_ascii_digit.ensures.value ∙ not-false _ (ap not c.if-not-is_ascii_digit.false))

pub loop-byte-preserved : goal.loop-byte-preserved
loop-byte-preserved c =
    let at = c.loop-byte in
    let text = c.args.text.now in
    let next = digit_next text at.byte-index at.value c.loop-byte-test.true (digit _ c.is_ascii_digit.ensures.value ∙ not-false _ (ap not c.if-not-is_ascii_digit.false)) in
    (c.grow-value.ensures.1, rw (add-one at.byte-index) (ap (λ (v : ℕ). number_from v (drop (suc at.byte-index) text)) c.grow-value.ensures.0 ∙ sym next ∙ at.invariant.1))

pub returns : goal.returns
returns c =
    let at = c.loop-byte in
    sym (digits_end c.args.text.now at.byte-index at.value c.loop-byte-test.false) ∙ at.invariant.1
