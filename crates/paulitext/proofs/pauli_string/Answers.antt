-- Each return is one of reading's; neither call on a Pauli is refused.
use Rattle.std.proofs.Common.{◌≡◌, ◌+◌, get_or, sym, ap, ◌∙◌, subst, arith}
use Rattle.std.proofs.Math.Option.{none, some}
use Rattle.answers.specs.Answer.Answer.{refused_at}
use Rattle.refusals.specs.declared.Row.TheVariants as row
use Rattle.refusals.specs.declared.RowAt.{RowAt}
use Rattle.refusals.specs.Refusal.{number_of}
use Rattle.refusals.proofs.Asked.{refused_whole, refused_there}
use Rattle.paulilaws.specs.Pauli.{Pauli}
use Rattle.paulis.specs.Strings.{pauli_of, pauli_letter_of}
use Rattle.paulis.proofs.Told.{told_ok, told_value}
use Rattle.paulitext.specs.Text.{letter_of_byte}
use Rattle.paulitext.proofs.Walk.{Reached, letter_some, letter_none, reached_start, reached_end, reached_none, reached_next, started, lettered, short, read_long, read_short}
use Rattle.paulitext.proofs.pauli_string.Goals as goal

pub returns-in_err-refuse_if : goal.returns-in_err-refuse_if
returns-in_err-refuse_if c =
    refused_whole pauli_of _ c.in_err-refuse_if.field-0.0 c.from_residual.ensures.1
    ∙ sym (read_long c.args.ops.now c.in_err-refuse_if.field-0.0 c.in_err-refuse_if.ensures)

pub unwrap-pauli-requires : goal.unwrap-pauli-requires
unwrap-pauli-requires c = told_ok pauli_of _ (c.pauli_identity.ensures ∙ started _ (short c.args.ops.now c.in_ok-refuse_if.ensures))

pub loop-q-init : goal.loop-q-init
loop-q-init c =
    let ops = c.args.ops.now in
    let fits = short ops c.in_ok-refuse_if.ensures in
    let first = told_value pauli_of _ (c.pauli_identity.ensures ∙ started _ fits) c.unwrap-pauli.ensures in
    subst (λ (P : Pauli). Reached ops 0 P) (sym first) (reached_start ops fits)

pub returns-in_err-letter : goal.returns-in_err-letter
returns-in_err-letter c =
    let l = c.loop-q in
    let ops = c.args.ops.now in
    let bad : letter_of_byte (get_or ops l.q 0) ≡ none = letter_none c.letter.result _ c.letter.ensures c.in_err-letter.ensures.ok_part in
    let given = rw c.in_err-letter.ensures.ok_part at c.in_err-letter.ensures.value in
    let there : c.in_err-letter.field-0.0 ≡ record { row = row.NoLetter; at = l.q } = cc in
    refused_there pauli_of _ c.in_err-letter.field-0.0 c.from_residual-in_err-letter.ensures.1
    ∙ ap (λ (p : RowAt). refused_at (number_of p.row) p.at) there
    ∙ sym (read_short ops c.in_ok-refuse_if.ensures ∙ reached_none ops l.q (pauli_of l.pauli) l.invariant c.loop-q-test.true bad)

pub unwrap-pauli-requires-in-loop-q : goal.unwrap-pauli-requires-in-loop-q
unwrap-pauli-requires-in-loop-q c =
    let l = c.loop-q in
    let P = pauli_of l.pauli in
    told_ok pauli_of _ (c.set.ensures ∙ lettered P l.q _ l.invariant.admitted (omega (arith, l.invariant.width)))

pub loop-q-preserved : goal.loop-q-preserved
loop-q-preserved c =
    let l = c.loop-q in
    let P = pauli_of l.pauli in
    let letter = c.in_ok-letter.letter in
    let good : letter_of_byte (get_or c.args.ops.now l.q 0) ≡ some (pauli_letter_of letter) = letter_some c.letter.result _ c.letter.ensures c.in_ok-letter.ensures.ok_part in
    let next = told_value pauli_of _ (c.set.ensures ∙ lettered P l.q _ l.invariant.admitted (omega (arith, l.invariant.width))) c.unwrap-pauli-in-loop-q.ensures in
    subst (λ (P : Pauli). Reached c.args.ops.now (l.q + 1) P) (sym next) (reached_next c.args.ops.now l.q P l.invariant c.loop-q-test.true (pauli_letter_of letter) good)

pub returns : goal.returns
returns c =
    let l = c.loop-q in
    let ops = c.args.ops.now in
    sym (read_short ops c.in_ok-refuse_if.ensures ∙ reached_end ops l.q (pauli_of l.pauli) l.invariant c.loop-q-test.false)
