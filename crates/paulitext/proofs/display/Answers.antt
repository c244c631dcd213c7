-- Each return is a case of Showing; what coefficient_phase tells decides row 3.
use Rattle.std.specs.Prelude.{Ok}
use Rattle.std.proofs.Common.{ltb-true, ltb-false, arith, ap, ◌∙◌}
use Rattle.answers.specs.Answer.Answer.{refused}
use Rattle.refusals.proofs.Asked.{refused_by}
use Rattle.paulilaws.specs.Pauli.{coefficient}
use Rattle.paulilaws.proofs.Fitting.{fits_admitted}
use Rattle.pauligroup.specs.Calls.{coefficient_call}
use Rattle.paulis.specs.Strings.{pauli_of}
use Rattle.paulis.proofs.Told.{row_refuses, row_passes}
use Rattle.paulis.proofs.Checked.{value_told, refused_told}
use Rattle.paulitext.proofs.Showing.{shown_no_pauli, shown_short, shown_all}
use Rattle.paulitext.proofs.display.Goals as goal

pub returns-in_err-coefficient : goal.returns-in_err-coefficient
unfolding coefficient_call
returns-in_err-coefficient c =
    let P = pauli_of c.args.pauli in
    let told = refused_told P (coefficient P) c.in_err-coefficient.ensures in
    shown_no_pauli P c.args.out.now _ told.0 (refused_by (λ n. n) _ _ c.from_residual.ensures.1 ∙ ap refused told.1)

pub text_len-len-requires : goal.text_len-len-requires
unfolding coefficient_call
text_len-len-requires c =
    let P = pauli_of c.args.pauli in
    (fits_admitted P (value_told P (coefficient P) c.in_ok-coefficient.ensures).0).width

pub returns-in_err-refuse_if : goal.returns-in_err-refuse_if
unfolding coefficient_call
returns-in_err-refuse_if c =
    let P = pauli_of c.args.pauli in
    let told = value_told P (coefficient P) c.in_ok-coefficient.ensures in
    let short = row_refuses _ 16 _ c.in_err-refuse_if.ensures in
    shown_short P c.args.out.now _ told.0 c.in_ok-coefficient.coefficient c.text_len-len.result told.1 c.text_len-len.ensures (ltb-true _ _ short.0)
    (refused_by (λ n. n) _ _ c.from_residual-in_err-refuse_if.ensures.1 ∙ ap refused short.1)

pub write-requires-clause-pauli_value : goal.write-requires-clause-pauli_value
unfolding coefficient_call
write-requires-clause-pauli_value c =
    let P = pauli_of c.args.pauli in
    (value_told P (coefficient P) c.in_ok-coefficient.ensures).0

pub write-requires-clause-text_in_bounds : goal.write-requires-clause-text_in_bounds
write-requires-clause-text_in_bounds c =
    omega (arith, c.text_len-len.ensures, ltb-false _ _ (row_passes _ 16 (omega arith) c.in_ok-refuse_if.ensures))

pub returns : goal.returns
unfolding coefficient_call
returns c =
    let P = pauli_of c.args.pauli in
    let told = value_told P (coefficient P) c.in_ok-coefficient.ensures in
    shown_all P c.args.out.now (Ok c.text_len-len.result) told.0 c.in_ok-coefficient.coefficient c.text_len-len.result told.1 c.text_len-len.ensures
    (ltb-false _ _ (row_passes _ 16 (omega arith) c.in_ok-refuse_if.ensures)) c.write.new.out c.write.ensures
