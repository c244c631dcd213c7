use mathlib.Core.Path.{sym, ap, ◌∙◌}
use lib.Bits.{bit_or, or_lt}
use Rattle.answers.specs.Answer.Answer.{accepted}
use Rattle.bitlaws.proofs.Highest.{highest_wider}
use Rattle.paulilaws.specs.Support.{max_support}
use Rattle.paulis.specs.Calls.{support_call}
use Rattle.paulis.specs.Rows.{no_pauli, a_pauli, admitted}
use Rattle.paulis.specs.Strings.{pauli_of}
use mathlib.Core.Bool.{not}
use Rattle.paulis.proofs.PauliString.max_support.Goals as goal

pub returns-then-not-is_pauli : goal.returns-then-not-is_pauli
unfolding support_call
returns-then-not-is_pauli c =
    let P = pauli_of c.args.self in
    sym (no_pauli P (accepted (max_support P)) c.is_pauli.ensures (ap not c.if-not-is_pauli.true))

pub returns : goal.returns
unfolding support_call max_support
returns c =
    let P = pauli_of c.args.self in
    let told = c.is_pauli.ensures in
    let a = admitted P told (ap not c.if-not-is_pauli.false) in
    let f = a.fitting in
    ap accepted c.highest_bit.ensures
    ∙ ap accepted (highest_wider P.n 256 (bit_or P.x P.z) (or_lt P.n P.x P.z f.xs f.zs) a.width)
    ∙ sym (a_pauli P (accepted (max_support P)) told (ap not c.if-not-is_pauli.false))
