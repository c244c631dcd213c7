-- The letters are written behind the coefficient, one by one.
use Rattle.std.proofs.Common.{◌≡◌, List, ◌++◌, ℕ, ◌+◌, ◌<◌, length, drop, set, get_or, max, sym, ap, ◌∙◌, arith}
use Rattle.std.proofs.Math.Seq.{paste, take-length}
use Rattle.std.proofs.lemmas.List.Edits.{paste_more}
use Rattle.paulis.specs.Strings.{pauli_of, pauli_letter_of}
use Rattle.paulitext.specs.Text.{prefix, byte_of, body}
use Rattle.paulitext.proofs.Bytes.{body_length_lem}
use Rattle.paulitext.proofs.Showing.{letter_shown, written}
use Rattle.paulitext.proofs.byte.write.Goals as goal

pub loop-q-preserved : goal.loop-q-preserved
loop-q-preserved c =
    let l = c.loop-q in
    let P = pauli_of c.args.pauli in
    let letters : List ℕ = body c.args.pauli.nqubits P in
    let base : List ℕ = c.write_prefix-at.new.out in
    let at : ℕ = c.write_prefix-at.result in
    let inside : l.q < max c.args.pauli.nqubits 1 = omega (arith, c.max-q-end.ensures) in
    let byte : c.of_letter.result ≡ get_or letters l.q 0
    = c.of_letter.ensures ∙ ap (λ (m : _). byte_of (pauli_letter_of m)) c.unwrap_or.ensures ∙ sym (letter_shown P l.q c.requires.pauli_value inside c.get.result c.get.ensures) in
    let room : at + l.q < length base
    = omega (arith, c.write_prefix-at.ensures.0, c.write_prefix-at.auto.out, c.requires.text_in_bounds) in
    ap (λ (t : List ℕ). set t (at + l.q) c.of_letter.result) l.invariant
    ∙ ap (set (paste base at letters l.q) (at + l.q)) byte
    ∙ paste_more base at letters l.q 0 room (omega (arith, body_length_lem c.args.pauli.nqubits P))

pub returns : goal.returns
returns c =
    let l = c.loop-q in
    let P = pauli_of c.args.pauli in
    let n : ℕ = c.args.pauli.nqubits in
    let all : l.q ≡ length (body n P) = omega (arith, c.max-q-end.ensures, body_length_lem n P) in
    let first : List ℕ = prefix c.args.coefficient in
    written first (body n P) c.args.out.now c.write_prefix-at.new.out l.out c.write_prefix-at.result l.q
    c.write_prefix-at.ensures.0
    (c.write_prefix-at.ensures.1 ∙ ap (λ (t : List ℕ). t ++ drop (length first) c.args.out.now) (sym (take-length first)))
    all l.invariant
