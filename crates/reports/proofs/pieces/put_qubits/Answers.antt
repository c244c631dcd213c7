-- `put_qubits`: the invariant is that the qubits from q on, put at `end`, make the text whole.
use Rattle.std.proofs.Common.{◌≡◌, ℕ, suc, ◌+◌, ◌-◌, ◌≤◌, ◌<◌, List, refl, sym, ◌∙◌, subst, arith, add-one}
use Rattle.lines.specs.Stored.{Stored, stored_none, stored_kept, stored_next}
use Rattle.reports.specs.Lengths.{qubit_most}
use Rattle.reports.specs.Text.{qubit_text, qubits_from}
use Rattle.reports.proofs.pieces.put_qubits.Invariants.{Left}
use Rattle.reports.proofs.pieces.put_qubits.Goals as goal

module _ {mask width at : ℕ} {old : List ℕ} {q end : ℕ} {now : List ℕ} (p : Left mask width at old q end now) where
  left_next : q < width → {next : ℕ} {behind : List ℕ} → Stored (qubit_text q mask) end now next behind → Left mask width at old (q + 1) next behind
  unfolding qubits_from
  left_next h s =
      let count : width - q ≡ suc (width - suc q) = omega (arith, h) in
      rw (add-one q) (record {
        narrow = p.narrow;
        room = omega (arith, h, p.room, s.ends, stored_kept s, p.narrow, qubit_most q mask (omega (arith, h, p.narrow)));
        long = stored_kept s ∙ p.long;
        whole = λ {last} {left} t. p.whole (subst (λ (k : ℕ). Stored (qubits_from q k mask) end now last left) (sym count) (stored_next s t));
      })

  left_none : width ≤ q → Stored (qubits_from 0 width mask) at old end now
  unfolding qubits_from
  left_none h =
      let count : width - q ≡ 0 = omega (arith, h) in
      p.whole (subst (λ (k : ℕ). Stored (qubits_from q k mask) end now end now) (sym count) stored_none)

pub loop-q-init : goal.loop-q-init
loop-q-init c =
    let all : c.args.width - 0 ≡ c.args.width = omega arith in
    record { narrow = c.requires.0; room = omega (arith, c.requires.1); long = refl; whole = λ {last} {left} p. rw all at p }

pub put_qubit-end-requires : goal.put_qubit-end-requires
put_qubit-end-requires c = (omega (arith, c.loop-q.invariant.narrow), omega (arith, c.loop-q.invariant.room))

pub loop-q-preserved : goal.loop-q-preserved
loop-q-preserved c = left_next c.loop-q.invariant c.loop-q-test.true c.put_qubit-end.ensures

pub returns : goal.returns
returns c = left_none c.loop-q.invariant c.loop-q-test.false
