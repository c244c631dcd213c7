use borrow.Author.Tests.{eq-eqb, ne_eqb}
use Rattle.amplitudelaws.specs.Rows.{pivot_mask}
use Rattle.rows.proofs.pivot_mask.Goals as goal

pub returns-then-pauli-eq0 : goal.returns-then-pauli-eq0
unfolding pivot_mask
returns-then-pauli-eq0 c = rw (eq-eqb c.args.pauli.x 0 c.if-pauli-eq0.true)

pub returns-else-pauli-eq0 : goal.returns-else-pauli-eq0
unfolding pivot_mask
returns-else-pauli-eq0 c = rw (ne_eqb c.args.pauli.x 0 c.if-pauli-eq0.false)
