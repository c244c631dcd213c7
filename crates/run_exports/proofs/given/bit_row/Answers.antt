use Rattle.std.proofs.Common.{◌∙◌}
use borrow.Author.Tests.{ne_eqb}
use Rattle.run_exports.proofs.Bits.{rotation_bit, projection_bit, no_bit}
use Rattle.run_exports.proofs.given.bit_row.Goals as goal

pub returns-then-given-eq-ROTATION : goal.returns-then-given-eq-ROTATION
returns-then-given-eq-ROTATION c = c.flag_row.ensures ∙ rotation_bit _ c.if-given-eq-ROTATION.true

pub returns-then-given-eq-PROJECTION : goal.returns-then-given-eq-PROJECTION
returns-then-given-eq-PROJECTION c = c.flag_row-then-given-eq-PROJECTION.ensures ∙ projection_bit _ c.if-given-eq-PROJECTION.true

pub returns : goal.returns
returns c = no_bit _ (ne_eqb _ _ c.if-given-eq-ROTATION.false) (ne_eqb _ _ c.if-given-eq-PROJECTION.false)
