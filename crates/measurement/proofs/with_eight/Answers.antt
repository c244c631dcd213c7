use Rattle.measurement.specs.Rows.{with_eight}
use Rattle.measurement.proofs.with_eight.Goals as goal

pub returns-then-from-is_finite : goal.returns-then-from-is_finite
unfolding with_eight
returns-then-from-is_finite c = rw (← c.is_finite.ensures, ← c.from.ensures, c.if-from-is_finite.true)

pub returns-else-from-is_finite : goal.returns-else-from-is_finite
unfolding with_eight
returns-else-from-is_finite c = rw (← c.is_finite.ensures, ← c.from.ensures, c.if-from-is_finite.false)
