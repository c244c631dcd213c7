-- `part`: what a list has behind its end.
use Rattle.std.proofs.Common.{sym}
use Rattle.std.specs.Float.Ieee.{of_bits}
use Rattle.std.proofs.lemmas.List.{get_or_past}
use Rattle.complex.proofs.amplitude.part.Goals as goal

pub returns-else-b-parts : goal.returns-else-b-parts
unfolding of_bits
returns-else-b-parts c = sym (get_or_past _ _ _ c.if-b-parts.false)
